-- The slices of a memory or of the caller while one of them is filled.
use Rattle.std.proofs.Common.{◌≡◌, ◌≢◌, ℕ, ◌+◌, ◌-◌, ◌<◌, List, length, get_or, arith, inl, inr, ap, ◌∙◌, zero, suc, ◌*◌, ◌/◌, ◌%◌, ◌^◌, [], ◌∷◌, map}
use Rattle.std.proofs.Common.{replicate, set, refl, sym, Vec, Global, ◌≤◌, drop}
use Rattle.std.specs.List.{remove}
use Rattle.std.proofs.lemmas.Bool.{cases_lt, lt-ltb, le-ltb}
use Rattle.std.proofs.lemmas.Bool.Decides.{eqb_tells}
use Rattle.std.proofs.lemmas.List.Edits.{get_or-remove_above, get_or-remove_below, length-remove}
use Rattle.argon2_memory.specs.Views.Jobs.{Job, IsJob}
use Rattle.argon2_memory.specs.Views.Places.{Places, AreFilledBelow, HoldOthers, rank_among, places_in, among, blocks_of_lane, places_of_slices}
use Rattle.argon2_memory.specs.Views.Segments.{segment_at, segment_block, zero_segment}
use Rattle.std.proofs.lemmas.List.{get_or-set_same, get_or-set_other, length-set, get_or-map, get_or_default, get_or-replicate, length-replicate}
use Rattle.std.proofs.lemmas.List.{map-set, set-set, get_or-take, get_or-drop, length-take, length-drop, map-append, length-map, take-map, drop-map}
use Rattle.argon2_blocks.specs.Standard.Block.{zero_block}
use Rattle.std.proofs.lemmas.List.FromFn.{length-map-range_with_len, get_or-map-range_with_len}
use Rattle.std.proofs.Math.Nat.{div-lt_iff_lt-mul, mul-le-mul_right}
use Rattle.argon2_memory.specs.declared.segment.own_blocks.Segment.{Segment}
use Rattle.argon2_memory.specs.Views.Memories.{segments_of, AreSlices, slice_writes, writes_in}
use Rattle.argon2_memory.specs.Standard.Kept.{segment_in, SegmentValue, no_segment}
use Rattle.argon2_memory.specs.Views.Filling.{IsSnapshot, SnapshotValue, IsBeside, other_blocks, segment_of_lane, slice_of_blocks, slices_of_blocks}
use Rattle.argon2_memory.specs.Views.Filling.{IsAround}
use Rattle.std.proofs.lemmas.List.Sums.{sum_by-set}
use Rattle.std.specs.Borrow.{Bor}
use Rattle.argon2_standard.specs.Standard.Setting.{Setting}

-- ---- from slice to slice, for blocks in a memory or in the caller's slices

-- ---- the slices other than the job's

-- `rank_among j k` is below 3 for each of the four slices k
pub rank_fits : (j : Job) → j.slice < 4 → (k : ℕ) → k < 4 → rank_among j k < 3
rank_fits j few k h = elim (cases_lt k j.slice) [
  | inl w ↦ rw (lt-ltb k j.slice w) (omega (arith, w, few))
  | inr w ↦ rw (le-ltb k j.slice w) (omega (arith, h))
]

-- once element `j.slice` is removed from a list, each other element k is at index `rank_among j k`
pub among-remove : {A : Type 0} (j : Job) (xs : List A) (d : A) → j.slice < length xs → (k : ℕ) → k ≢ j.slice →
    get_or (remove xs j.slice) (rank_among j k) d ≡ get_or xs k d
among-remove j xs d h k ne = elim (cases_lt k j.slice) [
  | inl w ↦ rw (lt-ltb k j.slice w) (get_or-remove_below xs j.slice d k w h)
  | inr w ↦ rw (le-ltb k j.slice w) (get_or-remove_above xs j.slice d (k - 1) (omega (arith, w, ne)) h ∙ ap (λ n. get_or xs n d) (omega (arith, w, ne)))
]

-- ---- before and after the job's slice is filled

module _ (j : Job) (places : Places) (ready : AreFilledBelow j.setting j.pass j.slice places) where
  -- the slices other than the job's hold the blocks that a fill of the job requires
  pub others_hold : (others : Places) → ((k lane : ℕ) → k ≢ j.slice → others k lane ≡ places k lane) → HoldOthers j others
  others_hold others same = record {
    lower = λ k lane h fits. same k lane (λ n. absurd (omega (arith, h, n))) ∙ ready.below k lane h fits;
    upper = λ k lane last low high fits p. same k lane (λ n. absurd (omega (arith, low, n)))
        ∙ (rw (← p) at (ready.above k lane (omega (arith, low)) high fits));
  }

  -- once the job's slice is filled too, all slices below the next one are filled
  pub filled_further : (next : Places) → ((k lane : ℕ) → k ≢ j.slice → next k lane ≡ places k lane) →
      ((lane : ℕ) → lane < j.setting.lanes → next j.slice lane ≡ segment_at j.setting j.pass j.slice lane) →
      AreFilledBelow j.setting j.pass (j.slice + 1) next
  filled_further next same holds = record {
    below = λ k lane h fits. elim (eqb_tells k j.slice) [
      | inl w ↦ rw w.1 (holds lane fits)
      | inr w ↦ same k lane w.1 ∙ ready.below k lane (omega (arith, h, w.1)) fits
    ];
    above = λ k lane low high fits. rw (same k lane (λ n. absurd (omega (arith, low, n)))) (ready.above k lane (omega (arith, low)) high fits);
  }

-- ---- the slices of a memory, one of which is filled while the others are read

-- ---- the memory without the job's slice, and with the filled slice set in

module _ (j : Job) (good : IsJob j) (m : List (List SegmentValue)) (slices : AreSlices j.setting.lanes j.setting.segment_length m)
    (ready : AreFilledBelow j.setting j.pass j.slice (places_in m)) where
  few : j.slice < length m
  few = let g = good.slice_fits in omega (arith, g, slices.count)

  at-other : (k : ℕ) → k ≢ j.slice → get_or (remove m j.slice) (rank_among j k) [] ≡ get_or m k []
  at-other k ne = among-remove j m [] few k ne

  pub is_snapshot : (o : List (List SegmentValue)) → o ≡ remove m j.slice → IsSnapshot (record { job = j; others = o })
  is_snapshot o e = rw e (record {
    beside = record {
      job = good;
      slices = let n = length-remove m j.slice few in omega (arith, n, slices.count);
      lanes = λ at h. elim (cases_lt at j.slice) [
        | inl w ↦
            let e : rank_among j at ≡ at = rw (lt-ltb at j.slice w) refl in
            ap (λ i. length (get_or (remove m j.slice) i [])) (sym e) ∙ ap (λ (l : List SegmentValue). length l) (at-other at (λ n. absurd
            (omega arith))) ∙ slices.lanes at (omega arith)
        | inr w ↦
            let e : rank_among j (at + 1) ≡ at = rw (le-ltb (at + 1) j.slice (omega arith)) (omega arith) in
            ap (λ i. length (get_or (remove m j.slice) i [])) (sym e) ∙ ap (λ (l : List SegmentValue). length l) (at-other (at + 1) (λ n. absurd
            (omega arith))) ∙ slices.lanes (at + 1) (omega arith)
      ];
      blocks = λ k lane h ne fits. ap (λ (l : List SegmentValue). length (get_or l lane no_segment).blocks) (at-other k ne) ∙ slices.blocks k lane h fits;
    };
    held = others_hold j (places_in m) ready _ (λ k lane ne. ap (λ (l : List SegmentValue). (get_or l lane no_segment).blocks) (at-other k ne));
  })

  module _ (new : List SegmentValue) (lanes : length new ≡ j.setting.lanes)
      (filled : (lane : ℕ) → lane < j.setting.lanes → (get_or new lane no_segment).blocks ≡ segment_at j.setting j.pass j.slice lane) where
    at-same : get_or (set m j.slice new) j.slice [] ≡ new
    at-same = get_or-set_same m j.slice new [] (let g = good.slice_fits in omega (arith, g, slices.count))

    at-else : (k : ℕ) → k ≢ j.slice → get_or (set m j.slice new) k [] ≡ get_or m k []
    at-else k ne = get_or-set_other m j.slice k new [] ne

    pub slices_stay : AreSlices j.setting.lanes j.setting.segment_length (set m j.slice new)
    slices_stay = record {
      count = length-set m j.slice new ∙ slices.count;
      lanes = λ k h. elim (eqb_tells k j.slice) [
        | inl w ↦ rw w.1 (ap (λ (l : List SegmentValue). length l) at-same ∙ lanes)
        | inr w ↦ ap (λ (l : List SegmentValue). length l) (at-else k w.1) ∙ slices.lanes k h
      ];
      blocks = λ k lane h fits. elim (eqb_tells k j.slice) [
        | inl w ↦ rw w.1 (ap (λ (l : List SegmentValue). length (get_or l lane no_segment).blocks) at-same
            ∙ ap (λ (l : List (List ℕ)). length l) (filled lane fits) ∙ length-map-range_with_len
            (segment_block j.setting j.pass j.slice lane) 0 j.setting.segment_length)
        | inr w ↦ ap (λ (l : List SegmentValue). length (get_or l lane no_segment).blocks) (at-else k w.1) ∙ slices.blocks k lane h fits
      ];
    }

    pub filled_next : AreFilledBelow j.setting j.pass (j.slice + 1) (places_in (set m j.slice new))
    filled_next = filled_further j (places_in m) ready (places_in (set m j.slice new))
        (λ k lane ne. ap (λ (l : List SegmentValue). (get_or l lane no_segment).blocks) (at-else k ne))
        (λ lane fits. ap (λ (l : List SegmentValue). (get_or l lane no_segment).blocks) at-same ∙ filled lane fits)

-- if the new slice k counts d writes more than the old one, modulo 2 ^ 64, then the memory also counts d writes more
pub set-writes : (m : List (List SegmentValue)) (k d : ℕ) (new : List SegmentValue) → k < length m →
    slice_writes new % 2 ^ 64 ≡ (slice_writes (get_or m k []) + d) % 2 ^ 64 → writes_in (set m k new) ≡ (writes_in m + d) % 2 ^ 64
set-writes m k d new h e = let b = sum_by-set slice_writes m k new [] h in omega (arith, b, e)

-- setting element k does not change the list without element k
pub remove-set : {A : Type 0} (xs : List A) (k : ℕ) (x : A) → k < length xs → remove (set xs k x) k ≡ remove xs k
remove-set [] k x h = absurd (omega arith)
remove-set (y ∷ ys) zero x h = refl
remove-set (y ∷ ys) (suc k) x h = ap (λ l. y ∷ l) (remove-set ys k x (omega arith))

module _ (old taken : List (Vec Segment Global)) (k : ℕ) (left : segments_of taken ≡ set (segments_of old) k []) where
  pub others-taken : k < length (segments_of old) → remove (segments_of taken) k ≡ remove (segments_of old) k
  others-taken h = ap (λ (l : List (List SegmentValue)). remove l k) left ∙ remove-set (segments_of old) k [] h

  pub put_back : (w : Vec Segment Global) (new : List SegmentValue) → w.items ≡ new → segments_of (set taken k w) ≡ set (segments_of old) k new
  put_back w new e =
      map-set (λ (v : Vec Segment Global). v.items) taken k w
      ∙ ap (λ (l : List (List SegmentValue)). set l k w.items) left
      ∙ set-set (segments_of old) k [] w.items
      ∙ ap (λ (l : List SegmentValue). set (segments_of old) k l) e

-- ---- reads of one segment, and the bounds of slices and columns

-- if v is element k of `xs`, then f v is element k of `map f xs`
pub read_slice : {V : Type 0} (f : V → List SegmentValue) (xs : List V) (k : ℕ) (v : V) → k < length xs → v ≡ get_or xs k v → f v ≡ get_or (map f xs) k []
read_slice f xs k v h e = ap f e ∙ sym (get_or-map f xs k v [] h)

module _ (p len : ℕ) (m : List (List SegmentValue)) (slices : AreSlices p len m) (k lane : ℕ) (few : k < 4) (fits : lane < p) where
  pub read_in : (segments : List SegmentValue) (segment : SegmentValue) → segments ≡ get_or m k [] → segment ≡ get_or segments lane segment
      → segment ≡ segment_in m k lane
  read_in segments segment e h =
      h ∙ get_or_default segments lane segment no_segment (let l = ap (λ (x : List SegmentValue). length x) e in let n = slices.lanes k few in
      omega (arith, l, n))
      ∙ ap (λ (x : List SegmentValue). get_or x lane no_segment) e

-- four slices, each of p segments of len blocks of zeros, meet `AreSlices p len`
pub zeros_are : (p len : ℕ) → AreSlices p len (replicate 4 (replicate p (zero_segment len)))
zeros_are p len = record {
  count = refl;
  lanes = λ k h. ap (λ (l : List SegmentValue). length l) (get_or-replicate 4 k (replicate p (zero_segment len)) [] h) ∙ length-replicate p (zero_segment len);
  blocks = λ k lane h fits. ap (λ (l : List SegmentValue). length (get_or l lane no_segment).blocks) (get_or-replicate 4 k (replicate p
      (zero_segment len)) [] h)
      ∙ ap (λ (x : SegmentValue). length x.blocks) (get_or-replicate p lane (zero_segment len) no_segment fits) ∙ length-replicate len zero_block;
}

-- if n is a multiple of 4 and p * n is below 2 ^ 32, then 4 * p * (n / 4) is below 2 ^ 32
pub whole_lanes : (p n : ℕ) → n % 4 ≡ 0 → p * n < 2 ^ 32 → 4 * p * (n / 4) < 2 ^ 32
whole_lanes p n e h = let k : 4 * (n / 4) ≡ n = omega (arith, e) in let m = ap (λ x. p * x) k in omega (arith, m, h)

-- the slice `column / len` of a column below 4 * len is one of the four slices
pub slice_fits : (column len : ℕ) → column < 4 * len → column / len < 4
slice_fits column len h = (div-lt_iff_lt-mul (omega (arith, h))).1 h

-- ---- slices of the caller, which store their blocks lane after lane

-- block `index` of a lane's part of a slice is block `lane * segment_length + index` of the slice
pub get-blocks_of_lane : (s : Setting) (blocks : List (List ℕ)) (lane index : ℕ) → index < s.segment_length →
    get_or (blocks_of_lane s blocks lane) index [] ≡ get_or blocks (lane * s.segment_length + index) []
get-blocks_of_lane s blocks lane index h =
    get_or-take s.segment_length (drop (lane * s.segment_length) blocks) index [] h ∙ get_or-drop (lane * s.segment_length) blocks index []

module _ (s : Setting) (others : List (Bor (List (List ℕ)))) (at lane index : ℕ) (o : Bor (List (List ℕ))) (four : length others ≡ 4) (at_fits : at < 4)
    (lane_fits : lane < s.lanes) (is : o ≡ get_or others at o) where
  -- segment `lane` of slice number `at` of `slices_of_blocks` is `segment_of_lane` of the caller's slice `o`
  pub segment-is : get_or (get_or (slices_of_blocks s others) at []) lane no_segment ≡ segment_of_lane s o.now lane
  segment-is =
      ap (λ (l : List SegmentValue). get_or l lane no_segment)
      (get_or-map (λ (b : Bor (List (List ℕ))). slice_of_blocks s b.now) others at o [] (omega (arith, four))
      ∙ ap (λ (b : Bor (List (List ℕ))). slice_of_blocks s b.now) (sym is))
      ∙ get_or-map-range_with_len (segment_of_lane s o.now) 0 s.lanes lane lane no_segment lane_fits (omega arith)

  pub place_fits : index < length (get_or (get_or (slices_of_blocks s others) at []) lane no_segment).blocks → lane * s.segment_length + index < length o.now
  place_fits made =
      let e = ap (λ (x : SegmentValue). length x.blocks) segment-is in
      let t = length-take s.segment_length (drop (lane * s.segment_length) o.now) in
      let d = length-drop (lane * s.segment_length) o.now in
      omega (arith, e, t, d, made)

  pub block-is : index < s.segment_length → (place : ℕ) → place ≡ lane * s.segment_length + index → place < length o.now → (block : List ℕ) →
      block ≡ get_or o.now place block → block ≡ get_or (get_or (get_or (slices_of_blocks s others) at []) lane no_segment).blocks index []
  block-is index_fits place e fits block read =
      read ∙ get_or_default o.now place block [] fits ∙ ap (λ n. get_or o.now n []) e
      ∙ sym (get-blocks_of_lane s o.now lane index index_fits)
      ∙ sym (ap (λ (x : SegmentValue). get_or x.blocks index []) segment-is)

-- each lane's part of a slice of `lanes * segment_length` blocks consists of `segment_length` blocks
pub length-blocks_of_lane : (s : Setting) (blocks : List (List ℕ)) (lane : ℕ) → length blocks ≡ s.lanes * s.segment_length → lane < s.lanes →
    length (blocks_of_lane s blocks lane) ≡ s.segment_length
length-blocks_of_lane s blocks lane long fits =
    let next : lane + 1 ≤ s.lanes = omega arith in
    let m = mul-le-mul_right s.segment_length next in
    let t = length-take s.segment_length (drop (lane * s.segment_length) blocks) in
    let d = length-drop (lane * s.segment_length) blocks in
    omega (arith, long, m, t, d)

module _ (j : Job) (good : IsJob j) (a b c : List (List ℕ)) (long-a : length a ≡ j.setting.lanes * j.setting.segment_length)
    (long-b : length b ≡ j.setting.lanes * j.setting.segment_length) (long-c : length c ≡ j.setting.lanes * j.setting.segment_length) where
  -- the snapshot whose other slices are the caller's slices a, b and c
  abbrev v : SnapshotValue
  v = record { job = j; others = slice_of_blocks j.setting a ∷ slice_of_blocks j.setting b ∷ slice_of_blocks j.setting c ∷ [] }

  abbrev lists : List (List (List ℕ))
  lists = a ∷ b ∷ c ∷ []

  slice-at : (at : ℕ) → at < 3 → get_or v.others at [] ≡ slice_of_blocks j.setting (get_or lists at [])
  slice-at zero h = refl
  slice-at (suc zero) h = refl
  slice-at (suc (suc zero)) h = refl
  slice-at (suc (suc (suc at))) h = absurd (omega arith)

  long-at : (at : ℕ) → at < 3 → length (get_or lists at []) ≡ j.setting.lanes * j.setting.segment_length
  long-at zero h = long-a
  long-at (suc zero) h = long-b
  long-at (suc (suc zero)) h = long-c
  long-at (suc (suc (suc at))) h = absurd (omega arith)

  place-is : (slice lane : ℕ) → slice < 4 → lane < j.setting.lanes →
      other_blocks v slice lane ≡ blocks_of_lane j.setting (get_or lists (rank_among j slice) []) lane
  place-is slice lane h fits =
      ap (λ (l : List SegmentValue). (get_or l lane no_segment).blocks) (slice-at (rank_among j slice) (rank_fits j good.slice_fits slice h))
      ∙ ap (λ (x : SegmentValue). x.blocks) (get_or-map-range_with_len (segment_of_lane j.setting (get_or lists (rank_among j slice) [])) 0
      j.setting.lanes lane lane no_segment fits (omega arith))

  pub caller_beside : IsBeside v
  caller_beside = record {
    job = good;
    slices = refl;
    lanes = λ at h. ap (λ (l : List SegmentValue). length l) (slice-at at h)
        ∙ length-map-range_with_len (segment_of_lane j.setting (get_or lists at [])) 0 j.setting.lanes;
    blocks = λ slice lane h ne fits. ap (λ (l : List (List ℕ)). length l) (place-is slice lane h fits)
        ∙ length-blocks_of_lane j.setting (get_or lists (rank_among j slice) []) lane (long-at (rank_among j slice) (rank_fits j good.slice_fits slice h)) fits;
  }

  pub caller_snapshot : HoldOthers j (among j (places_of_slices j.setting lists)) → IsSnapshot v
  caller_snapshot given = record {
    beside = caller_beside;
    held = record {
      lower = λ slice lane h fits. place-is slice lane (let g = good.slice_fits in omega (arith, h, g)) fits ∙ given.lower slice lane h fits;
      upper = λ slice lane last low high fits p. place-is slice lane high fits ∙ given.upper slice lane last low high fits p;
    };
  }

-- ---- lists of four slices in which another slice replaces the job's own

pub map-remove : {A B : Type 0} (f : A → B) (xs : List A) (i : ℕ) → map f (remove xs i) ≡ remove (map f xs) i
map-remove f xs i = rw (map-append, ← take-map, ← drop-map) refl

-- three others and a stand-in for the job's own, mapped to slices by f, are `IsAround`
pub around : {A : Type 0} (f : A → List SegmentValue) (j : Job) (others four : List A) → IsBeside (record { job = j; others = map f others }) →
    length four ≡ 4 → remove four j.slice ≡ others → ((d : A) → get_or four j.slice d ≡ get_or others 0 d) → IsAround j (map f four)
around f j [] four beside count removed stand_in = absurd (let e = beside.slices in omega (arith, e))
around f j (o ∷ rest) four beside count removed stand_in =
    let same : map f (o ∷ rest) ≡ remove (map f four) j.slice = ap (λ l. map f l) (sym removed) ∙ map-remove f four j.slice in
    record {
      beside = rw same at beside;
      count = length-map four f ∙ count;
      stand_in = get_or-map f four j.slice o [] (let h = beside.job.slice_fits in omega (arith, h, count)) ∙ ap f (stand_in o)
          ∙ ap (λ (l : List (List SegmentValue)). get_or l 0 []) same;
    }

module _ (j : Job) (slices : List (List SegmentValue)) (around : IsAround j slices) where
  -- a slice other than the job's own is at index `rank_among j slice` once the job's own is removed
  pub other-is : (slice : ℕ) → slice < 4 → slice ≢ j.slice → get_or slices slice [] ≡ get_or (remove slices j.slice) (rank_among j slice) []
  other-is slice fits other =
      let own : j.slice < length slices = let h = around.beside.job.slice_fits in let n = around.count in omega (arith, h, n) in
      sym (among-remove j slices [] own slice other)

  -- each of the four slices equals a slice k other than the job's
  is-other : (slice : ℕ) → slice < 4 →
      (k : ℕ) × ((k < 4) × (k ≢ j.slice) × (get_or slices slice [] ≡ get_or (remove slices j.slice) (rank_among j k) []))
  is-other slice fits = elim (eqb_tells slice j.slice) [
    | inr w ↦ (slice, (fits, w.1, other-is slice fits w.1))
    | inl w ↦
        let own = ap (λ n. get_or slices n []) w.1 ∙ around.stand_in in
        let at : ℕ → List SegmentValue = λ n. get_or (remove slices j.slice) n [] in
        elim (eqb_tells j.slice 0) [
          | inl z ↦ (1, (omega arith, (λ e. absurd (omega (arith, e, z.1))), own ∙ ap at (rw (le-ltb 1 j.slice (omega (arith, z.1))) refl)))
          | inr z ↦ (0, (omega arith, (λ e. absurd (omega (arith, e, z.1))), own ∙ ap at (rw (lt-ltb 0 j.slice (omega (arith, z.1))) refl)))
        ]
  ]

  pub lanes-at : (slice : ℕ) → slice < 4 → length (get_or slices slice []) ≡ j.setting.lanes
  lanes-at slice fits =
      let (k, (k_fits, other, e)) = is-other slice fits in
      ap (λ (l : List SegmentValue). length l) e ∙ around.beside.lanes (rank_among j k) (rank_fits j around.beside.job.slice_fits k k_fits)

  pub blocks-at : (slice lane : ℕ) → slice < 4 → lane < j.setting.lanes →
      length (get_or (get_or slices slice []) lane no_segment).blocks ≡ j.setting.segment_length
  blocks-at slice lane fits lane_fits =
      let (k, (k_fits, other, e)) = is-other slice fits in
      ap (λ (l : List SegmentValue). length (get_or l lane no_segment).blocks) e ∙ around.beside.blocks k lane k_fits other lane_fits
