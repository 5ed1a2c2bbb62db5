-- Every order of the single writes leads to the blocks of the recurrence.
use Rattle.std.proofs.Common.{◌≡◌, ℕ, zero, suc, ◌+◌, ◌-◌, ◌*◌, ◌/◌, ◌<◌, ◌≤◌, ◌⊎◌, Bool, true, false, List, [], ◌∷◌, ◌++◌, refl, arith, cond, inl}
use Rattle.std.proofs.Common.{inr, sym, ◌∙◌, ap, ◌%◌}
use Rattle.std.specs.Prelude.{◌==◌, ◌&&◌, nat_lt}
use Rattle.std.specs.List.{AllByRecursion, count_by, fold}
use Rattle.std.proofs.lemmas.Bool.Decides.{eqb_tells}
use Rattle.std.proofs.lemmas.Bool.{and_parts, ltb-true, lt-ltb, le-ltb, eq-eqb, ne_eqb}
use Rattle.std.proofs.lemmas.List.Sums.{sum_by-cons}
use Rattle.std.proofs.Math.Nat.{mul-le-mul_right, add-mul-div_right, div-eq_of_lt}
use Rattle.argon2_blocks.specs.Standard.Block.{xor}
use Rattle.argon2_blocks.specs.Standard.Compression.{compress_g}
use Rattle.argon2_standard.specs.Standard.Setting.{Setting, Position, lane_length, slice_of}
use Rattle.argon2_memory.specs.Views.Jobs.{IsSetting, IsPosition}
use Rattle.argon2_standard.specs.Standard.Reference.{previous, pick}
use Rattle.argon2_standard.specs.Standard.Recurrence.{Blocks, drawn_word, next_block, recurrence, block_at, first_block, combines}
use Rattle.argon2_memory.specs.Theorems.Schedule.{Matrix, matrix_with, IsBegun, Progress, blocks_in_slice, block_from, next_column, step, IsSchedule, after_slice, after_slices}
use Rattle.argon2_memory.proofs.Recurrences.{pick-readable, drawn_lane_fits, later_index, same_choice, block_at-recurrence}
use Rattle.std.proofs.lemmas.List.{append-nil}
use Rattle.argon2_memory.specs.Theorems.AnyOrder.{EveryOrderAgrees}

-- ---- whatever the order of the single writes, the matrix ends with the blocks of the recurrence

-- the lane that a word picks is one of the setting's lanes
pub pick-lane_fits : (s : Setting) (word : ℕ) (at : Position) → IsSetting s → IsPosition s at → (pick s word at).lane < s.lanes
unfolding pick
pick-lane_fits s word at good here = drawn_lane_fits s word at good here

-- ---- one write

-- if the matrix agrees with f at the places read, the block made from the matrix is `next_block` of f
pub from_reads : (s : Setting) (at : Position) (m : Matrix) (f : Blocks) →
    m (previous s at).lane (previous s at).column ≡ f (previous s at) →
    ((word : ℕ) → m (pick s word at).lane (pick s word at).column ≡ f (pick s word at)) →
    (0 < at.pass → m at.lane at.column ≡ f (record at { pass = at.pass - 1 })) →
    block_from s m at ≡ next_block s f at
from_reads s at m f before picked old =
    let now = picked (drawn_word s f at) in
    rw (before, now) (same_choice (combines s.version && nat_lt 0 at.pass) _ _ _ _
    (λ h. ap (λ block. xor (compress_g (f (previous s at)) (f (pick s (drawn_word s f at) at))) block) (old (ltb-true 0 at.pass (and_parts (combines s.version) _ h).1)))
    (λ h. refl))

-- ---- the matrix in the middle of a slice

-- in each lane, the columns below `next_column` hold this pass's blocks, the others the previous pass's (after pass 0)
pub record Stands (s : Setting) (pass slice : ℕ) (m : Matrix) (done : ℕ → ℕ) : Type 0 where
  pub now : (r lane column : ℕ) → r ≡ pass → lane < s.lanes → column < lane_length s →
      column < next_column s pass slice (done lane) → m lane column ≡ block_at s (record { pass = r; lane = lane; column = column })
  pub last : (r lane column : ℕ) → suc r ≡ pass → lane < s.lanes → column < lane_length s →
      next_column s pass slice (done lane) ≤ column → m lane column ≡ block_at s (record { pass = r; lane = lane; column = column })

-- the number of blocks skipped at the front of a slice plus the number written is the segment length
pub front_whole : (b : Bool) (len : ℕ) → 2 ≤ len → cond b 2 0 + cond b (len - 2) len ≡ len
front_whole true len h = omega arith
front_whole false len h = omega arith

-- the next place that a lane writes is in a pass after 0 or in a column after the first two
later_front : (len pass slice d : ℕ) → 2 ≤ len → 0 < pass ⊎ 1 < slice * len + cond ((pass == 0) && (slice == 0)) 2 0 + d
later_front len pass slice d h = elim (later_index pass slice len (cond ((pass == 0) && (slice == 0)) 2 0 + d)
    (omega arith) h) [ inl w ↦ inl w | inr w ↦ inr (omega (arith, w)) ]

-- a place in a pass after 0 or in a column after the first two fails the test for first blocks
not_first' : (pass column : ℕ) → (0 < pass ⊎ 1 < column) → ((pass == 0) && nat_lt column 2) ≡ false
not_first' zero column (inl h) = absurd (omega arith)
not_first' zero column (inr h) = le-ltb column 2 h
not_first' (suc pass) column h = elim (eqb_tells (suc pass) 0) [ inl w ↦ absurd (omega (arith, w.1)) | inr w ↦ rw w.0 refl ]

-- in a pass after 0 or in a column after the first two, the recurrence is `next_block`
pub recurrence_later : (s : Setting) (f : Blocks) (at : Position) → (0 < at.pass ⊎ 1 < at.column) → recurrence s f at ≡ next_block s f at
recurrence_later s f at later = rw (not_first' at.pass at.column later) refl

-- the column at index j of a slice's segment, `slice * len + j`, is in that slice
pub slice_of_sum : (len slice j : ℕ) → 0 < len → j < len → (slice * len + j) / len ≡ slice
slice_of_sum len slice j h k =
    let e : slice * len + j ≡ j + slice * len = omega arith in
    let q : j / len ≡ 0 = div-eq_of_lt k in
    rw e (add-mul-div_right j slice h ∙ (rw q (omega arith)))

module _ (s : Setting) (good : IsSetting s) (pass slice : ℕ) (few : slice < 4) (m : Matrix) (done : ℕ → ℕ)
    (stands : Stands s pass slice m done)
    (bounded : (lane : ℕ) → lane < s.lanes → done lane ≤ blocks_in_slice s pass slice)
    (l : ℕ) (l_fits : l < s.lanes) (room : done l < blocks_in_slice s pass slice) where
  abbrev c : ℕ
  c = next_column s pass slice (done l)

  abbrev at : Position
  at = record { pass = pass; lane = l; column = c }

  slices_fit : (slice + 1) * s.segment_length ≤ lane_length s
  slices_fit = let few' : slice + 1 ≤ 4 = omega arith in mul-le-mul_right s.segment_length few'

  inside : cond ((pass == 0) && (slice == 0)) 2 0 + done l < s.segment_length
  inside = let whole = front_whole ((pass == 0) && (slice == 0)) s.segment_length good.long_segments in omega (arith, whole, room)

  pub same_slice : slice_of s c ≡ slice
  same_slice =
      let e : c ≡ slice * s.segment_length + (cond ((pass == 0) && (slice == 0)) 2 0 + done l) = omega arith in
      rw e (slice_of_sum s.segment_length slice _ (omega (arith, good.long_segments)) inside)

  pub here : IsPosition s at
  here = record { lane_fits = l_fits; column_fits = let i = inside in let k = slices_fit in omega (arith, i, k) }

  pub later : 0 < pass ⊎ 1 < c
  later = later_front s.segment_length pass slice (done l) good.long_segments

  read_before : m (previous s at).lane (previous s at).column ≡ block_at s (previous s at)
  read_before = elim (eqb_tells c 0) [
    | inl w ↦ rw w.0 (stands.last (pass - 1) l (lane_length s - 1)
        (elim later [ inl h ↦ omega arith | inr h ↦ absurd (omega (arith, w.1)) ]) l_fits (omega (arith, good.long_segments)) (omega (arith, w.1)))
    | inr w ↦ rw w.0 (stands.now pass l (c - 1) refl l_fits (let f = here.column_fits in omega (arith, f)) (omega (arith, w.1)))
  ]

  pub read_pick : (word : ℕ) → m (pick s word at).lane (pick s word at).column ≡ block_at s (pick s word at)
  read_pick word =
      let start : slice_of s c * s.segment_length ≡ slice * s.segment_length = ap (λ z. z * s.segment_length) same_slice in
      let lane_fits = pick-lane_fits s word at good here in
      let most = bounded (pick s word at).lane lane_fits in
      let whole = front_whole ((pass == 0) && (slice == 0)) s.segment_length good.long_segments in
      elim (pick-readable s word at good here later) [
        | inl w ↦ stands.last (pick s word at).pass (pick s word at).lane (pick s word at).column w.0 lane_fits w.2
            (omega (arith, w.1, most, whole, start))
        | inr v ↦ elim v [
          | inl w ↦ stands.now (pick s word at).pass (pick s word at).lane (pick s word at).column w.0 lane_fits
              (let k = slices_fit in omega (arith, w.1, start, k)) (omega (arith, w.1, start))
          | inr w ↦ stands.now (pick s word at).pass (pick s word at).lane (pick s word at).column w.0 lane_fits
              (let f = here.column_fits in omega (arith, w.2, f)) (rw w.1 w.2)
        ]
      ]

  read_old : 0 < pass → m l c ≡ block_at s (record at { pass = pass - 1 })
  read_old h = stands.last (pass - 1) l c (omega arith) l_fits here.column_fits (omega arith)

  new_block : block_from s m at ≡ block_at s at
  new_block = from_reads s at m (block_at s) read_before read_pick read_old
      ∙ sym (recurrence_later s (block_at s) at later) ∙ sym (block_at-recurrence s good at here)

  pub step-stands : Stands s pass slice (matrix_with m l c (block_from s m at)) (λ x. cond (x == l) (done x + 1) (done x))
  step-stands = record {
    now = λ r lane column e fits in_lane below. elim (eqb_tells lane l) [
      | inl w ↦ elim (eqb_tells column c) [
        | inl v ↦ rw (w.0, v.0, e, w.1, v.1) new_block
        | inr v ↦ rw (w.0, v.0) (stands.now r lane column e fits in_lane
            (let b = rw w.0 at below in let d : done lane ≡ done l = ap done w.1 in omega (arith, b, d, v.1)))
      ]
      | inr w ↦ rw w.0 (stands.now r lane column e fits in_lane (rw w.0 at below))
    ];
    last = λ r lane column e fits in_lane above. elim (eqb_tells lane l) [
      | inl w ↦ elim (eqb_tells column c) [
        | inl v ↦ absurd (let b = rw w.0 at above in let d : done lane ≡ done l = ap done w.1 in omega (arith, b, d, v.1))
        | inr v ↦ rw (w.0, v.0) (stands.last r lane column e fits in_lane
            (let b = rw w.0 at above in omega (arith, b)))
      ]
      | inr w ↦ rw w.0 (stands.last r lane column e fits in_lane (rw w.0 at above))
    ];
  }

-- ---- a whole slice

-- after an entry of lane x, the blocks done and the blocks left of each lane still add up to `blocks`
count_moves : (x lane d n blocks : ℕ) → d + (cond (x == lane) 1 0 + n) ≡ blocks → cond (lane == x) (d + 1) d + n ≡ blocks
count_moves x lane d n blocks h = elim (eqb_tells lane x) [
  | inl w ↦ rw w.0 (let k = rw (eq-eqb x lane (sym w.1)) at h in omega (arith, k))
  | inr w ↦ rw w.0 (let k = rw (ne_eqb x lane (λ e. w.1 (sym e))) at h in omega (arith, k))
]

-- if at least one entry of lane x is left, the number d of blocks done is below `blocks`
pub count_room : (x d n blocks : ℕ) → d + (cond (x == x) 1 0 + n) ≡ blocks → d < blocks
count_room x d n blocks h = let k = rw (eq-eqb x x refl) at h in omega (arith, k)

module _ (s : Setting) (good : IsSetting s) (pass slice : ℕ) (few : slice < 4) where
  -- the writes of `entries` preserve `Stands`, and then each lane's `done` plus the number of its entries in `rest` is
  -- the number of blocks that the lane writes in the slice
  pub run-stands : (entries rest : List ℕ) (p : Progress) → Stands s pass slice p.matrix p.done →
      AllByRecursion (λ lane. lane < s.lanes) (entries ++ rest) →
      ((lane : ℕ) → lane < s.lanes → p.done lane + count_by (λ l. l == lane) (entries ++ rest) ≡ blocks_in_slice s pass slice) →
      Stands s pass slice (fold (step s pass slice) p entries).matrix (fold (step s pass slice) p entries).done
      × ((lane : ℕ) → lane < s.lanes → (fold (step s pass slice) p entries).done lane + count_by (λ l. l == lane) rest ≡ blocks_in_slice s pass slice)
  unfolding step
  run-stands [] rest p stands fit often = (stands, often)
  run-stands (x ∷ xs) rest p stands fit often =
      let counted : (lane : ℕ) → lane < s.lanes → p.done lane + (cond (x == lane) 1 0 + count_by (λ l. l == lane) (xs ++ rest)) ≡ blocks_in_slice s pass slice =
      λ lane h. sym (ap (λ n. p.done lane + n) (sum_by-cons (λ l. cond (l == lane) 1 0) x (xs ++ rest))) ∙ often lane h in
      run-stands xs rest (step s pass slice p x)
      (step-stands s good pass slice few p.matrix p.done stands
      (λ lane h. let k = counted lane h in omega (arith, k)) x fit.0 (count_room x (p.done x) _ _ (counted x fit.0)))
      fit.1
      (λ lane h. count_moves x lane (p.done lane) _ _ (counted lane h))

-- in the first two columns of pass 0, the recurrence is `first_block`
pub recurrence_first : (s : Setting) (f : Blocks) (lane column : ℕ) → column < 2 →
    recurrence s f (record { pass = 0; lane = lane; column = column }) ≡ first_block s (record { pass = 0; lane = lane; column = column })
recurrence_first s f lane column h = rw (lt-ltb column 2 h) refl

-- ---- every order of the writes leads to the same blocks: from slice to slice, to the end of the last pass

-- ---- from slice to slice

-- if a or b is above 0, the test that both are 0 is false
pub neither : (a b : ℕ) → (0 < a ⊎ 0 < b) → ((a == 0) && (b == 0)) ≡ false
neither a b h = elim (eqb_tells a 0) [
  | inl w ↦ rw (w.0, ne_eqb b 0 (λ e. absurd (elim h [ inl l ↦ omega (arith, l, w.1) | inr l ↦ omega (arith, l, e) ]))) refl
  | inr w ↦ rw w.0 refl
]

-- a slice that is not the first of pass 0 skips no blocks at its front
pub no_skip : (pass slice : ℕ) → (0 < pass ⊎ 0 < slice) → ◌≡◌ {A = ℕ} (cond ((pass == 0) && (slice == 0)) 2 0) 0
no_skip pass slice h = rw (neither pass slice h) refl

-- slice' of pass' is the next slice after `slice` of `pass`, in the same pass or at the start of the next
abbrev pub IsNext : ℕ → ℕ → ℕ → ℕ → Type 0
IsNext pass slice pass' slice' =
    ((slice + 1 ≡ slice') × (pass ≡ pass')) ⊎ ((slice ≡ 3) × (slice' ≡ 0) × (pass + 1 ≡ pass'))

-- counted over all passes, slice number n + 1 is the next slice after slice number n
pub is_next : (n : ℕ) → IsNext (n / 4) (n % 4) (suc n / 4) (suc n % 4)
is_next n = elim (eqb_tells (n % 4) 3) [
  | inl w ↦ inr (w.1, omega (arith, w.1), omega (arith, w.1))
  | inr w ↦ inl (omega (arith, w.1), omega (arith, w.1))
]

module _ (s : Setting) (good : IsSetting s) (pass slice pass' slice' : ℕ) (m : Matrix) (done : ℕ → ℕ)
    (stands : Stands s pass slice m done)
    (all_done : (lane : ℕ) → lane < s.lanes → done lane ≡ blocks_in_slice s pass slice) where
  front : (lane : ℕ) → lane < s.lanes → next_column s pass slice (done lane) ≡ slice * s.segment_length + s.segment_length
  front lane h =
      let whole = front_whole ((pass == 0) && (slice == 0)) s.segment_length good.long_segments in
      omega (arith, whole, all_done lane h)

  pub next-stands : IsNext pass slice pass' slice' → Stands s pass' slice' m (λ lane. 0)
  next-stands (inl w) =
      let none = no_skip pass' slice' (inr (omega (arith, w.0))) in
      let start : slice' * s.segment_length ≡ slice * s.segment_length + s.segment_length = rw (sym w.0) (omega arith) in
      record {
        now = λ r lane column e fits in_lane below. stands.now r lane column (e ∙ sym w.1) fits in_lane
            (let f = front lane fits in omega (arith, f, below, none, start));
        last = λ r lane column e fits in_lane above. stands.last r lane column (e ∙ sym w.1) fits in_lane
            (let f = front lane fits in omega (arith, f, above, none, start));
      }
  next-stands (inr w) =
      let none = no_skip pass' slice' (inl (omega (arith, w.2))) in
      let start : slice' * s.segment_length ≡ 0 = rw w.1 (omega arith) in
      let end : slice * s.segment_length ≡ 3 * s.segment_length = ap (λ z. z * s.segment_length) w.0 in
      record {
        now = λ r lane column e fits in_lane below. absurd (omega (arith, below, none, start));
        last = λ r lane column e fits in_lane above. stands.now r lane column (omega (arith, e, w.2)) fits in_lane
            (let f = front lane fits in omega (arith, f, end, in_lane));
      }

module _ (s : Setting) (good : IsSetting s) (order : ℕ → List ℕ)
    (orders : (n : ℕ) → n < 4 * s.passes → IsSchedule s (n / 4) (n % 4) (order n))
    (matrix : Matrix) (begun : IsBegun s matrix) where
  begins : Stands s 0 0 matrix (λ lane. 0)
  begins = record {
    now = λ r lane column e fits in_lane below.
        let first : column < 2 = omega (arith, below) in
        begun lane column fits first
        ∙ (rw e (sym (block_at-recurrence s good (record { pass = 0; lane = lane; column = column })
        (record { lane_fits = fits; column_fits = in_lane })
        ∙ recurrence_first s (block_at s) lane column first)));
    last = λ r lane column e fits in_lane above. absurd (omega (arith, e));
  }

  pub after-stands : (n : ℕ) → n ≤ 4 * s.passes → Stands s (n / 4) (n % 4) (after_slices s order n matrix) (λ lane. 0)
  unfolding after_slices after_slice
  after-stands zero h = begins
  after-stands (suc n) h =
      let plan = orders n (omega arith) in
      let few : n % 4 < 4 = omega arith in
      let run = run-stands s good (n / 4) (n % 4) few (order n) [] (record { matrix = after_slices s order n matrix; done = λ lane. 0 })
      (after-stands n (omega arith)) (rw append-nil plan.lanes_fit) (λ lane fits. rw (append-nil, plan.each_often lane fits) (omega arith)) in
      next-stands s good (n / 4) (n % 4) (suc n / 4) (suc n % 4) _ _ run.0 (λ lane fits. let k = run.1 lane fits in omega (arith, k)) (is_next n)

-- whatever the order of a run's writes, each place ends with its block of the last pass
pub every_order_agrees : EveryOrderAgrees
every_order_agrees s order matrix run lane column fits in_lane =
    let good = run.setting in
    let whole : 4 * s.passes / 4 ≡ s.passes = omega arith in
    let rest : 4 * s.passes % 4 ≡ 0 = omega arith in
    let stands = after-stands s good order run.schedules matrix run.begun (4 * s.passes) (omega arith) in
    let none = no_skip (4 * s.passes / 4) (4 * s.passes % 4) (inl (omega (arith, whole, good.some_pass))) in
    let start : 4 * s.passes % 4 * s.segment_length ≡ 0 = rw rest (omega arith) in
    stands.last (s.passes - 1) lane column (omega (arith, whole, good.some_pass)) fits in_lane (omega (arith, none, start))
