-- A segment while it is filled.
use Rattle.std.proofs.Common.{◌≡◌, ℕ, zero, suc, ◌+◌, ◌-◌, ◌*◌, ◌/◌, ◌%◌, ◌<◌, ◌≤◌, ◌⊎◌, Bool, false, List, [], get_or, set, refl, arith, cond, inl}
use Rattle.std.proofs.Common.{inr, sym, ◌∙◌, ap, ◌∷◌, ◌++◌, length, take, drop, map}
use Rattle.std.specs.Prelude.{◌==◌, ◌&&◌, nat_lt, slice_index}
use Rattle.std.proofs.lemmas.Bool.Decides.{eqb_tells}
use Rattle.std.proofs.lemmas.Bool.{and_parts, ltb-true, cases_lt}
use Rattle.std.proofs.lemmas.List.{get_or-set_same, get_or-set_other, length-set, get_or-take, get_or-drop, get_or_default, get_or_append_left}
use Rattle.std.proofs.lemmas.List.{set-append_left, get_or-map, length-map, length-replicate}
use Rattle.std.proofs.lemmas.List.FromFn.{get_or-map-range_with_len, length-map-range_with_len, fill_by_all}
use Rattle.std.proofs.Math.Nat.{div-add-mod, mod-lt, div-lt_iff_lt-mul}
use Rattle.std.proofs.lemmas.Nat.{div-mul-add}
use Rattle.argon2_blocks.specs.Standard.Block.{xor, zero_block}
use Rattle.argon2_blocks.specs.Standard.Compression.{compress_g}
use Rattle.argon2_standard.specs.Standard.Setting.{Setting, Position, lane_length, slice_of}
use Rattle.argon2_memory.specs.Views.Jobs.{IsSetting, IsPosition, Job, IsJob, first_index, position_of}
use Rattle.argon2_standard.specs.Standard.Reference.{is_data_independent, previous, pick}
use Rattle.argon2_standard.specs.Standard.Recurrence.{block_at, drawn_word, address_word, combines, made_block}
use Rattle.argon2_memory.specs.Views.Segments.{segment_at, segment_block, IsReady, wiped_segment, source_block, IsBefore}
use Rattle.argon2_memory.specs.Views.Filling.{SnapshotValue, IsSnapshot, other_blocks, block_seen, IsFilledTo}
use Rattle.argon2_memory.specs.Views.References.{IsPicked, pick_of, reference_of}
use Rattle.argon2_memory.proofs.Recurrences.{start_fits, later_index, same_choice, block_at-recurrence, IsReadable, pick-readable}
use Rattle.argon2_memory.proofs.AnyOrder.{pick-lane_fits, recurrence_later, slice_of_sum, no_skip}
use Rattle.argon2_memory.specs.declared.segment.own_blocks.Source.{Source}
use Rattle.argon2_memory.specs.declared.segment.own_blocks.Source.TheVariants.{Own, Other}
use Rattle.argon2_memory.specs.Standard.Kept.{no_segment, SegmentValue, segment_in}
use Rattle.argon2_memory.specs.Views.Memories.{AreSlices}

-- ---- the next block of a segment is made of blocks that the lane sees

-- if c is less than q * len, then c / len is less than q
div_below : (c len q : ℕ) → 0 < len → c < q * len → c / len < q
div_below c len q h k = (div-lt_iff_lt-mul h).1 k

-- if c is at least q * len, then c / len is at least q
div_above : (c len q : ℕ) → 0 < len → q * len ≤ c → q ≤ c / len
div_above c len q h k = elim (cases_lt (c / len) q) [ inl w ↦ absurd (let b = (div-lt_iff_lt-mul h).0 w in omega (arith, b)) | inr w ↦ w ]

module _ (v : SnapshotValue) (job : IsJob v.job) (lane index : ℕ) (lane_fits : lane < v.job.setting.lanes)
    (index_fits : index < v.job.setting.segment_length)
    (later : first_index v.job ≤ index) where
  abbrev s : Setting
  s = v.job.setting

  abbrev at : Position
  at = position_of v.job lane index

  good : IsSetting s
  good = job.setting

  some : 0 < s.segment_length
  some = omega (arith, good.long_segments)

  pub later_place : 0 < at.pass ⊎ 1 < at.column
  later_place = later_index v.job.pass v.job.slice s.segment_length index later good.long_segments

  pub here : IsPosition s at
  here = record { lane_fits = lane_fits; column_fits = let m = start_fits s v.job.slice good job.slice_fits in omega (arith, m, index_fits) }

  same_slice : slice_of s at.column ≡ v.job.slice
  same_slice = slice_of_sum s.segment_length v.job.slice index some index_fits

  -- if column c is in another slice, and that slice holds lane l's blocks of pass r, then the block seen at c is the
  -- recurrence's block of pass r
  at_other : (r l c : ℕ) (blocks : List (List ℕ)) → (c / s.segment_length == v.job.slice) ≡ false →
      other_blocks v (c / s.segment_length) l ≡ segment_at s r (c / s.segment_length) l →
      block_seen v blocks l c ≡ block_at s (record { pass = r; lane = l; column = c })
  at_other r l c blocks other e =
      let column : c / s.segment_length * s.segment_length + c % s.segment_length ≡ c = let d = div-add-mod c s.segment_length in omega (arith, d) in
      rw (other, e) (get_or-map-range_with_len (segment_block s r (c / s.segment_length) l) 0 s.segment_length (c % s.segment_length)
      (c % s.segment_length) [] (mod-lt c some) (omega arith)
      ∙ ap (λ n. block_at s (record { pass = r; lane = l; column = n })) column)

  -- a column c of the job's slice is the slice's first column plus c modulo the segment length
  own_index : (c : ℕ) → c / s.segment_length ≡ v.job.slice → v.job.slice * s.segment_length + c % s.segment_length ≡ c
  own_index c e = let d = div-add-mod c s.segment_length in let p : c / s.segment_length * s.segment_length ≡ v.job.slice * s.segment_length = ap
      (λ q. q * s.segment_length) e in omega (arith, d, p)

  -- if `index` is above 0, the previous block that the lane sees is the segment's own block at `index - 1`
  pub seen_before : (blocks : List (List ℕ)) → 0 < index → get_or blocks (index - 1) [] ≡ block_seen v blocks lane (previous s at).column
  seen_before blocks h =
      let c = at.column - 1 in
      let e : v.job.slice * s.segment_length + (index - 1) ≡ c = omega (arith, h) in
      let q : c / s.segment_length ≡ v.job.slice = ap (λ n. n / s.segment_length) (sym e)
      ∙ div-mul-add v.job.slice s.segment_length (index - 1) (omega (arith, index_fits)) in
      let o = own_index c q in
      let r : c % s.segment_length ≡ index - 1 = omega (arith, o, e) in
      elim (eqb_tells at.column 0) [
        | inl w ↦ absurd (omega (arith, w.1, h))
        | inr w ↦ rw w.0 (elim (eqb_tells (c / s.segment_length) v.job.slice) [ inl z ↦ rw (z.0, r) refl | inr z ↦ absurd (omega (arith, z.1, q)) ])
      ]

  module _ (snapshot : IsSnapshot v) where
    seen_upper : (r l c : ℕ) (blocks : List (List ℕ)) → l < s.lanes → suc r ≡ v.job.pass → (v.job.slice + 1) * s.segment_length ≤ c → c < lane_length s →
        block_seen v blocks l c ≡ block_at s (record { pass = r; lane = l; column = c })
    seen_upper r l c blocks fits e above below =
        let up = div_above c s.segment_length (v.job.slice + 1) some above in
        let low = div_below c s.segment_length 4 some below in
        at_other r l c blocks (elim (eqb_tells (c / s.segment_length) v.job.slice) [ inl w ↦ absurd (omega (arith, up, w.1)) | inr w ↦ w.0 ])
        (snapshot.held.upper (c / s.segment_length) l r (omega (arith, up)) low fits e)

    seen_lower : (l c : ℕ) (blocks : List (List ℕ)) → l < s.lanes → c < v.job.slice * s.segment_length →
        block_seen v blocks l c ≡ block_at s (record { pass = v.job.pass; lane = l; column = c })
    seen_lower l c blocks fits below =
        let low = div_below c s.segment_length v.job.slice some below in
        at_other v.job.pass l c blocks (elim (eqb_tells (c / s.segment_length) v.job.slice) [ inl w ↦ absurd (omega (arith, low, w.1)) | inr w ↦ w.0 ])
        (snapshot.held.lower (c / s.segment_length) l low fits)

    module _ (blocks : List (List ℕ)) (filled : IsFilledTo v.job lane index blocks) where
      seen_own : (c : ℕ) → c < at.column → block_seen v blocks lane c ≡ block_at s (record { pass = v.job.pass; lane = lane; column = c })
      seen_own c below = elim (eqb_tells (c / s.segment_length) v.job.slice) [
        | inl w ↦ let o = own_index c w.1 in rw w.0 (filled.new (c % s.segment_length) (omega (arith, o, below))
            ∙ ap (λ n. block_at s (record { pass = v.job.pass; lane = lane; column = n })) o)
        | inr w ↦
            let q : c / s.segment_length < v.job.slice + 1 = div_below c s.segment_length (v.job.slice + 1) some (omega (arith, below, index_fits)) in
            at_other v.job.pass lane c blocks w.0 (snapshot.held.lower (c / s.segment_length) lane (omega (arith, q, w.1)) lane_fits)
      ]

      seen_readable : (r l c : ℕ) → l < s.lanes → IsReadable s at l (r, c) → block_seen v blocks l c ≡ block_at s (record { pass = r; lane = l; column = c })
      seen_readable r l c fits (inl w) =
          seen_upper r l c blocks fits w.0 (rw same_slice at w.1) w.2
      seen_readable r l c fits (inr (inl w)) = ap (λ p. block_seen v blocks l c) w.0 ∙ seen_lower l c blocks fits (rw same_slice at w.1)
          ∙ ap (λ p. block_at s (record { pass = p; lane = l; column = c })) (sym w.0)
      seen_readable r l c fits (inr (inr w)) = ap (λ n. block_seen v blocks n c) w.1 ∙ seen_own c w.2
          ∙ ap (λ p. block_at s (record { pass = p; lane = lane; column = c })) (sym w.0)
          ∙ ap (λ n. block_at s (record { pass = r; lane = n; column = c })) (sym w.1)

      previous_readable : IsReadable s at lane ((previous s at).pass, (previous s at).column)
      previous_readable = elim (eqb_tells at.column 0) [
        | inl w ↦ rw w.0 (inl (
          elim later_place [ inl h ↦ omega arith | inr h ↦ absurd (omega (arith, w.1)) ],
          (let z : v.job.slice * s.segment_length ≡ 0 = omega (arith, w.1) in rw same_slice (omega (arith, z, good.long_segments))),
          omega (arith, good.long_segments),
        ))
        | inr w ↦ rw w.0 (inr (inr (refl, refl, omega (arith, w.1))))
      ]

      pub seen_previous : block_seen v blocks lane (previous s at).column ≡ block_at s (previous s at)
      seen_previous = seen_readable (previous s at).pass lane (previous s at).column lane_fits previous_readable
          ∙ elim (eqb_tells at.column 0) [ inl w ↦ rw w.0 refl | inr w ↦ rw w.0 refl ]

      pub seen_pick : (word : ℕ) → block_seen v blocks (pick s word at).lane (pick s word at).column ≡ block_at s (pick s word at)
      seen_pick word = seen_readable (pick s word at).pass (pick s word at).lane (pick s word at).column (pick-lane_fits s word at good here)
          (pick-readable s word at good here later_place)

      -- the block made from the previous, the reference and the old block that the lane sees is the recurrence's block
      pub made_next : (chosen : ℕ × ℕ) → chosen ≡ reference_of v.job lane index →
          made_block (block_seen v blocks lane (previous s at).column) (block_seen v blocks chosen.0 chosen.1) (get_or blocks index [])
          (combines s.version && nat_lt 0 v.job.pass)
          ≡ block_at s at
      made_next chosen e =
          let word = drawn_word s (block_at s) at in
          let read : block_seen v blocks chosen.0 chosen.1 ≡ block_at s (pick s word at) = rw e (seen_pick word) in
          rw (seen_previous, read)
          (same_choice (combines s.version && nat_lt 0 v.job.pass) _ _ _ _
          (λ h. ap (λ old. xor (compress_g (block_at s (previous s at)) (block_at s (pick s word at))) old)
          (filled.old (v.job.pass - 1) index (let p = ltb-true 0 v.job.pass (and_parts (combines s.version) _ h).1 in omega (arith, p)) (omega arith) index_fits))
          (λ h. refl)
          ∙ sym (recurrence_later s (block_at s) at later_place) ∙ sym (block_at-recurrence s good at here))

      -- writing the recurrence's block at `index` extends the filled part of the segment to `index + 1`
      pub filled_more : (block : List ℕ) → block ≡ block_at s at → IsFilledTo v.job lane (index + 1) (set blocks index block)
      filled_more block e = record {
        count = length-set blocks index block ∙ filled.count;
        new = λ k h. elim (eqb_tells k index) [
          | inl w ↦ rw w.1 (get_or-set_same blocks index block [] (omega (arith, filled.count)) ∙ e)
          | inr w ↦ get_or-set_other blocks index k block [] w.1 ∙ filled.new k (omega (arith, w.1))
        ];
        old = λ last k p h fits. get_or-set_other blocks index k block [] (λ n. absurd (omega arith)) ∙ filled.old last k p (omega arith) fits;
      }

      pub write_filled : (p r : List ℕ) (x : Bool) (chosen : ℕ × ℕ) → chosen ≡ reference_of v.job lane index →
          p ≡ block_seen v blocks lane (previous s at).column → r ≡ block_seen v blocks chosen.0 chosen.1 → x ≡ (combines s.version && nat_lt 0 v.job.pass) →
          IsFilledTo v.job lane (index + 1) (set blocks index (made_block p r (get_or blocks index []) x))
      write_filled p r x chosen e ps rs xs = filled_more _ (rw (ps, rs, xs) (made_next chosen e))

      -- in a data-dependent slice, word 0 of the previous block that the lane sees is the word the recurrence draws
      pub drawn_from_previous : (word : ℕ) → is_data_independent s.variant v.job.pass v.job.slice ≡ false →
          word ≡ slice_index (block_seen v blocks lane (previous s at).column) 0 → word ≡ drawn_word s (block_at s) at
      drawn_from_previous word e h = h ∙ ap (λ b. slice_index b 0) seen_previous
          ∙ ap (λ (b : Bool). cond b (address_word s at) (slice_index (block_at s (previous s at)) 0)) (sym (ap (λ
          (n : ℕ). is_data_independent s.variant v.job.pass n) same_slice ∙ e))

  -- the lane and column that a word picks, with the pass of the pick, are a place that the block may read
  reference_readable : (chosen : ℕ × ℕ) (word : ℕ) → chosen ≡ pick_of v.job lane index word → IsReadable s at chosen.0 ((pick s word at).pass, chosen.1)
  reference_readable chosen word e = rw e (pick-readable s word at good here later_place)

  pub reference_lane : (chosen : ℕ × ℕ) → IsPicked v.job lane index chosen → chosen.0 < s.lanes
  reference_lane chosen (word, e) = rw e (pick-lane_fits s word at good here)

  column_of_readable : (l r c : ℕ) → IsReadable s at l (r, c) → c < lane_length s
  column_of_readable l r c (inl w) = w.2
  column_of_readable l r c (inr (inl w)) = let m = start_fits s v.job.slice good job.slice_fits in let b = rw same_slice at w.1 in omega (arith, m, b)
  column_of_readable l r c (inr (inr w)) = let h = here.column_fits in omega (arith, w.2, h)

  pub reference_column : (chosen : ℕ × ℕ) → IsPicked v.job lane index chosen → chosen.1 < lane_length s
  reference_column chosen (word, e) = column_of_readable chosen.0 _ chosen.1 (reference_readable chosen word e)

  before_of_readable : (l r c : ℕ) → IsReadable s at l (r, c) → c / s.segment_length ≡ v.job.slice → c % s.segment_length < index
  before_of_readable l r c (inl w) e = absurd (let a = div_above c s.segment_length (v.job.slice + 1) some (rw same_slice at w.1) in omega (arith, a, e))
  before_of_readable l r c (inr (inl w)) e = absurd (let b = div_below c s.segment_length v.job.slice some (rw same_slice at w.1) in omega (arith, b, e))
  before_of_readable l r c (inr (inr w)) e = let o = own_index c e in omega (arith, o, w.2)

  pub reference_before : (chosen : ℕ × ℕ) → IsPicked v.job lane index chosen → chosen.1 / s.segment_length ≡ v.job.slice
      → chosen.1 % s.segment_length < index
  reference_before chosen (word, e) = before_of_readable chosen.0 _ chosen.1 (reference_readable chosen word e)

-- ---- a segment before its first write and after its last

-- `filled_none` for variables `pass` and `slice` equal to the job's, so that the proof can match on them
begin_by : (j : Job) → (pass slice : ℕ) → pass ≡ j.pass → slice ≡ j.slice → IsSetting j.setting → (lane : ℕ) (blocks : List (List ℕ)) →
    IsReady j.setting pass slice lane blocks → IsFilledTo j lane (cond ((pass == 0) && (slice == 0)) 2 0) blocks
begin_by j zero zero p q good lane blocks ready = record {
  count = ready.0;
  new = λ k h. sym (get_or-take 2 blocks k [] h) ∙ ap (λ l. get_or l k []) ready.1 ∙ get_or-take 2 (segment_at j.setting 0 0 lane) k [] h
      ∙ get_or-map-range_with_len (segment_block j.setting 0 0 lane) 0 j.setting.segment_length k k [] (omega (arith, good.long_segments)) (omega arith)
      ∙ ap (λ n. segment_block j.setting n 0 lane k) p ∙ ap (λ n. segment_block j.setting j.pass n lane k) q;
  old = λ last k e. absurd (omega (arith, e, p));
}
begin_by j zero (suc slice) p q good lane blocks ready = record {
  count = ready;
  new = λ k h. absurd (let h' = rw (no_skip 0 (suc slice) (inr (omega arith))) at h in omega (arith, h'));
  old = λ last k e. absurd (omega (arith, e, p));
}
begin_by j (suc before) slice p q good lane blocks ready = record {
  count = rw ready (length-map-range_with_len (segment_block j.setting before slice lane) 0 j.setting.segment_length);
  new = λ k h. absurd (let h' = rw (no_skip (suc before) slice (inl (omega arith))) at h in omega (arith, h'));
  old = λ last k e low fits. ap (λ l. get_or l k []) ready
      ∙ get_or-map-range_with_len (segment_block j.setting before slice lane) 0 j.setting.segment_length k k [] fits (omega arith)
      ∙ ap (λ n. segment_block j.setting n slice lane k) (omega (arith, e, p)) ∙ ap (λ n. segment_block j.setting last n lane k) q;
}

-- a segment that is ready for a pass is filled up to the first index that the pass writes
pub filled_none : (j : Job) → IsJob j → (lane : ℕ) (blocks : List (List ℕ)) → IsReady j.setting j.pass j.slice lane blocks
    → IsFilledTo j lane (first_index j) blocks
filled_none j good lane blocks ready = begin_by j j.pass j.slice refl refl good.setting lane blocks ready

-- a segment that is filled up to its length holds this pass's blocks of its slice and lane
pub filled_all : (j : Job) (lane : ℕ) (blocks : List (List ℕ)) → IsFilledTo j lane j.setting.segment_length blocks →
    blocks ≡ segment_at j.setting j.pass j.slice lane
filled_all j lane blocks filled = fill_by_all (segment_block j.setting j.pass j.slice lane) blocks j.setting.segment_length [] filled.count
    (λ k h. filled.new k h)

-- ---- a block written in place: its sources in the segment are before its index

-- a source before `index` names the same block in `take index blocks` as in `blocks`
same_source : (blocks : List (List ℕ)) (index : ℕ) (source : Source) → IsBefore index source →
    source_block (take index blocks) source ≡ source_block blocks source
same_source blocks index (Own k) h = get_or-take index blocks k [] h
same_source blocks index (Other block) h = refl

-- setting element 0 of `drop index blocks`, behind `take index blocks`, sets element `index` of `blocks`
set_behind : (blocks : List (List ℕ)) (index : ℕ) (new : List ℕ) → index < length blocks →
    take index blocks ++ set (drop index blocks) 0 new ≡ set blocks index new
set_behind [] index new h = absurd (omega arith)
set_behind (x ∷ xs) zero new h = refl
set_behind (x ∷ xs) (suc i) new h = ap (λ l. x ∷ l) (set_behind xs i new (omega arith))

-- with the blocks split at `index`, writing `new` at the front of `back` writes the block made from the two sources at
-- `index`. `given` is the caller's blocks, as a slice; `p` and `r` are the two sources' blocks; `d` is any default
pub write_in_place : (blocks given front back : List (List ℕ)) (index : ℕ) (prev reference : Source) (with_xor : Bool) (p r d new : List ℕ) →
    given ≡ blocks → index < length blocks → front ≡ take index given → back ≡ drop index given →
    IsBefore index prev → IsBefore index reference → p ≡ source_block front prev → r ≡ source_block front reference →
    new ≡ made_block p r (get_or back 0 d) with_xor →
    front ++ set back 0 new ≡ set blocks index (made_block (source_block blocks prev) (source_block blocks reference) (get_or blocks index []) with_xor)
write_in_place blocks given front back index prev reference with_xor p r d new same fits f b before before' ps rs n =
    let f' : front ≡ take index blocks = f ∙ ap (λ l. take index l) same in
    let b' : back ≡ drop index blocks = b ∙ ap (λ l. drop index l) same in
    let o' : get_or back 0 d ≡ get_or blocks index [] = rw b' (get_or-drop index blocks 0 d ∙ ap (λ i. get_or blocks i d) (omega arith) ∙ get_or_default blocks index d [] fits) in
    let ps' : p ≡ source_block blocks prev = ps ∙ ap (λ l. source_block l prev) f' ∙ same_source blocks index prev before in
    let rs' : r ≡ source_block blocks reference = rs ∙ ap (λ l. source_block l reference) f' ∙ same_source blocks index reference before' in
    rw (n, ps', rs', o', f', b') (set_behind blocks index _ fits)

-- ---- created blocks, and behind them blocks of zeros that are not created yet

-- a source before an index of `xs` names the same block in `xs` as in `xs ++ zs`
pub source_in_front : (xs zs : List (List ℕ)) (index : ℕ) (source : Source) → index < length xs → IsBefore index source →
    source_block xs source ≡ source_block (xs ++ zs) source
source_in_front xs zs index (Own k) h before = sym (get_or_append_left xs zs [] k (let e : k < index = before in omega (arith, e, h)))
source_in_front xs zs index (Other block) h before = refl

-- setting a block made from two sources at `index` of `xs`, then appending `zs`, equals setting it at `index` of `all`
pub made_in_front : (xs zs all : List (List ℕ)) (index : ℕ) (prev reference : Source) (with_xor : Bool) → xs ++ zs ≡ all → index < length xs →
    IsBefore index prev → IsBefore index reference →
    set xs index (made_block (source_block xs prev) (source_block xs reference) (get_or xs index []) with_xor) ++ zs
    ≡ set all index (made_block (source_block all prev) (source_block all reference) (get_or all index []) with_xor)
made_in_front xs zs all index prev reference with_xor e h before before' =
    let p = source_in_front xs zs index prev h before ∙ ap (λ l. source_block l prev) e in
    let r = source_in_front xs zs index reference h before' ∙ ap (λ l. source_block l reference) e in
    let o = sym (get_or_append_left xs zs [] index h) ∙ ap (λ l. get_or l index []) e in
    rw (p, r, o) (sym (set-append_left xs zs index _ h) ∙ ap (λ l. set l index (made_block (source_block all prev) (source_block all reference)
    (get_or all index []) with_xor)) e)

-- ---- wiped slices keep their number of lanes and the lengths of their segments

module _ (p len : ℕ) (slices : List (List SegmentValue)) (good : AreSlices p len slices) where
  abbrev pub wiped : List (List SegmentValue)
  wiped = map (map wiped_segment) slices

  slice_is : (slice : ℕ) → slice < 4 → get_or wiped slice [] ≡ map wiped_segment (get_or slices slice [])
  slice_is slice h = get_or-map (map wiped_segment) slices slice [] [] (omega (arith, good.count))

  pub wiped_slices-are : AreSlices p len wiped
  wiped_slices-are = record {
    count = length-map slices (map wiped_segment) ∙ good.count;
    lanes = λ slice h.
        ap (λ (l : List SegmentValue). length l) (slice_is slice h) ∙ length-map (get_or slices slice []) wiped_segment ∙ good.lanes slice h;
    blocks = λ slice lane h k.
        let n = good.lanes slice h in
        ap (λ (l : List SegmentValue). length (get_or l lane no_segment).blocks) (slice_is slice h)
        ∙ ap (λ (s : SegmentValue). length s.blocks) (get_or-map wiped_segment (get_or slices slice []) lane no_segment no_segment (omega (arith, n)))
        ∙ length-replicate (length (segment_in slices slice lane).blocks) zero_block
        ∙ good.blocks slice lane h k;
  }
