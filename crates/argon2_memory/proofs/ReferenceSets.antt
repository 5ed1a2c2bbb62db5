-- Reference sets by arithmetic, and the references of data-independent segments.
use Rattle.std.proofs.Common.{◌≡◌, ℕ, zero, suc, ◌+◌, ◌-◌, ◌*◌, ◌/◌, ◌<◌, ◌≤◌, Bool, true, false, List, [], ◌++◌, length, get_or, refl, arith, cond}
use Rattle.std.proofs.Common.{inl, inr, ◌∙◌, ap, append_assoc, ◌%◌, take, drop, sym}
use Rattle.std.specs.Prelude.{◌==◌, ◌||◌, slice_index}
use Rattle.std.proofs.lemmas.Bool.Decides.{eqb_tells}
use Rattle.std.proofs.lemmas.Bool.{cases_lt, lt-ltb, le-ltb}
use Rattle.std.proofs.lemmas.List.{length-append, length-take, get_or-take, get_or_append_left, get_or-append_right, length-drop, get_or-drop}
use Rattle.std.proofs.lemmas.List.{ext_get_or}
use Rattle.std.proofs.lemmas.List.FromFn.{get_or-map-range_with_len, length-map-range_with_len}
use Rattle.std.proofs.Math.Nat.{div-add-mod}
use Rattle.argon2_standard.specs.Standard.Setting.{Setting, Position, lane_length, slice_of, index_of}
use Rattle.argon2_memory.specs.Views.Jobs.{IsPosition, Job, IsJob, first_index, position_of}
use Rattle.argon2_standard.specs.Standard.Reference.{columns_between, columns_of_last_pass, without_last, reference_set, relative_position}
use Rattle.argon2_standard.specs.Standard.Reference.{drawn_lane, pick, is_data_independent}
use Rattle.argon2_memory.specs.Views.References.{left_columns, reference_set_size, reference_set_column, pick_of, positions_in}
use Rattle.argon2_memory.specs.Views.References.{reference_positions_of, independent_reference, reference_of}
use Rattle.argon2_memory.proofs.Recurrences.{start_fits, later_index, length-columns, some_reference, own_lane_first, relative_position_fits}
use Rattle.argon2_memory.proofs.AnyOrder.{slice_of_sum}
use Rattle.argon2_standard.specs.Standard.Recurrence.{address_word, addresses}
use Rattle.argon2_memory.proofs.Entries.{reference_positions_of-setting}

-- ---- the size of a reference set, and the column of each of its elements, by arithmetic

-- element k of `columns_between pass first end` is the pair of `pass` and the column `first + k`
get-columns : (pass first end k : ℕ) (d : ℕ × ℕ) → first + k < end → get_or (columns_between pass first end) k d ≡ (pass, first + k)
get-columns pass first end k d h = get_or-map-range_with_len (λ column. (pass, column)) first (end - first) k (first + k) d (omega arith) refl

module _ (j : Job) (good : IsJob j) (lane index chosen : ℕ) (fits : index < j.setting.segment_length) where
  abbrev s : Setting
  s = j.setting

  abbrev start : ℕ
  start = j.slice * s.segment_length

  abbrev at : Position
  at = position_of j lane index

  pub same_slice : slice_of s at.column ≡ j.slice
  same_slice = slice_of_sum s.segment_length j.slice index (omega (arith, good.setting.long_segments)) fits

  pub same_index : index_of s at.column ≡ index
  same_index =
      let d = div-add-mod at.column s.segment_length in
      let p : at.column / s.segment_length * s.segment_length ≡ j.slice * s.segment_length = ap (λ q. q * s.segment_length) same_slice in
      omega (arith, d, p)

  abbrev own : List (ℕ × ℕ)
  own = cond (chosen == lane) (columns_between j.pass start at.column) []

  abbrev now : List (ℕ × ℕ)
  now = columns_between j.pass 0 start

  abbrev left : List (ℕ × ℕ)
  left = columns_of_last_pass s j.pass j.slice

  abbrev all : List (ℕ × ℕ)
  all = left ++ now ++ own

  reference_set-is : reference_set s at chosen ≡ cond ((chosen == lane) || (index == 0)) (without_last all) all
  unfolding reference_set
  reference_set-is = rw (same_slice, same_index) refl

  length-left_columns : (pass : ℕ) → length (columns_of_last_pass s pass j.slice) ≡ cond (pass == 0) 0 (lane_length s - (start + s.segment_length))
  length-left_columns zero = refl
  length-left_columns (suc last) = elim (eqb_tells (suc last) 0) [
    | inl w ↦ absurd (omega (arith, w.1))
    | inr w ↦ rw w.0 (let e = length-columns last ((j.slice + 1) * s.segment_length) (lane_length s) in omega (arith, e))
  ]

  length-now_own : length (now ++ own) ≡ start + cond (chosen == lane) index 0
  length-now_own =
      let both = length-append now own in
      let first = length-columns j.pass 0 start in
      elim (eqb_tells chosen lane) [
        | inl w ↦ rw w.0 (let b = rw w.0 at both in let k = length-columns j.pass start at.column in omega (arith, b, first, k))
        | inr w ↦ rw w.0 (let b = rw w.0 at both in omega (arith, b, first))
      ]

  length-all : length all ≡ left_columns j + (start + cond (chosen == lane) index 0)
  length-all = rw append_assoc (let b = length-append left (now ++ own) in let l = length-left_columns j.pass in let r = length-now_own in
      omega (arith, b, l, r))

  pub length-reference_set : length (reference_set s at chosen) ≡ reference_set_size j (chosen == lane) index
  length-reference_set =
      let n = length-all in
      let t = length-take (length all - 1) all in
      rw reference_set-is (elim (eqb_tells chosen lane) [
        | inl w ↦ rw w.0 (let n' = rw w.0 at n in let t' = rw w.0 at t in omega (arith, n', t'))
        | inr w ↦ elim (eqb_tells index 0) [
          | inl v ↦ rw (w.0, v.0) (let n' = rw w.0 at n in let t' = rw w.0 at t in omega (arith, n', t'))
          | inr v ↦ rw (w.0, v.0) (let n' = rw w.0 at n in omega (arith, n'))
        ]
      ])

  get-now_own : (k : ℕ) → k < length (now ++ own) → (get_or (now ++ own) k (0, 0)).1 ≡ k
  get-now_own k h =
      let first = length-columns j.pass 0 start in
      elim (cases_lt k start) [
        | inl w ↦ ap (λ (p : ℕ × ℕ). p.1) (get_or_append_left now own (0, 0) k (omega (arith, first, w))
            ∙ get-columns j.pass 0 start k (0, 0) (omega (arith, w))) ∙ omega arith
        | inr w ↦ elim (eqb_tells chosen lane) [
          | inl v ↦
              let n = rw v.0 at length-now_own in
              let h' = rw v.0 at h in
              rw v.0 (ap (λ (p : ℕ × ℕ). p.1) (get_or-append_right now (columns_between j.pass start at.column) start k (0, 0) (omega (arith, first)) w
              ∙ get-columns j.pass start at.column (k - start) (0, 0) (omega (arith, n, h'))) ∙ omega arith)
          | inr v ↦ absurd (let n = rw v.0 at length-now_own in let h' = rw v.0 at h in omega (arith, n, h'))
        ]
      ]

  get-left : (pass k : ℕ) → k < length (columns_of_last_pass s pass j.slice)
      → (get_or (columns_of_last_pass s pass j.slice) k (0, 0)).1 ≡ start + s.segment_length + k
  get-left zero k h = absurd (omega arith)
  get-left (suc last) k h =
      let n = length-columns last ((j.slice + 1) * s.segment_length) (lane_length s) in
      ap (λ (p : ℕ × ℕ). p.1) (get-columns last ((j.slice + 1) * s.segment_length) (lane_length s) k (0, 0) (omega (arith, n, h))) ∙ omega arith

  get-all : (k : ℕ) → k < length all → (get_or all k (0, 0)).1 ≡ reference_set_column j k
  get-all k h =
      let l = length-left_columns j.pass in
      let same : length left ≡ left_columns j = l in
      rw append_assoc (elim (cases_lt k (left_columns j)) [
        | inl w ↦ rw (lt-ltb k (left_columns j) w) (ap (λ (p : ℕ × ℕ). p.1) (get_or_append_left left (now ++ own) (0, 0) k (omega (arith, same, w)))
            ∙ get-left j.pass k (omega (arith, same, w)))
        | inr w ↦ rw (le-ltb k (left_columns j) w) (ap (λ (p : ℕ × ℕ). p.1) (get_or-append_right left (now ++ own) (left_columns j) k (0, 0) same w)
            ∙ get-now_own (k - left_columns j) (let n = length-all in let r = length-now_own in omega (arith, n, r, h, w)))
      ])

  get-cut : (cut : Bool) (k : ℕ) → k < length (cond cut (without_last all) all) → (get_or (cond cut (without_last all) all) k (0, 0)).1 ≡ reference_set_column j k
  get-cut true k h =
      let t = length-take (length all - 1) all in
      ap (λ (p : ℕ × ℕ). p.1) (get_or-take (length all - 1) all k (0, 0) (omega (arith, t, h))) ∙ get-all k (omega (arith, t, h))
  get-cut false k h = get-all k h

  pub get-reference_set : (k : ℕ) → k < length (reference_set s at chosen) → (get_or (reference_set s at chosen) k (0, 0)).1 ≡ reference_set_column j k
  get-reference_set k h = rw reference_set-is (get-cut ((chosen == lane) || (index == 0)) k (rw reference_set-is at h))

  -- ---- the lane and column that a word picks

  here : lane < s.lanes → IsPosition s at
  here h = record { lane_fits = h; column_fits = let m = start_fits s j.slice good.setting good.slice_fits in omega (arith, m, fits) }

module _ (j : Job) (good : IsJob j) (lane index word : ℕ) (lane_fits : lane < j.setting.lanes) (fits : index < j.setting.segment_length)
    (later : first_index j ≤ index) (chosen : ℕ) (drawn : chosen ≡ drawn_lane j.setting word (position_of j lane index)) where
  some-reference : 0 < length (reference_set j.setting (position_of j lane index) (drawn_lane j.setting word (position_of j lane index)))
  some-reference = some_reference j.setting (position_of j lane index) good.setting (here j good lane index chosen fits lane_fits)
      (drawn_lane j.setting word (position_of j lane index)) (later_index j.pass j.slice j.setting.segment_length index later good.setting.long_segments)
      (own_lane_first j.setting word (position_of j lane index))

  pub some-picked : 0 < reference_set_size j (chosen == lane) index
  some-picked = let e = length-reference_set j good lane index chosen fits in let h = rw (← drawn) at some-reference in omega (arith, e, h)

  pub pick-is : pick_of j lane index word ≡ (chosen, reference_set_column j (relative_position (reference_set_size j (chosen == lane) index) word))
  unfolding pick
  pick-is =
      let e = length-reference_set j good lane index chosen fits in
      let h = rw (← drawn) at some-reference in
      rw (← drawn, e) (ap (λ (column : ℕ). (chosen, column)) (get-reference_set j good lane index chosen fits _ (rw e (relative_position_fits (reference_set_size j
      (chosen == lane) index) word some-picked))))

-- ---- the references of an independent segment, index by index

-- the address word of an index is word number `index % 128` of address block number `index / 128`
pub address_word-is : (j : Job) → IsJob j → (lane index : ℕ) → index < j.setting.segment_length →
    address_word j.setting (position_of j lane index) ≡ slice_index (addresses j.setting j.pass lane j.slice (index / 128)) (index % 128)
unfolding address_word
address_word-is j good lane index fits = rw (same_slice j good lane index 0 fits, same_index j good lane index 0 fits) refl

-- in a data-independent slice, the reference of a block is the lane and column that its address word picks
pub reference_of-independent : (j : Job) → IsJob j → (lane index : ℕ) → index < j.setting.segment_length →
    is_data_independent j.setting.variant j.pass j.slice ≡ true → reference_of j lane index ≡ independent_reference j lane index
reference_of-independent j good lane index fits e =
    ap (λ (word : ℕ). pick_of j lane index word) (rw (same_slice j good lane index 0 fits, e) refl)

module _ (j : Job) (lane first n : ℕ) (fits : first + n ≤ j.setting.segment_length) (later : first_index j ≤ first) where
  abbrev positions : List (ℕ × ℕ)
  positions = positions_in j.setting j.pass j.slice lane

  abbrev wanted : List (ℕ × ℕ)
  wanted = take n (drop (first - first_index j) positions)

  length-positions : length positions ≡ j.setting.segment_length - first_index j
  length-positions = length-map-range_with_len (independent_reference j lane) (first_index j) (j.setting.segment_length - first_index j)

  length-wanted : length wanted ≡ n
  length-wanted =
      let t = length-take n (drop (first - first_index j) positions) in
      let d = length-drop (first - first_index j) positions in
      let p = length-positions in
      omega (arith, t, d, p)

  pub get-wanted : (k : ℕ) → k < n → get_or wanted k (0, 0) ≡ independent_reference j lane (first + k)
  get-wanted k h =
      get_or-take n (drop (first - first_index j) positions) k (0, 0) h
      ∙ get_or-drop (first - first_index j) positions k (0, 0)
      ∙ get_or-map-range_with_len (independent_reference j lane) (first_index j) (j.setting.segment_length - first_index j)
      (first - first_index j + k) (first + k) (0, 0)
      (omega arith) (omega arith)

  pub positions-all : (out : List (ℕ × ℕ)) → length out ≡ n → ((k : ℕ) → k < n → get_or out k (0, 0) ≡ independent_reference j lane (first + k)) → out ≡ wanted
  positions-all out e h =
      let w = length-wanted in
      ext_get_or (0, 0) out wanted (e ∙ sym w) (λ k lt. h k (omega arith) ∙ sym (get-wanted k (omega arith)))

-- in a data-independent slice, element k of what `reference_positions` returns is the reference of block `first + k`
pub references_known : (j : Job) → IsJob j → (lane first n : ℕ) → first + n ≤ j.setting.segment_length → first_index j ≤ first →
    is_data_independent j.setting.variant j.pass j.slice ≡ true → (out : List (ℕ × ℕ)) →
    out ≡ take n (drop (first - first_index j)
    (reference_positions_of j.setting.variant j.setting.lanes j.setting.segment_length j.setting.passes j.pass j.slice lane)) → length out ≡ n →
    (k : ℕ) → k < length out → get_or out k (0, 0) ≡ reference_of j lane (first + k)
references_known j good lane first n fits later independent out e same k h =
    ap (λ (l : List (ℕ × ℕ)). get_or l k (0, 0))
    (e ∙ ap (λ (l : List (ℕ × ℕ)). take n (drop (first - first_index j) l)) (reference_positions_of-setting j.setting j.pass j.slice lane))
    ∙ get-wanted j lane first n fits later k (omega arith)
    ∙ sym (reference_of-independent j good lane (first + k) (omega arith) independent)
