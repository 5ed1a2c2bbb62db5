-- The recurrence, and what a block may refer to.
use Rattle.std.proofs.Common.{ℕ, zero, suc, ◌+◌, ◌*◌, ◌/◌, ◌^◌, ◌<◌, ◌≤◌, ◌⊎◌, List, length, arith, cond, inl, inr, ◌≡◌, ◌-◌, Bool, true, false, []}
use Rattle.std.proofs.Common.{◌++◌, map, refl, sym, ◌∙◌, ap}
use Rattle.std.specs.Prelude.{◌==◌, ◌&&◌, IsNone, ◌||◌, nat_lt}
use Rattle.std.proofs.Math.Nat.{mul-le-mul_right, div-add-mod, mod-lt, mul-le-mul_left, div-lt_iff_lt-mul}
use Rattle.argon2_standard.specs.declared.config.Config.{Config}
use Rattle.argon2_standard.specs.Standard.SettingsTable.{table_error}
use Rattle.argon2_standard.specs.Standard.Setting.{Setting, lane_length, Position, slice_of, index_of}
use Rattle.argon2_standard.specs.Standard.Prehash.{hashed_inputs, prehash_of, setting_of}
use Rattle.argon2_standard.specs.declared.context.Context.{Context}
use Rattle.argon2_standard.proofs.Settings.{accepted, long_segment, length-blake2b}
use Rattle.argon2_memory.specs.Views.Jobs.{IsSetting, setting_of_context, IsPosition}
use Rattle.std.proofs.lemmas.Bool.{cases_lt, eq-eqb, eqb-true, and_parts, ltb-true, ltb-false}
use Rattle.std.proofs.lemmas.List.{length-append, length-take}
use Rattle.std.proofs.lemmas.List.Elements.{All-append, All-cons, All-nil, All-take}
use Rattle.std.proofs.lemmas.List.FromFn.{length-map-range_with_len}
use Rattle.argon2_blocks.specs.Standard.Word.{high_half}
use Rattle.std.specs.List.{All, range_with_len}
use Rattle.argon2_standard.specs.Standard.Reference.{columns_between, columns_of_last_pass, without_last, reference_set, relative_position}
use Rattle.argon2_standard.specs.Standard.Reference.{drawn_lane, pick, previous}
use Rattle.std.proofs.lemmas.Bool.Decides.{eqb_tells}
use Rattle.argon2_blocks.specs.Standard.Block.{xor}
use Rattle.argon2_blocks.specs.Standard.Compression.{compress_g}
use Rattle.argon2_standard.specs.Standard.Recurrence.{Blocks, drawn_word, next_block, recurrence, unroll, rank, block_at, combines}

-- ---- the setting of a context, and the bounds of a job

-- the setting of an accepted call meets `IsSetting` if its passes and its blocks are each fewer than 2 ^ 32
setting_that_fits : (pwd salt : List ℕ) (config : Config) → IsNone (table_error config (length pwd) (length salt) config.hash_length) →
    config.time_cost < 2 ^ 32 → 4 * config.lanes * (config.mem_cost / (4 * config.lanes)) < 2 ^ 32 → IsSetting (setting_of pwd salt config config.hash_length)
unfolding setting_of prehash_of
setting_that_fits pwd salt config none few fits =
    let a = accepted config (length pwd) (length salt) config.hash_length none in
    record {
      prehash_length = length-blake2b 64 (hashed_inputs pwd salt config config.hash_length) (omega arith);
      some_lane = a.some_lane;
      few_lanes = a.few_lanes;
      long_segments = long_segment config.mem_cost config.lanes a.some_lane a.much;
      some_pass = a.some_pass;
      few_passes = few;
      fits = fits;
    }

-- the setting of a context meets `IsSetting`; the code's types ensure that both numbers are below 2 ^ 32
pub context_setting : (x : Context) → x.config.time_cost < 2 ^ 32 → x.memory_blocks < 2 ^ 32 → IsSetting (setting_of_context x)
context_setting x few fits =
    setting_that_fits x.pwd.now x.salt.now x.config x.accepted few (rw (← x.segment) (omega (arith, x.memory, fits)))

-- a lane of a setting has fewer than 2^32 blocks
pub lane_fits : (s : Setting) → IsSetting s → lane_length s < 2 ^ 32
lane_fits s good = let m = mul-le-mul_right s.segment_length good.some_lane in omega (arith, m, good.fits)

-- each of the four slices ends within the lane
pub start_fits : (s : Setting) (slice : ℕ) → IsSetting s → slice < 4 → slice * s.segment_length + s.segment_length ≤ lane_length s
start_fits s slice good h = let b : slice + 1 ≤ 4 = omega arith in let m = mul-le-mul_right s.segment_length b in omega (arith, m)

-- a block that a pass writes in a slice is in a pass after 0 or in a column after the first two
pub later_index : (pass slice len index : ℕ) → cond ((pass == 0) && (slice == 0)) 2 0 ≤ index → 2 ≤ len → 0 < pass ⊎ 1 < slice * len + index
later_index zero zero len index h k = inr (omega arith)
later_index zero (suc slice) len index h k = inr (omega arith)
later_index (suc pass) slice len index h k = inl (omega arith)

-- ---- each element of a reference set is earlier than its block; the set is not empty after the first two blocks

module _ (P : ℕ × ℕ → Type 0) where
  pub all-columns_from : (pass first n : ℕ) → ((k : ℕ) → first ≤ k → k < first + n → P (pass, k))
      → All P (map (λ column. (pass, column)) (range_with_len first n))
  all-columns_from pass first zero h = All-nil P
  all-columns_from pass first (suc n) h =
      All-cons P _ _ (h first (omega arith) (omega arith)) (all-columns_from pass (first + 1) n (λ k low high. h k (omega arith) (omega arith)))

-- ---- which blocks a pick may read

-- the block of `lane` at pass e.0 and column e.1 is of the pass before and a later slice, of this pass and an earlier
-- slice, or of this pass and an earlier column of the own lane
abbrev pub IsReadable : Setting → Position → ℕ → ℕ × ℕ → Type 0
IsReadable s at lane e =
    ((suc e.0 ≡ at.pass) × ((slice_of s at.column + 1) * s.segment_length ≤ e.1) × (e.1 < lane_length s))
    ⊎ (((e.0 ≡ at.pass) × (e.1 < slice_of s at.column * s.segment_length))
    ⊎ ((e.0 ≡ at.pass) × (lane ≡ at.lane) × (e.1 < at.column)))

module _ (s : Setting) (at : Position) (lane : ℕ) where
  left-readable : (pass : ℕ) → pass ≡ at.pass → All (IsReadable s at lane) (columns_of_last_pass s pass (slice_of s at.column))
  left-readable zero e = All-nil (IsReadable s at lane)
  left-readable (suc last) e =
      all-columns_from (IsReadable s at lane) last ((slice_of s at.column + 1) * s.segment_length) _ (λ k low high. inl (e, low, omega arith))

  before-readable : All (IsReadable s at lane) (columns_between at.pass 0 (slice_of s at.column * s.segment_length))
  before-readable = all-columns_from (IsReadable s at lane) at.pass 0 _ (λ k low high. inr (inl (refl, omega arith)))

  own-readable : (own : Bool) → (own ≡ true → lane ≡ at.lane) →
      All (IsReadable s at lane) (cond own (columns_between at.pass (slice_of s at.column * s.segment_length) at.column) [])
  own-readable false h = All-nil (IsReadable s at lane)
  own-readable true h = all-columns_from (IsReadable s at lane) at.pass (slice_of s at.column * s.segment_length) _ (λ k low high. inr (inr
      (refl, h refl, omega arith)))

  cut-readable : (cut : Bool) (xs : List (ℕ × ℕ)) → All (IsReadable s at lane) xs
      → All (IsReadable s at lane) (cond cut (without_last xs) xs)
  cut-readable true xs h = All-take (IsReadable s at lane) (length xs - 1) xs h
  cut-readable false xs h = h

  pub reference_set-readable : All (IsReadable s at lane) (reference_set s at lane)
  unfolding reference_set
  reference_set-readable =
      cut-readable (lane == at.lane || index_of s at.column == 0) _
      (All-append (IsReadable s at lane) _ _
      (All-append (IsReadable s at lane) _ _ (left-readable at.pass refl) before-readable)
      (own-readable (lane == at.lane) (λ h. eqb-true lane at.lane h)))

-- e, a pass and a column, is before `at`: in the pass before, or in the same pass and an earlier column
abbrev pub IsBefore : Setting → Position → ℕ × ℕ → Type 0
IsBefore s at e = ((suc e.0 ≡ at.pass) × (e.1 < lane_length s)) ⊎ ((e.0 ≡ at.pass) × (e.1 < at.column))

-- each place that a block may read is before the block's own place
readable-before : (s : Setting) (at : Position) (lane : ℕ) (e : ℕ × ℕ) → IsReadable s at lane e → IsBefore s at e
readable-before s at lane e (inl w) = inl (w.0, w.2)
readable-before s at lane e (inr (inl w)) = inr (w.0, let d = div-add-mod at.column s.segment_length in omega (arith, d, w.1))
readable-before s at lane e (inr (inr w)) = inr (w.0, w.2)

-- ---- the sizes of reference sets

-- `columns_between pass first end` lists `end - first` columns
pub length-columns : (pass first end : ℕ) → length (columns_between pass first end) ≡ end - first
length-columns pass first end = length-map-range_with_len (λ column. (pass, column)) first (end - first)

-- after pass 0, the columns up to a slice's end and the previous pass's columns after it add up to the lane
pub length-left : (s : Setting) (pass slice : ℕ) → slice < 4 → 0 < pass →
    length (columns_of_last_pass s pass slice) + (slice + 1) * s.segment_length ≡ lane_length s
length-left s zero slice few h = omega arith
length-left s (suc last) slice few h =
    let e = length-columns last ((slice + 1) * s.segment_length) (lane_length s) in
    let b : slice + 1 ≤ 4 = omega arith in
    let m = mul-le-mul_left s.segment_length b in
    omega (arith, e, m)

-- a list of at least two elements is not empty, even if its last element is left out
cut_leaves_some : (cut : Bool) (xs : List (ℕ × ℕ)) → 2 ≤ length xs → 0 < length (cond cut (without_last xs) xs)
cut_leaves_some true xs h = let e = length-take (length xs - 1) xs in omega (arith, e)
cut_leaves_some false xs h = omega arith

module _ (s : Setting) (at : Position) (good : IsSetting s) (here : IsPosition s at) where
  few_slices : slice_of s at.column < 4
  few_slices = (div-lt_iff_lt-mul (omega (arith, good.long_segments))).1 (omega (arith, here.column_fits))

  -- the columns of W outside the block's own segment, and the columns of the own segment before the block
  abbrev elsewhere : List (ℕ × ℕ)
  elsewhere = columns_of_last_pass s at.pass (slice_of s at.column) ++ columns_between at.pass 0 (slice_of s at.column * s.segment_length)

  abbrev own_columns : List (ℕ × ℕ)
  own_columns = columns_between at.pass (slice_of s at.column * s.segment_length) at.column

  -- `elsewhere` contains at least two columns, unless this is the first slice of pass 0
  two_elsewhere : (0 < at.pass ⊎ 0 < slice_of s at.column) → 2 ≤ length elsewhere
  two_elsewhere h =
      let now = length-columns at.pass 0 (slice_of s at.column * s.segment_length) in
      let both = length-append (columns_of_last_pass s at.pass (slice_of s at.column)) (columns_between at.pass 0 (slice_of s at.column * s.segment_length)) in
      elim h [
        | inl h ↦ let left = length-left s at.pass (slice_of s at.column) few_slices h in omega (arith, left, now, both, good.long_segments)
        | inr h ↦ let more = mul-le-mul_left s.segment_length h in omega (arith, now, both, more, good.long_segments)
      ]

  -- `elsewhere ++ ys` contains at least two columns, unless this is the first slice of pass 0
  elsewhere-append : (ys : List (ℕ × ℕ)) → (0 < at.pass ⊎ 0 < slice_of s at.column) → 2 ≤ length (elsewhere ++ ys)
  elsewhere-append ys h = let two = two_elsewhere h in let both = length-append elsewhere ys in omega (arith, two, both)

  -- in the first slice of pass 0, `elsewhere ++ own_columns` contains at least two columns if `at.column` is above 1
  two_in_first_slice : at.pass ≡ 0 → slice_of s at.column ≡ 0 → 1 < at.column → 2 ≤ length (elsewhere ++ own_columns)
  two_in_first_slice no_pass no_slice h =
      let own = length-columns at.pass (slice_of s at.column * s.segment_length) at.column in
      let both = length-append elsewhere own_columns in
      let nothing : slice_of s at.column * s.segment_length ≡ 0 = rw no_slice (omega arith) in
      omega (arith, own, both, nothing)

  two_references : (own : Bool) → (0 < at.pass ⊎ 1 < at.column) → (at.pass ≡ 0 → slice_of s at.column ≡ 0 → own ≡ true) →
      2 ≤ length (elsewhere ++ cond own own_columns [])
  two_references own later own_first =
      elim (cases_lt 0 at.pass) [
        | inl h ↦ elsewhere-append _ (inl h)
        | inr no_pass ↦ elim (cases_lt 0 (slice_of s at.column)) [
          | inl h ↦ elsewhere-append _ (inr h)
          | inr no_slice ↦ rw (own_first (omega (arith, no_pass)) (omega (arith, no_slice)))
              (two_in_first_slice (omega (arith, no_pass)) (omega (arith, no_slice)) (elim later [ inl h ↦ absurd (omega arith) | inr h ↦ h ]))
        ]
      ]

  pub some_reference : (lane : ℕ) → (0 < at.pass ⊎ 1 < at.column) → (at.pass ≡ 0 → slice_of s at.column ≡ 0 → (lane == at.lane) ≡ true) →
      0 < length (reference_set s at lane)
  unfolding reference_set
  some_reference lane later own_first =
      cut_leaves_some (lane == at.lane || index_of s at.column == 0) _ (two_references (lane == at.lane) later own_first)

-- the relative position that a word draws in a set of n elements is below n, if n is above 0
pub relative_position_fits : (n word : ℕ) → 0 < n → relative_position n word < n
relative_position_fits n word h = omega arith

-- ---- the place that a word picks

-- if m and n are below k, then the one that `cond` chooses is below k
cond_below : (b : Bool) {m n k : ℕ} → m < k → n < k → cond b m n < k
cond_below true h h' = h
cond_below false h h' = h'

module _ (s : Setting) (word : ℕ) (at : Position) where
  -- in the first slice of pass 0, the drawn lane is the block's own lane
  pub own_lane_first : at.pass ≡ 0 → slice_of s at.column ≡ 0 → (drawn_lane s word at == at.lane) ≡ true
  own_lane_first no_pass no_slice = rw (no_pass, no_slice) (eq-eqb at.lane at.lane refl)

  pub drawn_lane_fits : IsSetting s → IsPosition s at → drawn_lane s word at < s.lanes
  drawn_lane_fits good here =
      cond_below ((at.pass == 0) && (slice_of s at.column == 0)) here.lane_fits (mod-lt (high_half word) good.some_lane)

-- the place that a word picks for a block other than a lane's first two is one that the block may read
pub pick-readable : (s : Setting) (word : ℕ) (at : Position) → IsSetting s → IsPosition s at → (0 < at.pass ⊎ 1 < at.column) →
    IsReadable s at (pick s word at).lane ((pick s word at).pass, (pick s word at).column)
unfolding pick
pick-readable s word at good here later =
    let some = some_reference s at good here (drawn_lane s word at) later (own_lane_first s word at) in
    reference_set-readable s at (drawn_lane s word at) _ (0, 0) (relative_position_fits _ word some)

-- the place that a word picks for a block other than a lane's first two is before the block's own place
pub pick-before : (s : Setting) (word : ℕ) (at : Position) → IsSetting s → IsPosition s at → (0 < at.pass ⊎ 1 < at.column) →
    IsBefore s at ((pick s word at).pass, (pick s word at).column)
pick-before s word at good here later = readable-before s at (pick s word at).lane _ (pick-readable s word at good here later)

-- ---- `block_at` meets the recurrence, and no other function does

-- `cond b x y` equals `cond b x' y'` if x equals x' whenever b is true, and y equals y' whenever b is false
pub same_choice : {A : Type 0} (b : Bool) (x x' y y' : A) → (b ≡ true → x ≡ x') → (b ≡ false → y ≡ y') → cond b x y ≡ cond b x' y'
same_choice true x x' y y' h k = h refl
same_choice false x x' y y' h k = k refl

-- p is a place of the setting with a lower rank than `at`
pub record IsEarlier (s : Setting) (p at : Position) : Type 0 where
  pub place : IsPosition s p
  pub less : rank s p < rank s at

-- f and g agree on all places earlier than `at`
abbrev pub AgreeBefore : Setting → Position → Blocks → Blocks → Type 0
AgreeBefore s at f g = (p : Position) → IsEarlier s p at → f p ≡ g p

-- if lanes have q columns, each place of an earlier pass p' has a lower rank than each place of pass p
earlier_pass : (q p p' c c' : ℕ) → suc p' ≤ p → c' < q → p' * q + c' < p * q + c
earlier_pass q p p' c c' h lt = let m = mul-le-mul_right q h in omega (arith, m)

-- a place outside the first two columns of pass 0 is in a pass after 0 or in a column after the first two
not_first : (pass column : ℕ) → ((pass == 0) && nat_lt column 2) ≡ false → 0 < pass ⊎ 1 < column
not_first zero column h = inr (ltb-false column 2 h)
not_first (suc pass) column h = inl (omega arith)

module _ (s : Setting) (at : Position) (good : IsSetting s) (here : IsPosition s at) where
  previous-earlier : (0 < at.pass ⊎ 1 < at.column) → IsEarlier s (previous s at) at
  previous-earlier later = elim (eqb_tells at.column 0) [
    | inl w ↦ rw w.0 (record {
      place = record { lane_fits = here.lane_fits; column_fits = omega (arith, good.long_segments) };
      less = earlier_pass (lane_length s) at.pass (at.pass - 1) at.column (lane_length s - 1)
          (elim later [ inl h ↦ omega arith | inr h ↦ absurd (omega (arith, w.1)) ]) (omega (arith, good.long_segments));
    })
    | inr w ↦ rw w.0 (record {
      place = record { lane_fits = here.lane_fits; column_fits = omega (arith, here.column_fits) };
      less = omega (arith, w.1);
    })
  ]

  last_pass-earlier : 0 < at.pass → IsEarlier s (record at { pass = at.pass - 1 }) at
  last_pass-earlier h = record {
    place = record { lane_fits = here.lane_fits; column_fits = here.column_fits };
    less = earlier_pass (lane_length s) at.pass (at.pass - 1) at.column at.column (omega arith) here.column_fits;
  }

  before-earlier : (pass column lane : ℕ) → lane < s.lanes → IsBefore s at (pass, column) →
      IsEarlier s (record { pass = pass; lane = lane; column = column }) at
  before-earlier pass column lane fits (inl w) = record {
    place = record { lane_fits = fits; column_fits = w.1 };
    less = earlier_pass (lane_length s) at.pass pass at.column column (omega (arith, w.0)) w.1;
  }
  before-earlier pass column lane fits (inr w) = record {
    place = record { lane_fits = fits; column_fits = omega (arith, w.1, here.column_fits) };
    less = rw w.0 (omega (arith, w.1));
  }

  pick-earlier : (word : ℕ) → (0 < at.pass ⊎ 1 < at.column) → IsEarlier s (pick s word at) at
  unfolding pick
  pick-earlier word later = before-earlier _ _ _ (drawn_lane_fits s word at good here) (pick-before s word at good here later)

  same_next : (f g : Blocks) → AgreeBefore s at f g → (0 < at.pass ⊎ 1 < at.column) → next_block s f at ≡ next_block s g at
  same_next f g same later =
      let before = same _ (previous-earlier later) in
      let drawn : drawn_word s f at ≡ drawn_word s g at = rw before refl in
      let picked = same _ (pick-earlier (drawn_word s g at) later) in
      rw (drawn, before, picked) (same_choice (combines s.version && nat_lt 0 at.pass) _ _ _ _
      (λ h. ap (λ old. xor (compress_g (g (previous s at)) (g (pick s (drawn_word s g at) at))) old) (same _ (last_pass-earlier (ltb-true 0 at.pass
      (and_parts (combines s.version) _ h).1))))
      (λ h. refl))

  same_recurrence : (f g : Blocks) → AgreeBefore s at f g → recurrence s f at ≡ recurrence s g at
  same_recurrence f g same =
      same_choice ((at.pass == 0) && nat_lt at.column 2) _ _ _ _ (λ h. refl) (λ h. same_next f g same (not_first at.pass at.column h))

module _ (s : Setting) (good : IsSetting s) where
  -- if n and m are above a place's rank, unrolling n times and m times yields the same block at that place
  same_unrolled : (n m : ℕ) (at : Position) → IsPosition s at → rank s at < n → rank s at < m → unroll s n at ≡ unroll s m at
  unfolding unroll
  same_unrolled zero m at here low low' = absurd (omega arith)
  same_unrolled (suc n) zero at here low low' = absurd (omega arith)
  same_unrolled (suc n) (suc m) at here low low' =
      same_recurrence s at good here (unroll s n) (unroll s m)
      (λ p e. same_unrolled n m p e.place (omega (arith, e.less)) (omega (arith, e.less)))

  -- `block_at` (B) meets the recurrence at each place
  pub block_at-recurrence : (at : Position) → IsPosition s at → block_at s at ≡ recurrence s (block_at s) at
  unfolding block_at unroll
  block_at-recurrence at here =
      same_recurrence s at good here (unroll s (rank s at)) (block_at s)
      (λ p e. same_unrolled (rank s at) (suc (rank s p)) p e.place e.less (omega arith))

  -- a function that meets the recurrence equals `block_at` (B) at each place whose rank is below n
  unique_to : (n : ℕ) (f : Blocks) → ((at : Position) → IsPosition s at → f at ≡ recurrence s f at) →
      (at : Position) → IsPosition s at → rank s at < n → f at ≡ block_at s at
  unique_to zero f meets at here low = absurd (omega arith)
  unique_to (suc n) f meets at here low =
      meets at here
      ∙ same_recurrence s at good here f (block_at s) (λ p e. unique_to n f meets p e.place (omega (arith, e.less)))
      ∙ sym (block_at-recurrence at here)

  pub block_at-unique : (f : Blocks) → ((at : Position) → IsPosition s at → f at ≡ recurrence s f at) →
      (at : Position) → IsPosition s at → f at ≡ block_at s at
  block_at-unique f meets at here = unique_to (suc (rank s at)) f meets at here (omega arith)
