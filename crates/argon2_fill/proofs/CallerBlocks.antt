-- Caller-provided blocks while they are filled.
use Rattle.std.proofs.Common.{◌≡◌, ◌≢◌, ℕ, ◌+◌, ◌-◌, ◌*◌, ◌<◌, ◌≤◌, List, [], ◌∷◌, ◌++◌, length, take, drop, set, get_or, refl, arith, inl, inr, sym}
use Rattle.std.proofs.Common.{◌∙◌, ap, subst}
use Rattle.std.specs.List.{remove}
use Rattle.std.proofs.Math.Nat.{mul-le-mul_right}
use Rattle.std.proofs.lemmas.Bool.Decides.{eqb_tells}
use Rattle.std.proofs.lemmas.Bool.{cases_lt}
use Rattle.std.proofs.lemmas.List.{get_or_append_left, get_or-append_right, get_or-set_other, get_or-set_same, get_or-take, get_or-drop, length-take}
use Rattle.std.proofs.lemmas.List.{length-drop, length-append, ext_get_or, append_assoc, drop-drop}
use Rattle.std.proofs.Math.Seq.{take-append_seam, drop-append_seam}
use Rattle.argon2_standard.specs.Standard.Setting.{Setting}
use Rattle.argon2_standard.specs.Standard.Recurrence.{first_block}
use Rattle.argon2_memory.specs.Views.Jobs.{IsSetting, Job, IsJob}
use Rattle.argon2_memory.specs.Views.Places.{AreFilledBelow, Fills, FillsAmong, HoldOthers, HoldsSlice, IsReadySlice, among, blocks_of_lane}
use Rattle.argon2_memory.specs.Views.Places.{places_of_slices}
use Rattle.argon2_memory.specs.Views.Segments.{IsReady}
use Rattle.argon2_memory.proofs.Slices.{get-blocks_of_lane, length-blocks_of_lane, among-remove, others_hold, filled_further}
use Rattle.argon2_fill.proofs.Passes.{ready_first}

-- ---- filling one lane of a caller-provided slice, and going from slice to slice

-- ---- one lane of a slice

module _ (s : Setting) (old : List (List ℕ)) (lane : ℕ) (long : length old ≡ s.lanes * s.segment_length) (fits : lane < s.lanes)
    (new : List (List ℕ)) (same : length new ≡ s.segment_length) where
  abbrev start : ℕ
  start = lane * s.segment_length

  -- the slice `old` with the lane's part replaced by `new`
  abbrev placed : List (List ℕ)
  placed = take start old ++ (new ++ drop s.segment_length (drop start old))

  -- if `front` and `after` are the parts of `old` around the lane, `front`, `new` and `after` make up `placed`
  placed-is : (front rest after : List (List ℕ)) (at len : ℕ) → front ≡ take at old → rest ≡ drop at old → after ≡ drop len rest →
      at ≡ start → len ≡ s.segment_length → front ++ (new ++ after) ≡ placed
  placed-is front rest after at len f r a e n = rw (f, a, r, e, n) refl

  room : start + s.segment_length ≤ s.lanes * s.segment_length
  room = let next : lane + 1 ≤ s.lanes = omega arith in let m = mul-le-mul_right s.segment_length next in omega (arith, m)

  length-front : length (take start old) ≡ start
  length-front = let t = length-take start old in omega (arith, t, long, room)

  length-placed : length placed ≡ s.lanes * s.segment_length
  length-placed =
      let a = length-append (take start old) (new ++ drop s.segment_length (drop start old)) in
      let b = length-append new (drop s.segment_length (drop start old)) in
      let d = length-drop s.segment_length (drop start old) in
      let e = length-drop start old in
      omega (arith, a, b, d, e, long, room, same, length-front)

  get-before : (i : ℕ) → i < start → get_or placed i [] ≡ get_or old i []
  get-before i h =
      get_or_append_left (take start old) (new ++ drop s.segment_length (drop start old)) [] i (omega (arith, h, length-front))
      ∙ get_or-take start old i [] h

  get-behind : (i : ℕ) → start + s.segment_length ≤ i → get_or placed i [] ≡ get_or old i []
  get-behind i h =
      get_or-append_right (take start old) (new ++ drop s.segment_length (drop start old)) start i [] length-front (omega (arith, h))
      ∙ get_or-append_right new (drop s.segment_length (drop start old)) s.segment_length (i - start) [] same (omega (arith, h))
      ∙ get_or-drop s.segment_length (drop start old) (i - start - s.segment_length) []
      ∙ get_or-drop start old (s.segment_length + (i - start - s.segment_length)) []
      ∙ ap (λ n. get_or old n []) (omega (arith, h))

  -- in `placed`, every other lane l has the blocks that lane l has in `old`
  other-placed : (l : ℕ) → l < s.lanes → l ≢ lane → blocks_of_lane s placed l ≡ blocks_of_lane s old l
  other-placed l h ne =
      let a = length-blocks_of_lane s placed l length-placed h in
      let b = length-blocks_of_lane s old l long h in
      ext_get_or [] (blocks_of_lane s placed l) (blocks_of_lane s old l) (a ∙ sym b) (λ k lt. let h' : k < s.segment_length = omega (arith, lt, a) in
      get-blocks_of_lane s placed l k h' ∙ elim (cases_lt l lane) [
        | inl w ↦ let next : l + 1 ≤ lane = omega (arith, w) in let m = mul-le-mul_right s.segment_length next in
            get-before (l * s.segment_length + k) (omega (arith, m, h'))
        | inr w ↦ let next : lane + 1 ≤ l = omega (arith, w, ne) in let m = mul-le-mul_right s.segment_length next in
            get-behind (l * s.segment_length + k) (omega (arith, m, h'))
      ] ∙ sym (get-blocks_of_lane s old l k h'))

  pub others-stay : (front rest after : List (List ℕ)) (at len : ℕ) → front ≡ take at old → rest ≡ drop at old → after ≡ drop len rest →
      at ≡ start → len ≡ s.segment_length → (l : ℕ) → l < s.lanes → l ≢ lane → blocks_of_lane s (front ++ (new ++ after)) l ≡ blocks_of_lane s old l
  others-stay front rest after at len f r a e n l h ne =
      ap (λ (b : List (List ℕ)). blocks_of_lane s b l) (placed-is front rest after at len f r a e n) ∙ other-placed l h ne

-- ---- two lanes of a slice, one behind the other

module _ (s : Setting) (old : List (List ℕ)) (lane : ℕ) (long : length old ≡ s.lanes * s.segment_length) (fits : lane + 1 < s.lanes)
    (own other : List (List ℕ)) (same : length own ≡ s.segment_length) (same' : length other ≡ s.segment_length) where
  abbrev from : ℕ
  from = lane * s.segment_length

  abbrev rest : List (List ℕ)
  rest = drop s.segment_length (drop from old)

  abbrev head : List (List ℕ)
  head = take from old ++ own

  -- the slice `old` with the first lane's part replaced by `own`, and then the second one's by `other`
  abbrev one : List (List ℕ)
  one = take from old ++ (own ++ rest)

  abbrev both : List (List ℕ)
  both = take from old ++ (own ++ (other ++ drop s.segment_length rest))

  below : lane < s.lanes
  below = omega (arith, fits)

  length-head : length head ≡ (lane + 1) * s.segment_length
  length-head = let a = length-append (take from old) own in let f = length-front s old lane long below own same in omega (arith, a, f, same)

  one-is : one ≡ head ++ rest
  one-is = sym (append_assoc (take from old) own rest)

  both-is : both ≡ head ++ (other ++ drop s.segment_length rest)
  both-is = sym (append_assoc (take from old) own (other ++ drop s.segment_length rest))

  head-of-one : head ≡ take ((lane + 1) * s.segment_length) one
  head-of-one = sym (ap (λ (b : List (List ℕ)). take ((lane + 1) * s.segment_length) b) one-is
      ∙ ap (λ n. take n (head ++ rest)) (sym length-head) ∙ take-append_seam head rest)

  rest-of-one : rest ≡ drop ((lane + 1) * s.segment_length) one
  rest-of-one = sym (ap (λ (b : List (List ℕ)). drop ((lane + 1) * s.segment_length) b) one-is
      ∙ ap (λ n. drop n (head ++ rest)) (sym length-head) ∙ drop-append_seam head rest)

  pub pair-is : (front after rest₁ rest₂ : List (List ℕ)) (at len : ℕ) → front ≡ take at old → after ≡ drop len rest₂ → rest₂ ≡ drop len rest₁ →
      rest₁ ≡ drop at old → at ≡ from → len ≡ s.segment_length → front ++ (own ++ (other ++ after)) ≡ both
  pair-is front after rest₁ rest₂ at len f a r₂ r₁ e n = rw (f, a, r₂, r₁, e, n) refl

  -- every lane but the two has the blocks that it has in `old`
  pub pair-stays : (l : ℕ) → l < s.lanes → l ≢ lane → l ≢ lane + 1 → blocks_of_lane s both l ≡ blocks_of_lane s old l
  pair-stays l h ne ne' =
      ap (λ (b : List (List ℕ)). blocks_of_lane s b l) both-is
      ∙ others-stay s one (lane + 1) (length-placed s old lane long below own same) fits other same' head rest (drop s.segment_length rest)
      ((lane + 1) * s.segment_length) s.segment_length head-of-one rest-of-one refl refl refl l h ne'
      ∙ others-stay s old lane long below own same (take from old) (drop from old) rest from s.segment_length refl refl refl refl refl l h ne

  pub pair-next : blocks_of_lane s both (lane + 1) ≡ other
  pair-next =
      ap (λ (b : List (List ℕ)). take s.segment_length (drop ((lane + 1) * s.segment_length) b)) both-is
      ∙ ap (λ n. take s.segment_length (drop n (head ++ (other ++ drop s.segment_length rest)))) (sym length-head)
      ∙ ap (λ (b : List (List ℕ)). take s.segment_length b) (drop-append_seam head (other ++ drop s.segment_length rest))
      ∙ ap (λ n. take n (other ++ drop s.segment_length rest)) (sym same') ∙ take-append_seam other (drop s.segment_length rest)

  pub next-was : (rest₁ rest₂ : List (List ℕ)) (at len : ℕ) → rest₂ ≡ drop len rest₁ → rest₁ ≡ drop at old → at ≡ from → len ≡ s.segment_length →
      take len rest₂ ≡ blocks_of_lane s old (lane + 1)
  next-was rest₁ rest₂ at len r₂ r₁ e n = rw (r₂, r₁, e, n) (ap (λ (b : List (List ℕ)). take s.segment_length b) (drop-drop s.segment_length from old
      ∙ ap (λ k. drop k old) (omega arith)))

-- ---- the first two blocks of a lane

pub slice_begun : (s : Setting) → IsSetting s → (lane : ℕ) → lane < s.lanes → (old : List (List ℕ)) → length old ≡ s.segment_length → (x y : List ℕ) →
    x ≡ first_block s (record { pass = 0; lane = lane; column = 0 }) → y ≡ first_block s (record { pass = 0; lane = lane; column = 1 }) →
    IsReady s 0 0 lane (set (set old 0 x) 1 y)
slice_begun s good lane fits [] long x y ex ey = absurd (omega (arith, long, good.long_segments))
slice_begun s good lane fits (a ∷ []) long x y ex ey = absurd (omega (arith, long, good.long_segments))
slice_begun s good lane fits (a ∷ b ∷ rest) long x y ex ey =
    ready_first s good lane fits (x ∷ y ∷ rest) (omega (arith, long)) (λ column h. elim (eqb_tells column 0) [
      | inl w ↦ rw w.1 ex
      | inr w ↦ let e : column ≡ 1 = omega (arith, h, w.1) in rw e ey
    ])

-- ---- from slice to slice

-- if the fill of slice k, the job's own, leaves `new`, then with `new` at k `AreFilledBelow` holds for the next slice
pub filled_at : (j : Job) → IsJob j → (m : List (List (List ℕ))) → length m ≡ 4 → (k : ℕ) → j.slice ≡ k → (new : List (List ℕ)) →
    (HoldOthers j (among j (places_of_slices j.setting (remove m k))) → IsReadySlice j.setting j.pass j.slice (places_of_slices j.setting m k) →
    HoldsSlice j.setting j.pass j.slice (blocks_of_lane j.setting new)) →
    AreFilledBelow j.setting j.pass j.slice (places_of_slices j.setting m) → AreFilledBelow j.setting j.pass (j.slice + 1) (places_of_slices j.setting (set m k new))
filled_at j good m four k e new fills ready =
    let few : j.slice < length m = let g = good.slice_fits in omega (arith, g, four) in
    let lanes : List (List ℕ) → ℕ → List (List ℕ) = λ l lane. blocks_of_lane j.setting l lane in
    let Filled : ℕ → Type 0 = λ n. HoldOthers j (among j (places_of_slices j.setting (remove m n))) → IsReadySlice j.setting j.pass j.slice (places_of_slices j.setting m n)
    → HoldsSlice j.setting j.pass j.slice (blocks_of_lane j.setting new) in
    let held = others_hold j (places_of_slices j.setting m) ready (among j (places_of_slices j.setting (remove m j.slice)))
    (λ i lane ne. ap (λ l. lanes l lane) (among-remove j m [] few i ne)) in
    let holds = subst Filled (sym e) fills held (λ lane fits. ready.above j.slice lane (omega arith) good.slice_fits fits) in
    let Next : ℕ → Type 0 = λ n. AreFilledBelow j.setting j.pass (j.slice + 1) (places_of_slices j.setting (set m n new)) in
    subst Next e (filled_further j (places_of_slices j.setting m) ready (places_of_slices j.setting (set m j.slice new))
    (λ i lane ne. ap (λ l. lanes l lane) (get_or-set_other m j.slice i new [] ne))
    (λ lane fits. ap (λ l. lanes l lane) (get_or-set_same m j.slice new [] few) ∙ holds lane fits))

-- `FillsAmong` with the other three slices of m implies `Fills` with all four slices of m
pub fills_among : (j : Job) (m : List (List (List ℕ))) → j.slice < length m → (lane : ℕ) (old new : List (List ℕ)) →
    FillsAmong j lane (remove m j.slice) old new → Fills j lane (places_of_slices j.setting m) old new
fills_among j m few lane old new fills held =
    let same : (k l : ℕ) → k ≢ j.slice → among j (places_of_slices j.setting (remove m j.slice)) k l ≡ places_of_slices j.setting m k l =
    λ k l ne. ap (λ x. blocks_of_lane j.setting x l) (among-remove j m [] few k ne) in
    fills (record {
      lower = λ k l h fits. same k l (λ n. absurd (omega (arith, h, n))) ∙ held.lower k l h fits;
      upper = λ k l last low high fits p. same k l (λ n. absurd (omega (arith, low, n))) ∙ held.upper k l last low high fits p;
    })
