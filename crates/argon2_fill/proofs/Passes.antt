-- The first blocks, and all passes while they are filled.
use Rattle.std.proofs.Common.{◌≡◌, ℕ, zero, suc, ◌/◌, ◌%◌, ◌<◌, List, [], length, take, get_or, arith, sym, ◌∙◌, ap, ◌+◌, ◌-◌, ◌*◌, ◌^◌, ◌≤◌, false}
use Rattle.std.proofs.Common.{◌∷◌, refl, cond, inl, inr, ◌≢◌, subst}
use Rattle.std.proofs.lemmas.List.{get_or-take, length-take, ext_get_or}
use Rattle.std.proofs.lemmas.List.FromFn.{get_or-map-range_with_len, length-map-range_with_len, fill_by_all, map-range_with_len_more}
use Rattle.std.proofs.Math.Nat.{div-eq_of_lt, mod-eq_of_lt, div-add-mod, mod-lt, mul-le-mul_right}
use Rattle.argon2_standard.specs.Standard.Setting.{Setting, lane_length, memory_blocks}
use Rattle.argon2_memory.specs.Views.Jobs.{IsSetting}
use Rattle.argon2_memory.specs.Theorems.Schedule.{IsBegun, blocks_in_slice}
use Rattle.argon2_standard.specs.Standard.Recurrence.{block_at, first_block}
use Rattle.argon2_memory.specs.Views.Segments.{IsReady, segment_at, segment_block}
use Rattle.argon2_memory.specs.Views.Memories.{AreSlices, blocks_written}
use Rattle.argon2_memory.specs.Standard.Kept.{MemoryValue, HasShape, block_of, segment_in, HoldsLastPass}
use Rattle.argon2_memory.specs.Views.Places.{places_in, Places, AreFilledBelow, IsReadySlice, HoldsSlice, Lanes, last_blocks_in, Fills, HoldOthers}
use Rattle.argon2_memory.proofs.AnyOrder.{recurrence_first, IsNext, is_next, neither}
use Rattle.argon2_memory.proofs.Recurrences.{block_at-recurrence}
use Rattle.std.specs.Prelude.{◌==◌, ◌&&◌}
use Rattle.std.proofs.lemmas.Bool.{cases_lt, ne_eqb}
use Rattle.argon2_memory.proofs.Slices.{slice_fits, others_hold, filled_further}
use Rattle.std.specs.List.{fold, count_by}
use Rattle.std.proofs.lemmas.List.Sums.{fold-append, sum_by-cons}
use Rattle.std.proofs.lemmas.Nat.{div-mul-add}
use Rattle.argon2_blocks.specs.Standard.Block.{xor, zero_block}
use Rattle.argon2_standard.specs.Standard.Tag.{last_blocks}
use Rattle.argon2_fill.specs.Theorems.Lanes.{IsRunOfLanes, numbered}
use Rattle.std.proofs.lemmas.Bool.Decides.{eqb_tells}
use Rattle.argon2_fill.specs.Theorems.Turns.{AreTurns, EachHasATurn, EveryOrderOfTurnsAgrees, IsTurn}

-- ---- a memory with the first two blocks of each lane

-- a whole segment of slice 0 with the lane's first two blocks at its front is ready for pass 0
pub ready_first : (s : Setting) → IsSetting s → (lane : ℕ) → lane < s.lanes → (blocks : List (List ℕ)) → length blocks ≡ s.segment_length →
    ((column : ℕ) → column < 2 → get_or blocks column [] ≡ first_block s (record { pass = 0; lane = lane; column = column })) → IsReady s 0 0 lane blocks
ready_first s good lane fits blocks n first =
    let t = length-take 2 blocks in
    let u = length-take 2 (segment_at s 0 0 lane) in
    let l = length-map-range_with_len (segment_block s 0 0 lane) 0 s.segment_length in (
      n,
      ext_get_or [] (take 2 blocks) (take 2 (segment_at s 0 0 lane)) (omega (arith, t, u, l, n, good.long_segments))
          (λ i h. let h' : i < 2 = omega (arith, t, h) in
          get_or-take 2 blocks i [] h' ∙ first i h'
          ∙ sym (get_or-take 2 (segment_at s 0 0 lane) i [] h'
          ∙ get_or-map-range_with_len (segment_block s 0 0 lane) 0 s.segment_length i i [] (omega (arith, good.long_segments)) (omega arith)
          ∙ ap (λ c. block_at s (record { pass = 0; lane = lane; column = c })) (omega arith)
          ∙ block_at-recurrence s good (record { pass = 0; lane = lane; column = i }) (record {
            lane_fits = fits;
            column_fits = omega
                (arith, good.long_segments);
          })
          ∙ recurrence_first s (block_at s) lane i h')),
    )

-- if slice 0 is ready for pass 0 and each segment has its full length, all four slices are ready for pass 0
module _ (s : Setting) (places : Places) (long : (k lane : ℕ) → k < 4 → lane < s.lanes → length (places k lane) ≡ s.segment_length)
    (begun : IsReadySlice s 0 0 (places 0)) where
  ready_by : (k lane : ℕ) → k < 4 → lane < s.lanes → IsReady s 0 k lane (places k lane)
  ready_by zero lane h fits = begun lane fits
  ready_by (suc k) lane h fits = long (suc k) lane h fits

  pub begun_below : AreFilledBelow s 0 0 places
  begun_below = record {
    below = λ k lane h fits. absurd (omega arith);
    above = λ k lane low high fits. ready_by k lane high fits;
  }

module _ (s : Setting) (good : IsSetting s) (m : MemoryValue) (shape : HasShape s m) (slices : AreSlices s.lanes s.segment_length m.slices)
    (begun : IsBegun s (block_of m)) where
  first_stand : (lane column : ℕ) → lane < s.lanes → column < 2 →
      get_or (segment_in m.slices 0 lane).blocks column [] ≡ first_block s (record { pass = 0; lane = lane; column = column })
  first_stand lane column fits h =
      let short : column < m.segment_length = omega (arith, shape.segment_length, good.long_segments) in
      let q : column / m.segment_length ≡ 0 = div-eq_of_lt short in
      let r : column % m.segment_length ≡ column = mod-eq_of_lt short in
      rw (q, r) at (begun lane column fits h)

  pub filled_begun : AreFilledBelow s 0 0 (places_in m.slices)
  filled_begun = begun_below s (places_in m.slices) slices.blocks
      (λ lane fits. ready_first s good lane fits (segment_in m.slices 0 lane).blocks (slices.blocks 0 lane (omega arith) fits)
      (λ column l. first_stand lane column fits l))

-- ---- from one slice to the next, and what the slices write

-- after the fill of a slice, `AreFilledBelow` holds for the next slice to fill, in the same pass or the next pass
next-below : (s : Setting) (pass slice pass' slice' : ℕ) (places : Places) → IsNext pass slice pass' slice' →
    AreFilledBelow s pass (slice + 1) places → AreFilledBelow s pass' slice' places
next-below s pass slice pass' slice' places (inl w) filled = record {
  below = λ k lane h fits. filled.below k lane (omega (arith, w.0)) fits ∙ ap (λ p. segment_at s p k lane) w.1;
  above = λ k lane low high fits. rw w.1 at (filled.above k lane (omega (arith, w.0)) high fits);
}
next-below s pass slice pass' slice' places (inr w) filled = record {
  below = λ k lane h fits. absurd (omega (arith, w.1));
  above = λ k lane low high fits. let e : suc pass ≡ pass' = omega (arith, w.2) in rw (← e) (filled.below k lane (omega (arith, w.0)) fits);
}

-- with slices numbered over all passes: after the fill of slice n, `AreFilledBelow` holds for slice n + 1
pub next_slice : (s : Setting) (n : ℕ) (places : Places) → AreFilledBelow s (n / 4) (n % 4 + 1) places →
    AreFilledBelow s ((n + 1) / 4) ((n + 1) % 4) places
next_slice s n places filled =
    let e : suc n ≡ n + 1 = omega arith in next-below s (n / 4) (n % 4) ((n + 1) / 4) ((n + 1) % 4) places (rw e at (is_next n)) filled

-- p times the sum of a and b is p times a plus p times b
dist : (p a b c : ℕ) → c ≡ a + b → p * c ≡ p * a + p * b
dist p a b c e = rw e (omega arith)

-- in p lanes, the first n + 1 slices write as many blocks as the first n slices and slice number n together
written_after : (p len n : ℕ) → 2 ≤ len → p * ((n + 1) * len - cond (n + 1 == 0) 0 2) ≡ p * (n * len - cond (n == 0) 0 2) + p * cond ((n / 4 == 0) &&
    (n % 4 == 0)) (len - 2) len
written_after p len zero h = dist p (0 * len - 0) (len - 2) _ (omega arith)
written_after p len (suc m) h =
    let a : (suc m + 1 == 0) ≡ false = ne_eqb (suc m + 1) 0 (λ e. absurd (omega (arith, e))) in
    let b : (suc m == 0) ≡ false = ne_eqb (suc m) 0 (λ e. absurd (omega (arith, e))) in
    let c : ((suc m / 4 == 0) && (suc m % 4 == 0)) ≡ false = neither (suc m / 4) (suc m % 4) (elim (cases_lt 0
    (suc m / 4)) [ inl l ↦ inl l | inr l ↦ inr (omega (arith, l)) ]) in
    rw (a, b, c) (dist p (suc m * len - 2) len _ (let k : len ≤ suc m * len = omega arith in omega (arith, k, h)))

-- adding b and then d modulo 2 ^ 64 is adding b + d modulo 2 ^ 64
pub add_written : (w b d x y : ℕ) → x ≡ (w + b) % 2 ^ 64 → y ≡ (x + d) % 2 ^ 64 → y ≡ (w + (b + d)) % 2 ^ 64
add_written w b d x y e f = omega (arith, e, f)

-- the first n + 1 slices write as many blocks as the first n slices and, in each lane, slice number n together
pub blocks_more : (s : Setting) (n : ℕ) → IsSetting s → blocks_written s (n + 1) ≡ blocks_written s n + s.lanes * blocks_in_slice s (n / 4) (n % 4)
blocks_more s n good = written_after s.lanes s.segment_length n good.long_segments

-- all slices write passes * memory_blocks blocks, less the first two blocks of each lane in pass 0
pub all_written : (s : Setting) → IsSetting s → blocks_written s (4 * s.passes) ≡ s.passes * memory_blocks s - 2 * s.lanes
all_written s good =
    let some : (4 * s.passes == 0) ≡ false = ne_eqb (4 * s.passes) 0 (λ e. absurd (omega (arith, good.some_pass, e))) in
    let most : 2 ≤ 4 * s.passes * s.segment_length = let m = mul-le-mul_right s.segment_length good.some_pass in omega (arith, m, good.long_segments) in
    let split = dist s.lanes (4 * s.passes * s.segment_length - 2) 2 (4 * s.passes * s.segment_length) (omega (arith, most)) in
    rw some (omega (arith, split))

-- ---- the blocks after the last pass

-- a segment that is ready for a pass after the first holds the blocks of the pass before
pub last_in : (pass : ℕ) (s : Setting) (slice lane : ℕ) (blocks : List (List ℕ)) → 0 < pass → IsReady s pass slice lane blocks
    → blocks ≡ segment_at s (pass - 1) slice lane
last_in zero s slice lane blocks h ready = absurd (omega arith)
last_in (suc last) s slice lane blocks h ready = ready ∙ ap (λ p. segment_at s p slice lane) (omega arith)

-- a memory that is filled through all passes holds at each place the block of the last pass
pub holds_last_pass : (s : Setting) → IsSetting s → (m : MemoryValue) → HasShape s m → AreFilledBelow s s.passes 0 (places_in m.slices) → HoldsLastPass s (block_of m)
holds_last_pass s good m shape filled = λ lane column fits inside.
    let some : 0 < s.segment_length = omega (arith, good.long_segments) in
    let few : column / s.segment_length < 4 = slice_fits column s.segment_length inside in
    let e = last_in s.passes s (column / s.segment_length) lane (segment_in m.slices (column / s.segment_length) lane).blocks good.some_pass
    (filled.above (column / s.segment_length) lane (omega arith) few fits) in
    let d : column / s.segment_length * s.segment_length + column % s.segment_length ≡ column = let d = div-add-mod column s.segment_length in
    omega (arith, d) in
    rw (shape.segment_length, e)
    (get_or-map-range_with_len (segment_block s (s.passes - 1) (column / s.segment_length) lane) 0 s.segment_length
    (column % s.segment_length) (column % s.segment_length) [] (mod-lt column some) (omega arith)
    ∙ ap (λ c. block_at s (record { pass = s.passes - 1; lane = lane; column = c })) d)

-- ---- the last blocks of the lanes

-- the xor of p lanes' last blocks, xored with lane p's last block, is the xor of the last blocks of p + 1 lanes
pub combine_more : (lanes : Lanes) (len p : ℕ) (out next block : List ℕ) → out ≡ fold xor zero_block (last_blocks_in p len lanes) →
    block ≡ get_or (lanes p) (len - 1) [] → next ≡ xor out block → next ≡ fold xor zero_block (last_blocks_in (p + 1) len lanes)
combine_more lanes len p out next block held read made =
    let last : ℕ → List ℕ = λ lane. get_or (lanes lane) (len - 1) [] in
    made ∙ ap (λ (x : List ℕ). xor x block) held
    ∙ ap (λ (x : List ℕ). xor (fold xor zero_block (last_blocks_in p len lanes)) x) read
    ∙ sym (ap (λ (l : List (List ℕ)). fold xor zero_block l) (map-range_with_len_more last 0 p p (omega arith))
    ∙ fold-append xor zero_block (last_blocks_in p len lanes) (last p ∷ []))

-- the block at a lane's last column is the last block of the lane's segment in slice 3
pub last_of_lane : (m : MemoryValue) (lane column : ℕ) → 0 < m.segment_length → column + 1 ≡ 4 * m.segment_length →
    block_of m lane column ≡ get_or (places_in m.slices 3 lane) (m.segment_length - 1) []
last_of_lane m lane column some e =
    let len = m.segment_length in
    let is : 3 * len + (len - 1) ≡ column = omega (arith, some, e) in
    let q : column / len ≡ 3 = ap (λ n. n / len) (sym is) ∙ div-mul-add 3 len (len - 1) (omega (arith, some)) in
    let r : column % len ≡ len - 1 = let d = div-add-mod column len in let p : column / len * len ≡ 3 * len = ap (λ n. n * len) q in
    omega (arith, d, p, is) in
    rw (q, r) refl

-- if each lane's last block is its block of the last pass, `last_blocks_in` gives `last_blocks` of the setting
pub last_blocks-are : (s : Setting) (lanes : Lanes) → ((lane : ℕ) → lane < s.lanes →
    get_or (lanes lane) (s.segment_length - 1) [] ≡ block_at s (record { pass = s.passes - 1; lane = lane; column = lane_length s - 1 })) →
    last_blocks_in s.lanes s.segment_length lanes ≡ last_blocks s
last_blocks-are s lanes each =
    fill_by_all (λ lane. block_at s (record { pass = s.passes - 1; lane = lane; column = lane_length s - 1 }))
    (last_blocks_in s.lanes s.segment_length lanes) s.lanes []
    (length-map-range_with_len (λ lane. get_or (lanes lane) (s.segment_length - 1) []) 0 s.lanes)
    (λ k h. get_or-map-range_with_len (λ lane. get_or (lanes lane) (s.segment_length - 1) []) 0 s.lanes k k [] h (omega arith) ∙ each k h)

-- in a memory that holds the last pass, the last blocks of the lanes are the setting's last blocks
pub last_blocks-memory : (s : Setting) → IsSetting s → (m : MemoryValue) → HasShape s m → HoldsLastPass s (block_of m) →
    last_blocks_in m.lanes m.segment_length (places_in m.slices 3) ≡ last_blocks s
last_blocks-memory s good m shape holds =
    rw (shape.lanes, shape.segment_length) (last_blocks-are s (places_in m.slices 3) (λ lane fits.
    ap (λ n. get_or (places_in m.slices 3 lane) (n - 1) []) (sym shape.segment_length)
    ∙ sym (last_of_lane m lane (lane_length s - 1) (omega (arith, shape.segment_length, good.long_segments))
    (omega (arith, shape.segment_length, good.long_segments)))
    ∙ holds lane (lane_length s - 1) fits (omega (arith, good.long_segments))))

-- in a slice 3 that holds the last pass, the last blocks of the lanes are the setting's last blocks
pub last_blocks-held : (s : Setting) → IsSetting s → (lanes : Lanes) → HoldsSlice s (s.passes - 1) 3 lanes →
    last_blocks_in s.lanes s.segment_length lanes ≡ last_blocks s
last_blocks-held s good lanes holds = last_blocks-are s lanes (λ lane fits.
    ap (λ (l : List (List ℕ)). get_or l (s.segment_length - 1) []) (holds lane fits)
    ∙ get_or-map-range_with_len (segment_block s (s.passes - 1) 3 lane) 0 s.segment_length (s.segment_length - 1) (s.segment_length - 1) []
    (omega (arith, good.long_segments)) (omega arith)
    ∙ ap (λ column. block_at s (record { pass = s.passes - 1; lane = lane; column = column })) (omega (arith, good.long_segments)))

-- ---- the fill has the same result in every order of the lanes

-- after all passes each slice holds the blocks of the last pass
pub last_slices : (s : Setting) → IsSetting s → (places : Places) → AreFilledBelow s s.passes 0 places →
    (slice : ℕ) → slice < 4 → HoldsSlice s (s.passes - 1) slice (places slice)
last_slices s good places filled slice below = λ lane fits.
    last_in s.passes s slice lane (places slice lane) good.some_pass (filled.above slice lane (omega arith) below fits)

module _ (s : Setting) (places : ℕ → Places) (run : IsRunOfLanes s places) where
  run_below : (n : ℕ) → n ≤ 4 * s.passes → AreFilledBelow s (n / 4) (n % 4) (places n)
  run_below zero h = begun_below s (places 0) run.long run.begun
  run_below (suc n) h =
      let few : n < 4 * s.passes = omega (arith, h) in
      let j = numbered s n in
      let before = run_below n (omega (arith, h)) in
      let held = others_hold j (places n) before (places n) (λ k lane ne. refl) in
      let e : n + 1 ≡ suc n = omega arith in
      rw e at (next_slice s n (places (suc n)) (filled_further j (places n) before (places (suc n)) (λ k lane ne. run.others n k lane few ne)
      (λ lane fits. run.filled n lane few fits held (before.above (n % 4) lane (omega arith) (omega arith) fits))))

  pub run_agrees : (slice : ℕ) → slice < 4 → HoldsSlice s (s.passes - 1) slice (places (4 * s.passes) slice)
  run_agrees slice below =
      let pass : 4 * s.passes / 4 ≡ s.passes = omega arith in
      let none : 4 * s.passes % 4 ≡ 0 = omega arith in
      last_slices s run.setting (places (4 * s.passes)) (rw (pass, none) at (run_below (4 * s.passes) (omega arith))) slice below

-- ---- each lane's turn, wherever it comes in the order, has the effect that it would have as the first turn

-- ---- turns of any kind

-- the count of `lane` in `l ∷ order` is its count in `order`, plus 1 if l is `lane`
count_first : (l lane n : ℕ) (order : List ℕ) → count_by (λ k. k == lane) (l ∷ order) ≡ n → cond (l == lane) 1 0 + count_by (λ k. k == lane) order ≡ n
count_first l lane n order e = sym (sum_by-cons (λ k. cond (k == lane) 1 0) l order) ∙ e

-- a turn changes only its own lane's part and, apart from that part, reads only what no turn changes
pub record IsApart {M X : Type 0} (Turn : ℕ → M → M → Type 0) (Same : M → M → Type 0) (part : ℕ → M → X) (Does : ℕ → M → X → X → Type 0) : Type 0 where
  pub none : (m : M) → Same m m
  pub further : (one two three : M) → Same one two → Same two three → Same one three
  pub same : (lane : ℕ) (before after : M) → Turn lane before after → Same before after
  pub kept : (lane l : ℕ) (before after : M) → l ≢ lane → Turn lane before after → part l after ≡ part l before
  pub does : (lane : ℕ) (before after : M) → Turn lane before after → Does lane before (part lane before) (part lane after)
  pub seen : (lane : ℕ) (before middle : M) (old new : X) → Same before middle → Does lane middle old new → Does lane before old new

module _ {M X : Type 0} (Turn : ℕ → M → M → Type 0) (Same : M → M → Type 0) (part : ℕ → M → X) (Does : ℕ → M → X → X → Type 0)
    (apart : IsApart Turn Same part Does) where
  unchanged : (order : List ℕ) (before after : M) → AreTurns Turn order before after → Same before after
  unchanged [] before after t = subst (λ m. Same before m) (sym t) (apart.none before)
  unchanged (lane ∷ order) before after (middle, turn, rest) =
      apart.further before middle after (apart.same lane before middle turn) (unchanged order middle after rest)

  -- if a lane has no turn in the order, the turns leave the lane's part unchanged
  idle : (lane : ℕ) (order : List ℕ) (before after : M) → count_by (λ l. l == lane) order ≡ 0 → AreTurns Turn order before after →
      part lane after ≡ part lane before
  idle lane [] before after none t = ap (part lane) t
  idle lane (l ∷ order) before after none (middle, turn, rest) = elim (eqb_tells l lane) [
    | inl w ↦ absurd (let e = rw w.0 at (count_first l lane 0 order none) in omega (arith, e))
    | inr w ↦ idle lane order middle after (let e = rw w.0 at (count_first l lane 0 order none) in omega (arith, e)) rest ∙ apart.kept l lane before middle (λ e. w.1 (sym e)) turn
  ]

  -- if a lane has one turn in the order, the turns together change the lane's part as `Does` says of that turn
  done : (lane : ℕ) (order : List ℕ) (before after : M) → count_by (λ l. l == lane) order ≡ 1 → AreTurns Turn order before after →
      Does lane before (part lane before) (part lane after)
  done lane [] before after once t = absurd (omega (arith, once))
  done lane (l ∷ order) before after once (middle, turn, rest) = elim (eqb_tells l lane) [
    | inl w ↦
        let e = rw w.0 at (count_first l lane 1 order once) in
        let left : count_by (λ l. l == lane) order ≡ 0 = omega (arith, e) in
        subst (λ new. Does lane before (part lane before) new) (sym (idle lane order middle after left rest))
        (subst (λ k. Does k before (part k before) (part k middle)) w.1 (apart.does l before middle turn))
    | inr w ↦
        let e = rw w.0 at (count_first l lane 1 order once) in
        let left : count_by (λ l. l == lane) order ≡ 1 = omega (arith, e) in
        let old = apart.kept l lane before middle (λ e. w.1 (sym e)) turn in
        apart.seen lane before middle (part lane before) (part lane after) (apart.same l before middle turn)
        (subst (λ x. Does lane middle x (part lane after)) old (done lane order middle after left rest))
  ]

  pub all_unchanged : (lanes : ℕ) (before after : M) → EachHasATurn Turn lanes before after → Same before after
  all_unchanged lanes before after (order, once, turns) = unchanged order before after turns

  pub each_done : (lanes : ℕ) (before after : M) → EachHasATurn Turn lanes before after → (lane : ℕ) → lane < lanes →
      Does lane before (part lane before) (part lane after)
  each_done lanes before after (order, once, turns) lane fits = done lane order before after (once lane fits) turns

-- ---- fills

module _ (s : Setting) (n : ℕ) where
  abbrev SameBeside : Places → Places → Type 0
  SameBeside before after = (slice l : ℕ) → slice ≢ n % 4 → after slice l ≡ before slice l

  abbrev FillsLane : ℕ → Places → List (List ℕ) → List (List ℕ) → Type 0
  FillsLane lane places old new = Fills (numbered s n) lane places old new

  abbrev lane_of : ℕ → Places → List (List ℕ)
  lane_of lane places = places (n % 4) lane

  -- if the slices other than slice number n are unchanged, `HoldOthers` still holds of them
  still_held : (before middle : Places) → SameBeside before middle → HoldOthers (numbered s n) before → HoldOthers (numbered s n) middle
  still_held before middle same held = record {
    lower = λ slice lane below fits. same slice lane (λ e. absurd (omega (arith, e, below))) ∙ held.lower slice lane below fits;
    upper = λ slice lane last above few fits is. same slice lane (λ e. absurd (omega (arith, e, above))) ∙ held.upper slice lane last above few fits is;
  }

  fills_apart : IsApart (IsTurn s n) SameBeside lane_of FillsLane
  fills_apart = record {
    none = λ m slice l ne. refl;
    further = λ one two three first second slice l ne. second slice l ne ∙ first slice l ne;
    same = λ lane before after turn slice l ne. turn.kept slice l (inl ne);
    kept = λ lane l before after ne turn. turn.kept (n % 4) l (inr ne);
    does = λ lane before after turn. turn.filled;
    seen = λ lane before middle old new same fills held ready. fills (still_held before middle same held) ready;
  }

pub every_order_of_turns : EveryOrderOfTurnsAgrees
every_order_of_turns s places run = run_agrees s places (record {
  setting = run.setting;
  long = run.long;
  begun = run.begun;
  others = λ n slice lane few ne.
      all_unchanged (IsTurn s n) (SameBeside s n) (lane_of s n) (FillsLane s n) (fills_apart s n) s.lanes (places n) (places (suc n))
      (run.turns n few) slice lane ne;
  filled = λ n lane few fits.
      each_done (IsTurn s n) (SameBeside s n) (lane_of s n) (FillsLane s n) (fills_apart s n) s.lanes (places n) (places (suc n))
      (run.turns n few) lane fits;
})
