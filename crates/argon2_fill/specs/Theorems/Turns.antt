-- Turns, one after another in any order: each sees what those before it left.
use Rattle.std.specs.Prelude.{◌≡◌, ◌≢◌, ◌⊎◌, ℕ, suc, ◌-◌, ◌*◌, ◌%◌, ◌<◌, ◌==◌, List, [], ◌∷◌, length}
use Rattle.std.specs.List.{count_by}
use Rattle.argon2_standard.specs.Standard.Setting.{Setting}
use Rattle.argon2_memory.specs.Views.Jobs.{IsSetting}
use Rattle.argon2_memory.specs.Views.Places.{Fills, HoldsSlice, IsReadySlice, Places}
use Rattle.argon2_fill.specs.Theorems.Lanes.{numbered}

-- each lane stands in the order once
abbrev pub IsOrder : ℕ → List ℕ → Type 0
IsOrder lanes order = (lane : ℕ) → lane < lanes → count_by (λ l. l == lane) order ≡ 1

-- the turns of these lanes
abbrev pub AreTurns : {M : Type 0} → (ℕ → M → M → Type 0) → List ℕ → M → M → Type 0
AreTurns Turn [] before after = after ≡ before
AreTurns {M} Turn (lane ∷ order) before after = (middle : M) × Turn lane before middle × AreTurns Turn order middle after

-- one turn of each lane, in some order
abbrev pub EachHasATurn : {M : Type 0} → (ℕ → M → M → Type 0) → ℕ → M → M → Type 0
EachHasATurn Turn lanes before after = (order : List ℕ) × IsOrder lanes order × AreTurns Turn order before after

-- a lane's turn in slice number n, counted over all passes: it fills the lane's segment and writes nothing else
pub record IsTurn (s : Setting) (n lane : ℕ) (before after : Places) : Type 0 where
  pub filled : Fills (numbered s n) lane before (before (n % 4) lane) (after (n % 4) lane)
  pub kept : (slice l : ℕ) → (slice ≢ n % 4) ⊎ (l ≢ lane) → after slice l ≡ before slice l

-- for each n, the blocks before slice number n is filled: first each lane's first two blocks, then one turn of each
-- lane in each slice
pub record IsRunOfTurns (s : Setting) (places : ℕ → Places) : Type 0 where
  pub setting : IsSetting s
  pub long : (slice lane : ℕ) → slice < 4 → lane < s.lanes → length (places 0 slice lane) ≡ s.segment_length
  pub begun : IsReadySlice s 0 0 (places 0 0)
  pub turns : (n : ℕ) → n < 4 * s.passes → EachHasATurn (IsTurn s n) s.lanes (places n) (places (suc n))

-- in the end each slice holds its blocks of the last pass
abbrev pub EveryOrderOfTurnsAgrees : Type 0
EveryOrderOfTurnsAgrees = (s : Setting) (places : ℕ → Places) → IsRunOfTurns s places → (slice : ℕ) → slice < 4 →
    HoldsSlice s (s.passes - 1) slice (places (4 * s.passes) slice)
