-- The fills of lanes, in any order within a slice or at the same time, wherever their blocks stand.
use Rattle.std.specs.Prelude.{◌≡◌, ◌≢◌, ℕ, suc, ◌-◌, ◌*◌, ◌/◌, ◌%◌, ◌<◌, length}
use Rattle.argon2_standard.specs.Standard.Setting.{Setting}
use Rattle.argon2_memory.specs.Views.Jobs.{IsSetting, Job}
use Rattle.argon2_memory.specs.Views.Places.{Fills, HoldsSlice, IsReadySlice, Places}

-- the job of slice number n, counted over all passes
abbrev pub numbered : Setting → ℕ → Job
numbered s n = record { setting = s; pass = n / 4; slice = n % 4 }

-- for each n, the blocks before slice number n. At first each lane's first two blocks are there. Then,
-- slice after slice, each lane's segment is what its fill leaves, while nobody writes the three other
-- slices. A lane's fill reads no other lane of its slice, so the order of the lanes, and whether one
-- waits for another, is left open.
pub record IsRunOfLanes (s : Setting) (places : ℕ → Places) : Type 0 where
  pub setting : IsSetting s
  pub long : (slice lane : ℕ) → slice < 4 → lane < s.lanes → length (places 0 slice lane) ≡ s.segment_length
  pub begun : IsReadySlice s 0 0 (places 0 0)
  pub others : (n slice lane : ℕ) → n < 4 * s.passes → slice ≢ n % 4 → places (suc n) slice lane ≡ places n slice lane
  pub filled : (n lane : ℕ) → n < 4 * s.passes → lane < s.lanes →
      Fills (numbered s n) lane (places n) (places n (n % 4) lane) (places (suc n) (n % 4) lane)

-- in the end each slice holds its blocks of the last pass
abbrev pub EveryRunOfLanesAgrees : Type 0
EveryRunOfLanesAgrees = (s : Setting) (places : ℕ → Places) → IsRunOfLanes s places → (slice : ℕ) → slice < 4 →
    HoldsSlice s (s.passes - 1) slice (places (4 * s.passes) slice)
