-- Every order of the single writes leads to the blocks of the recurrence.
use Rattle.std.specs.Prelude.{◌≡◌, ◌≢◌, ℕ, ◌*◌, ◌/◌, ◌%◌, ◌<◌, List, ◌∷◌, ◌++◌}
use Rattle.std.specs.List.{AllByRecursion}
use Rattle.argon2_standard.specs.Standard.Setting.{Setting, Position}
use Rattle.argon2_memory.specs.Views.Jobs.{IsSetting}
use Rattle.argon2_memory.specs.Theorems.Schedule.{Matrix, IsBegun, IsSchedule, IsWrittenIn, Progress, after_slices, next_position, pick_from, progress, reads_from}
use Rattle.argon2_memory.specs.Standard.Kept.{HoldsLastPass}
use Rattle.argon2_standard.specs.Standard.Recurrence.{block_at}

-- a run of a setting: a schedule for each slice, over a matrix that holds the first two blocks of
-- each lane and anything elsewhere
pub record IsRun (s : Setting) (order : ℕ → List ℕ) (matrix : Matrix) : Type 0 where
  pub setting : IsSetting s
  pub schedules : (n : ℕ) → n < 4 * s.passes → IsSchedule s (n / 4) (n % 4) (order n)
  pub begun : IsBegun s matrix

-- an entry of the run's slice number n: a lane, after some entries and before the others
pub record IsEntry (s : Setting) (order : ℕ → List ℕ) (n : ℕ) (before : List ℕ) (lane : ℕ) (after : List ℕ) : Type 0 where
  pub slice_fits : n < 4 * s.passes
  pub stands : order n ≡ before ++ lane ∷ after

-- the progress of a run's slice number n before an entry, and the place that the entry writes
abbrev pub progress_before : Setting → (ℕ → List ℕ) → Matrix → ℕ → List ℕ → Progress
progress_before s order matrix n before = progress s (n / 4) (n % 4) (after_slices s order n matrix) before

abbrev pub entry_position : Setting → ℕ → Progress → ℕ → Position
entry_position s n p lane = next_position s (n / 4) (n % 4) p lane

-- in the end each place holds its block of the last pass
abbrev pub EveryOrderAgrees : Type 0
EveryOrderAgrees = (s : Setting) (order : ℕ → List ℕ) (matrix : Matrix) → IsRun s order matrix →
    HoldsLastPass s (after_slices s order (4 * s.passes) matrix)

-- no entry reads a place that another lane writes in the entry's slice
abbrev pub NoEntryReadsOthers : Type 0
NoEntryReadsOthers = (s : Setting) (order : ℕ → List ℕ) (matrix : Matrix) → IsRun s order matrix →
    (n : ℕ) (before : List ℕ) (lane : ℕ) (after : List ℕ) → IsEntry s order n before lane after →
    let p = progress_before s order matrix n before in
    AllByRecursion (λ (l, c). l ≢ lane → IsWrittenIn s (n / 4) (n % 4) c → ⊥) (reads_from s p.matrix (entry_position s n p lane))

-- the block that an entry reads as its reference is the recurrence's block at the place of that reference
abbrev pub PicksHoldTheirBlocks : Type 0
PicksHoldTheirBlocks = (s : Setting) (order : ℕ → List ℕ) (matrix : Matrix) → IsRun s order matrix →
    (n : ℕ) (before : List ℕ) (lane : ℕ) (after : List ℕ) → IsEntry s order n before lane after →
    let p = progress_before s order matrix n before in
    let chosen = pick_from s p.matrix (entry_position s n p lane) in
    p.matrix chosen.lane chosen.column ≡ block_at s chosen
