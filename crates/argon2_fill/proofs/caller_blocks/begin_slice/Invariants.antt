use Rattle.std.proofs.Common.{ℕ, ◌<◌}
use Rattle.argon2_memory.specs.Views.Places.{blocks_of_lane}
use Rattle.argon2_memory.specs.Views.Segments.{IsReady}
use Rattle.argon2_fill.proofs.caller_blocks.begin_slice.Given as goal

abbrev pub invariant-loop-lane : goal.invariant-loop-lane
invariant-loop-lane l = (k : ℕ) → k < l.lane → IsReady l.job.setting 0 0 k (blocks_of_lane l.job.setting l.slice k)
