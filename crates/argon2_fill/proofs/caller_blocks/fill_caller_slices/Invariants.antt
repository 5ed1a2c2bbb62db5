use Rattle.std.proofs.Common.{◌/◌, ◌%◌, [], ◌∷◌}
use Rattle.argon2_memory.specs.Views.Places.{AreFilledBelow, IsReadySlice, blocks_of_lane, places_of_slices}
use Rattle.argon2_fill.proofs.caller_blocks.fill_caller_slices.Given as goal

abbrev pub invariant-loop-n : goal.invariant-loop-n
invariant-loop-n g l = IsReadySlice l.job.setting 0 0 (blocks_of_lane l.job.setting l.initial.first) →
    AreFilledBelow l.job.setting (l.n / 4) (l.n % 4) (places_of_slices l.job.setting (l.first ∷ l.second ∷ l.third ∷ l.fourth ∷ []))
