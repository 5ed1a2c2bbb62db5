use Rattle.std.proofs.Common.{◌≡◌}
use Rattle.std.specs.List.{fold}
use Rattle.argon2_blocks.specs.Standard.Block.{xor, zero_block}
use Rattle.argon2_memory.specs.Views.Places.{last_blocks_in, blocks_of_lane}
use Rattle.argon2_fill.proofs.caller_blocks.combine_last_of_slice.Given as goal

abbrev pub invariant-loop-lane : goal.invariant-loop-lane
invariant-loop-lane l = l.out ≡ fold xor zero_block (last_blocks_in l.lane l.job.setting.segment_length (blocks_of_lane l.job.setting l.slice))
