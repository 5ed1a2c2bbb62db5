use Rattle.std.proofs.Common.{◌≡◌}
use Rattle.std.specs.List.{fold}
use Rattle.argon2_blocks.specs.Standard.Block.{xor, zero_block}
use Rattle.argon2_memory.specs.Views.Places.{last_blocks_in, places_in}
use Rattle.argon2_fill.proofs.fill.combine_last_blocks.Given as goal

abbrev pub invariant-loop-lane : goal.invariant-loop-lane
invariant-loop-lane l = l.out ≡ fold xor zero_block (last_blocks_in l.lane l.memory.segment_length (places_in l.memory.slices 3))
