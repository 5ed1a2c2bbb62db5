use Rattle.std.proofs.Common.{◌≡◌, ◌++◌, drop, map, take}
use Rattle.argon2_blocks.specs.Standard.Block.{zero_block}
use Rattle.argon2_memory.proofs.segment.own_blocks.wipe_blocks.Given as goal

-- the blocks before `block-index` are zeros, the others not overwritten yet
abbrev pub invariant-loop-block : goal.invariant-loop-block
invariant-loop-block l = l.blocks ≡ map (λ b. zero_block) (take l.block-index l.initial.blocks) ++ drop l.block-index l.initial.blocks
