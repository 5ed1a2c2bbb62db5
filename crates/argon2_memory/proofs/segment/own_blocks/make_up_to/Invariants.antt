use Rattle.std.proofs.Common.{◌≡◌, ◌+◌}
use Rattle.std.specs.Prelude.{vec_len, vec_capacity}
use Rattle.argon2_memory.specs.Views.Segments.{IsMadeInPart, with_zeros}
use Rattle.argon2_memory.proofs.segment.own_blocks.make_up_to.Given as goal

abbrev pub invariant-loop-zeros : goal.invariant-loop-zeros
invariant-loop-zeros l =
    (with_zeros l.blocks.items l.zeros ≡ with_zeros l.initial.blocks.items l.initial.zeros)
    × IsMadeInPart l.blocks.items (vec_len l.blocks) (vec_capacity l.blocks) l.zeros
    × (vec_len l.blocks + l.zeros ≡ vec_len l.initial.blocks + l.initial.zeros)

abbrev pub decreases-loop-zeros : goal.decreases-loop-zeros
decreases-loop-zeros l = l.zeros
