use Rattle.std.proofs.Common.{◌≡◌, replicate}
use Rattle.argon2_memory.specs.Views.Segments.{zero_segment}
use Rattle.argon2_memory.proofs.memory.zero_slice.Given as goal

abbrev pub invariant-loop-lane : goal.invariant-loop-lane
invariant-loop-lane l = l.segments.items ≡ replicate l._lane (zero_segment l.length)
