use Rattle.std.proofs.Common.{◌≡◌, ◌%◌, ◌^◌, take}
use Rattle.argon2_memory.specs.Views.Memories.{slice_writes}
use Rattle.argon2_memory.proofs.memory.slice_tally.Given as goal

abbrev pub invariant-loop-segment : goal.invariant-loop-segment
invariant-loop-segment l = l.sum ≡ slice_writes (take l.segment-index l.segments) % 2 ^ 64
