use Rattle.std.proofs.Common.{◌≡◌, ◌%◌, ◌^◌, take}
use Rattle.std.specs.List.{sum_by}
use Rattle.argon2_memory.specs.Views.Memories.{slice_writes, segments_of}
use Rattle.argon2_memory.proofs.memory.tally.Given as goal

abbrev pub invariant-loop-segments : goal.invariant-loop-segments
invariant-loop-segments l = l.sum ≡ sum_by slice_writes (segments_of (take l.segments-index l.slices)) % 2 ^ 64
