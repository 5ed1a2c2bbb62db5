use Rattle.std.proofs.Common.{◌≡◌, ◌++◌, drop, map, take}
use Rattle.argon2_memory.specs.Views.Segments.{wiped_segment}
use Rattle.argon2_memory.proofs.memory.wipe_slice.Given as goal

-- the segments before `segment-index` are wiped, the others not yet
abbrev pub invariant-loop-segment : goal.invariant-loop-segment
invariant-loop-segment l = l.segments ≡ map wiped_segment (take l.segment-index l.initial.segments) ++ drop l.segment-index l.initial.segments
