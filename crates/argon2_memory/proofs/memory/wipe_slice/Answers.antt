use Rattle.std.proofs.Common.{arith}
use Rattle.std.proofs.lemmas.List.Edits.{map_over_more}
use Rattle.argon2_memory.specs.Views.Segments.{wiped_segment}
use Rattle.argon2_memory.proofs.memory.wipe_slice.Goals as goal

pub loop-segment-preserved : goal.loop-segment-preserved
loop-segment-preserved c =
    rw (c.wipe.ensures, ← c.segment-item.is) (map_over_more wiped_segment c.args.segments.now c.loop-segment.segments c.loop-segment.segment-index c.segment-item.result
    (omega arith) c.loop-segment.invariant c.segment-item.is)
