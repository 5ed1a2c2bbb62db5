use Rattle.std.proofs.Common.{◌<◌, length, arith}
use Rattle.argon2_memory.specs.Views.Memories.{segments_of}
use Rattle.argon2_memory.proofs.Slices.{is_snapshot, others-taken}
use Rattle.argon2_fill.proofs.workers.board_of.Goals as goal

pub returns-clause-snapshot : goal.returns-clause-snapshot
returns-clause-snapshot c =
    let j = c.args.job.now in
    let old = segments_of c.args.slices.now in
    let fits : j.slice < length old = omega (arith, c.requires.slices.count, c.facts_of_job.ensures.slice_fits) in
    is_snapshot j c.facts_of_job.ensures old c.requires.slices c.requires.ready _
    (others-taken c.args.slices.now c.take_slice.new.slices j.slice (rw c.slice.ensures.value at c.take_slice.ensures.left) fits)
