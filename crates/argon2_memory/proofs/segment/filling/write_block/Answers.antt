use Rattle.argon2_memory.proofs.Filled.{reference_lane, reference_column, reference_before, write_filled}
use Rattle.argon2_memory.proofs.segment.filling.write_block.Goals as goal

pub source-reference-requires-clause-lane_fits : goal.source-reference-requires-clause-lane_fits
source-reference-requires-clause-lane_fits g c =
    let q = c.requires in reference_lane c.args.beside.now c.source_before-prev.ensures.beside.job c.args.lane c.args.index q.lane_fits q.index_fits
    q.later c.args.reference q.picked

pub source-reference-requires-clause-column_fits : goal.source-reference-requires-clause-column_fits
source-reference-requires-clause-column_fits g c =
    let q = c.requires in reference_column c.args.beside.now c.source_before-prev.ensures.beside.job c.args.lane c.args.index q.lane_fits q.index_fits
    q.later c.args.reference q.picked

pub source-reference-requires-clause-own_before : goal.source-reference-requires-clause-own_before
source-reference-requires-clause-own_before g c =
    let q = c.requires in reference_before c.args.beside.now c.source_before-prev.ensures.beside.job c.args.lane c.args.index q.lane_fits q.index_fits
    q.later c.args.reference q.picked

pub returns-clause-filled : goal.returns-clause-filled
returns-clause-filled g c chosen snapshot filled =
    let q = c.requires in
    let old = (g.O.OwnBlocks.seen c.args.own.now).blocks in
    rw c.write.ensures.written (write_filled c.args.beside.now c.source_before-prev.ensures.beside.job c.args.lane c.args.index q.lane_fits q.index_fits
    q.later snapshot old filled _ _ _ c.args.reference chosen (c.source_before-prev.ensures.value old) (c.source-reference.ensures.value old)
    (rw c.job.ensures.value at c.combines-with_xor.ensures))
