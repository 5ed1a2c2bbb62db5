use Rattle.argon2_memory.proofs.Filled.{reference_lane, reference_column}
use Rattle.argon2_memory.proofs.segment.filling.expect_reference.Goals as goal

pub slice_of_column-slice-requires : goal.slice_of_column-slice-requires
slice_of_column-slice-requires g c =
    let q = c.requires in
    rw c.job-job.ensures.value (reference_column c.args.beside.now c.job-job.ensures.beside.job c.args.lane c.args.index
    q.lane_fits q.index_fits q.later c.args.reference q.picked)

pub block-other-requires-clause-lane_fits : goal.block-other-requires-clause-lane_fits
block-other-requires-clause-lane_fits g c =
    let q = c.requires in
    reference_lane c.args.beside.now c.job-job.ensures.beside.job c.args.lane c.args.index q.lane_fits q.index_fits
    q.later c.args.reference q.picked
