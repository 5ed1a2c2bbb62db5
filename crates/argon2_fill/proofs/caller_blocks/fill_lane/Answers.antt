use Rattle.std.proofs.Common.{arith}
use Rattle.argon2_fill.proofs.CallerBlocks.{others-stay}
use Rattle.argon2_fill.proofs.caller_blocks.fill_lane.Goals as goal

pub returns-clause-others : goal.returns-clause-others
returns-clause-others g c =
    let q = c.requires in
    let cut = c.first_and_others-before in
    let part = c.first_and_others-own in
    let len = c.segment_length-length.ensures.value in
    others-stay c.args.job.now.setting c.args.slice.now c.args.lane q.slice_fits q.lane_fits c.fill_caller_segment.new.own
    (omega (arith, part.ensures.first_count, len)) cut.result.0.now cut.result.1.now part.result.1.now c.place_of_lane.result
    c.segment_length-length.result cut.ensures.first cut.ensures.others part.ensures.others c.place_of_lane.ensures.value len
