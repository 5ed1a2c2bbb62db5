use Rattle.argon2_fill.proofs.CallerBlocks.{slice_begun}
use Rattle.argon2_fill.proofs.caller_blocks.begin_segment.Goals as goal

pub returns : goal.returns
returns c =
    let q = c.requires in
    slice_begun c.args.job.now.setting c.facts_of_job.ensures.setting c.args.lane q.lane_fits c.args.own.now q.own_fits
    c.write_first_block.new.block c.write_first_block-2.new.block c.write_first_block.ensures c.write_first_block-2.ensures
