use Rattle.std.proofs.Common.{rules}
use Rattle.argon2_memory.proofs.Slices.{caller_beside, caller_snapshot}
use Rattle.argon2_memory.proofs.segment.filling.fill_caller_segment.Goals as goal

pub beside_blocks-beside-requires : goal.beside_blocks-beside-requires
beside_blocks-beside-requires g c =
    let q = c.requires in caller_beside c.args.job.now c.facts_of_job.ensures c.args.first.now c.args.second.now c.args.third.now q.first_fits q.second_fits
    q.third_fits

pub returns : goal.returns
returns g c given ready =
    let q = c.requires in
    let snapshot = caller_snapshot c.args.job.now c.facts_of_job.ensures c.args.first.now c.args.second.now c.args.third.now q.first_fits q.second_fits
    q.third_fits given in
    let fills = rw (c.beside_blocks-beside.ensures, c.new-segment.ensures.blocks) at c.fill_own.ensures.filled in
    let filled = fills snapshot ready in
    search rules
