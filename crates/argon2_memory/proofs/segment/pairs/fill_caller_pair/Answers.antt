use Rattle.std.proofs.Common.{rules}
use Rattle.argon2_memory.proofs.Slices.{caller_beside, caller_snapshot}
use Rattle.argon2_memory.proofs.segment.pairs.fill_caller_pair.Goals as goal

pub beside_blocks-beside-requires : goal.beside_blocks-beside-requires
beside_blocks-beside-requires g c =
    let q = c.requires in caller_beside c.args.job.now c.facts_of_job.ensures c.args.first.now c.args.second.now c.args.third.now q.first_fits q.second_fits
    q.third_fits

pub returns-clause-filled : goal.returns-clause-filled
returns-clause-filled g c given ready =
    let q = c.requires in
    let snapshot = caller_snapshot c.args.job.now c.facts_of_job.ensures c.args.first.now c.args.second.now c.args.third.now q.first_fits q.second_fits
    q.third_fits given in
    let fills = rw (c.beside_blocks-beside.ensures, c.new-segment.ensures.blocks) at c.fill_own_pair.ensures.filled in
    let filled = fills snapshot ready in
    search rules

pub returns-clause-other_filled : goal.returns-clause-other_filled
returns-clause-other_filled g c given ready =
    let q = c.requires in
    let snapshot = caller_snapshot c.args.job.now c.facts_of_job.ensures c.args.first.now c.args.second.now c.args.third.now q.first_fits q.second_fits
    q.third_fits given in
    let fills = rw (c.beside_blocks-beside.ensures, c.new-next.ensures.blocks) at c.fill_own_pair.ensures.other_filled in
    let filled = fills snapshot ready in
    search rules
