use Rattle.std.proofs.Common.{◌≡◌, get_or, refl}
use Rattle.argon2_standard.specs.Standard.Recurrence.{made_block}
use Rattle.argon2_memory.proofs.Filled.{write_in_place}
use Rattle.argon2_memory.proofs.segment.own_blocks.write_among.Goals as goal

pub returns-clause-written : goal.returns-clause-written
returns-clause-written g c =
    let q = c.requires in
    let cut = c.first_and_others-before.ensures in
    let made : c.fill.new.next ≡ made_block c.named_among.result.now c.named_among-2.result.now
    (get_or c.first_and_others-before.result.1.now 0 c.index-others-0.result) c.args.with_xor = c.fill.ensures in
    write_in_place c.args.blocks.now c.args.blocks.now c.first_and_others-before.result.0.now c.first_and_others-before.result.1.now c.args.index
    c.args.prev c.args.reference c.args.with_xor
    c.named_among.result.now c.named_among-2.result.now c.index-others-0.result c.fill.new.next
    refl q.index_fits cut.first cut.others q.prev_before q.reference_before c.named_among.ensures c.named_among-2.ensures made
