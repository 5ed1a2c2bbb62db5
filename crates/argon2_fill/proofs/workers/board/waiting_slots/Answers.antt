use Rattle.std.proofs.Common.{rules, tests}
use Rattle.std.proofs.lemmas.Iterator.{YieldsList-from_map}
use Rattle.std.proofs.lemmas.Iterator.Adapters.{YieldsList-from_vec, items_from_extend}
use Rattle.std.proofs.lemmas.Iterator.Consumers.{YieldsList-at}
use Rattle.argon2_fill.specs.declared.workers.board.Slot.TheVariants as slot
use Rattle.argon2_fill.proofs.workers.board.waiting_slots.Goals as goal

pub returns : goal.returns
returns c =
    let added = items_from_extend c.extend.result c.extend.ensures.ran
    (YieldsList-from_map _ (λ segment. slot.Waiting segment)
    (YieldsList-at c.map.ensures.source (YieldsList-from_vec {s = c.into_iter.result} c.args.segments.items (search rules) (search rules)))
    c.map.ensures.closure (λ x r q k. search (rules, tests))) in
    search (rules, added)
