use Rattle.argon2_c.proofs.JobNumbers.{by_head, no_head}
use Rattle.argon2_c.proofs.reading.read_bytes.Goals as goal

pub read_items-requires-clause-salt_item : goal.read_items-requires-clause-salt_item
read_items-requires-clause-salt_item c = let s = c.in-Ok.ensures.1 in (s.0, s.2.salt_item)

pub read_items-requires-clause-hash_item : goal.read_items-requires-clause-hash_item
read_items-requires-clause-hash_item c = let s = c.in-Ok.ensures.1 in (s.1, s.2.hash_item)

pub returns-in-Err : goal.returns-in-Err
returns-in-Err c = no_head c.args.text.now c.in-Err.error _ _ c.in-Err.ensures

pub returns : goal.returns
returns c = by_head c.args.text.now c.in-Ok.head _ _ _ _ c.in-Ok.ensures c.read_items.ensures.answer
