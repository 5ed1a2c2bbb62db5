-- An item decodes to one byte string only, so the salt and the hash that were read are the head's.
use Rattle.std.proofs.Common.{refl, ◌∙◌}
use Rattle.argon2_text.proofs.Items.{item_unique}
use Rattle.argon2_c.proofs.reading.read_items.Goals as goal

pub returns-clause-answer : goal.returns-clause-answer
returns-clause-answer c s h salt hash =
    let same_salt = item_unique c.args.head.now.salt.now c.read_item.new.item s c.read_item.ensures salt in
    let same_hash = item_unique c.args.head.now.hash.now c.read_item-2.new.item h c.read_item-2.ensures hash in
    record {
      wrong_length = λ no. absurd (no (
        c.if-salt-item_len.false ∙ c.item_len.ensures.exact s salt,
        c.if-hash-item_len.false ∙ c.item_len-else-salt-item_len.ensures.exact h hash,
      ));
      written = λ fit. (refl, rw (same_salt, same_hash) refl);
    }
