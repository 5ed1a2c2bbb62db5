use Rattle.argon2_text.proofs.Items.{text_in_steps}
use Rattle.argon2_text.proofs.encoding.writing.write_encoded_by_sums.Goals as goal

pub returns : goal.returns
returns c =
    text_in_steps c.args.config.now c.args.salt.now c.args.hash.now _ _ _ _ c.put_front-at.ensures.front c.put_salt_by_sums-at.ensures.front
    c.put-at.ensures.front c.put_hash.ensures
