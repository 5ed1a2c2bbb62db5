-- An item decodes to one byte string only, so the salt and the hash that were read are the head's.
use Rattle.std.proofs.Common.{length, refl, sym, ◌∙◌}
use Rattle.argon2_text.specs.Views.Texts.{spelled_with}
use Rattle.argon2_standard.specs.Standard.Decoded.{decoded_config}
use Rattle.argon2.proofs.StoredHashes.{is_stored, own_length, stored_accepted}
use Rattle.argon2_text.proofs.Items.{item_unique}
use Rattle.argon2_c.proofs.JobNumbers.{made_job, with_items}
use Rattle.argon2_c.proofs.jobs.make_of_head.Goals as goal

pub returns-in-Some : goal.returns-in-Some
returns-in-Some c s h salt hash =
    let d = spelled_with c.args.head.now s h in
    let config = decoded_config d c.args.secret c.args.ad in
    let stored = is_stored d c.args.secret c.args.ad c.args.secret.now c.args.ad.now refl refl in
    let found = sym (c.refusal.ensures config s h salt hash stored) ∙ c.in-Some.is in
    rw found (refl, refl)

pub returns-in-Err : goal.returns-in-Err
returns-in-Err c s h salt hash =
    let d = spelled_with c.args.head.now s h in
    let config = decoded_config d c.args.secret c.args.ad in
    let stored = is_stored d c.args.secret c.args.ad c.args.secret.now c.args.ad.now refl refl in
    let none = sym (c.refusal.ensures config s h salt hash stored) ∙ c.in_default.is in
    let answer = c.in-Err.ensures.answer s h salt hash in
    rw none (record {
      wrong_length = λ no. let w = answer.wrong_length no in (w.0, with_items c.args.job.now _ _ w.1);
      written = λ fit. let e = (answer.written fit).0 in absurd (cc);
    })

pub accepted_context-requires : goal.accepted_context-requires
accepted_context-requires c =
    let items = c.in-Ok.ensures.items in
    let d = spelled_with c.args.head.now c.read_items.new.salt c.read_items.new.hash in
    stored_accepted d (length c.args.pwd.now) c.args.secret.now c.args.ad.now c.config_of_numbers-config.result
    (λ config stored. sym (c.refusal.ensures config _ _ items.0 items.1 stored) ∙ c.in_default.is)
    (c.config_of_numbers-config.ensures d (c.numbers.ensures _ _ items.0 items.1))

pub returns : goal.returns
returns c s h salt hash =
    let d = spelled_with c.args.head.now s h in
    let config = decoded_config d c.args.secret c.args.ad in
    let stored = is_stored d c.args.secret c.args.ad c.args.secret.now c.args.ad.now refl refl in
    let none = sym (c.refusal.ensures config s h salt hash stored) ∙ c.in_default.is in
    let items = c.in-Ok.ensures.items in
    let answer = c.in-Ok.ensures.answer s h salt hash in
    let same_salt = item_unique c.args.head.now.salt.now c.read_items.new.salt s items.0 salt in
    let same_hash = item_unique c.args.head.now.hash.now c.read_items.new.hash h items.1 hash in
    let used = c.config_of_numbers-config.result in
    let is_used = c.config_of_numbers-config.ensures d (c.numbers.ensures s h salt hash) in
    let own = own_length d (length c.args.pwd.now) c.args.secret.now c.args.ad.now used
    (λ config stored. sym (c.refusal.ensures config s h salt hash stored) ∙ c.in_default.is) is_used in
    let is = c.accepted_context.ensures in
    let made = made_job d c.args.pwd.now c.args.secret.now c.args.ad.now config used c.of.result is_used stored own
    (rw (is.config, is.pwd, is.salt, same_salt) at c.of.ensures) in
    rw none (record {
      wrong_length = λ no. let e = (answer.wrong_length no).0 in absurd (cc);
      written = λ fit. (refl, rw (made, same_salt, same_hash) refl);
    })
