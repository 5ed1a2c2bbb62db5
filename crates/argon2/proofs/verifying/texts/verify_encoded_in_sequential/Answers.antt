-- What was decoded is the value that the string decodes to.
use Rattle.std.proofs.Common.{◌≡◌, length, ap, false, inr, refl, sym, ◌∙◌}
use Rattle.argon2_standard.specs.Standard.Decoded.{decoded_config}
use Rattle.argon2_standard.specs.declared.config.Config.{Config}
use Rattle.argon2_text.specs.Views.Texts.{spelled_by}
use Rattle.argon2.proofs.StoredHashes.{stored_leaves, accepted_value, is_stored, own_length, stored_accepted, stored_verdict}
use Rattle.argon2.proofs.verifying.texts.verify_encoded_in_sequential.Goals as goal

pub stored_context-context-requires : goal.stored_context-context-requires
stored_context-context-requires c =
    stored_accepted (spelled_by c.in_ok-stored.stored) (length c.args.pwd.now) c.args.secret.now c.args.ad.now c.config_of-config.result
    c.in_ok-stored.ensures.accepted c.config_of-config.ensures

pub is_tag_sequential-requires : goal.is_tag_sequential-requires
is_tag_sequential-requires c =
    rw c.deref.ensures.value (record {
      length =
          sym (ap (λ (x : Config). x.hash_length) c.stored_context-context.ensures.config
          ∙ own_length (spelled_by c.in_ok-stored.stored) (length c.args.pwd.now) c.args.secret.now c.args.ad.now c.config_of-config.result
          c.in_ok-stored.ensures.accepted c.config_of-config.ensures);
    })

pub returns-clause-spelled : goal.returns-clause-spelled
returns-clause-spelled c d spells =
    let config = decoded_config d c.args.secret c.args.ad in
    let stored = is_stored d c.args.secret c.args.ad c.args.secret.now c.args.ad.now refl refl in
    let same = accepted_value _ (λ x. spelled_by x ≡ d) c.in_ok-stored.stored (c.in_ok-stored.ensures.spelled d config spells stored) in
    let is = c.stored_context-context.ensures in
    let verdict = rw (is.pwd, is.salt, is.config, c.deref.ensures.value) at c.is_tag_sequential.ensures.answer in
    stored_verdict (spelled_by c.in_ok-stored.stored) d c.args.pwd.now c.args.secret.now c.args.ad.now c.config_of-config.result config (λ v. false)
    c.is_tag_sequential.result same c.config_of-config.ensures stored verdict

pub returns-clause-memory : goal.returns-clause-memory
returns-clause-memory c d spells =
    let config = decoded_config d c.args.secret c.args.ad in
    let stored = is_stored d c.args.secret c.args.ad c.args.secret.now c.args.ad.now refl refl in
    let v = spelled_by c.in_ok-stored.stored in
    let used = c.config_of-config.result in
    let same = accepted_value _ (λ x. spelled_by x ≡ d) c.in_ok-stored.stored (c.in_ok-stored.ensures.spelled d config spells stored) in
    let is = c.stored_context-context.ensures in
    let filled = rw (is.pwd, is.salt, is.config) at c.is_tag_sequential.ensures.filled in
    let left = rw (is.pwd, is.salt, is.config) at c.is_tag_sequential.ensures.left in
    inr (stored_leaves v d c.args.pwd.now c.args.secret.now c.args.ad.now used config (λ v. false) c.args.memory.now c.is_tag_sequential.new.memory c.is_tag_sequential.result same
    c.config_of-config.ensures stored c.in_ok-stored.ensures.accepted filled left)
