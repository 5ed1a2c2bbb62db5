-- What was decoded is the value that the string decodes to.
use Rattle.std.proofs.Common.{◌≡◌, length, ap, inr, refl, subst, sym, ◌∙◌}
use Rattle.std.specs.Prelude.{OnErr, nat_lt}
use Rattle.argon2_standard.specs.Standard.Prehash.{setting_of}
use Rattle.argon2_memory.specs.Standard.Kept.{IsLeft}
use Rattle.argon2_standard.specs.Standard.Decoded.{decoded_config}
use Rattle.argon2_standard.specs.declared.config.Config.{Config}
use Rattle.argon2_text.specs.Views.Texts.{spelled_by}
use Rattle.argon2.proofs.StoredHashes.{stored_leaves, accepted_value, is_stored, own_length, stored_accepted, stored_verdict, stored_workers}
use Rattle.argon2.proofs.verifying.texts.verify_encoded_in.Goals as goal

pub stored_context-context-requires : goal.stored_context-context-requires
stored_context-context-requires g c =
    stored_accepted (spelled_by c.in_ok-stored.stored) (length c.args.pwd.now) c.args.secret.now c.args.ad.now c.config_of-config.result
    c.in_ok-stored.ensures.accepted c.config_of-config.ensures

pub is_tag-requires-clause-length : goal.is_tag-requires-clause-length
is_tag-requires-clause-length g c = λ κs lives.
    rw c.deref.ensures.value
    (sym (ap (λ (x : Config). x.hash_length) c.stored_context-context.ensures.config
    ∙ own_length (spelled_by c.in_ok-stored.stored) (length c.args.pwd.now) c.args.secret.now c.args.ad.now c.config_of-config.result
    c.in_ok-stored.ensures.accepted c.config_of-config.ensures))

pub returns-clause-spelled : goal.returns-clause-spelled
returns-clause-spelled g c d spells =
    let config = decoded_config d c.args.secret c.args.ad in
    let stored = is_stored d c.args.secret c.args.ad c.args.secret.now c.args.ad.now refl refl in
    let same = accepted_value _ (λ x. spelled_by x ≡ d) c.in_ok-stored.stored (c.in_ok-stored.ensures.spelled d config spells stored) in
    let is = c.stored_context-context.ensures in
    let verdict = rw (is.pwd, is.salt, is.config, c.deref.ensures.value) at c.is_tag.ensures.answer in
    let flag = stored_workers c.in_ok-stored.stored c.args.secret.now c.args.ad.now c.config_of-config.result c.config_of-config.ensures in
    stored_verdict (spelled_by c.in_ok-stored.stored) d c.args.pwd.now c.args.secret.now c.args.ad.now c.config_of-config.result config
    (λ v. nat_lt 1 v.parallelism) c.is_tag.result same c.config_of-config.ensures stored (rw flag at verdict)

pub returns-clause-memory : goal.returns-clause-memory
returns-clause-memory g c d spells =
    let config = decoded_config d c.args.secret c.args.ad in
    let stored = is_stored d c.args.secret c.args.ad c.args.secret.now c.args.ad.now refl refl in
    let v = spelled_by c.in_ok-stored.stored in
    let used = c.config_of-config.result in
    let same = accepted_value _ (λ x. spelled_by x ≡ d) c.in_ok-stored.stored (c.in_ok-stored.ensures.spelled d config spells stored) in
    let is = c.stored_context-context.ensures in
    let filled = rw (is.pwd, is.salt, is.config) at c.is_tag.ensures.filled in
    let left = subst (λ w. OnErr c.is_tag.result (IsLeft w (setting_of c.args.pwd.now v.salt used used.hash_length) c.args.memory.now c.is_tag.new.memory)) (stored_workers c.in_ok-stored.stored c.args.secret.now c.args.ad.now used c.config_of-config.ensures)
    (rw (is.pwd, is.salt, is.config) at c.is_tag.ensures.left) in
    inr (stored_leaves v d c.args.pwd.now c.args.secret.now c.args.ad.now used config (λ v. nat_lt 1 v.parallelism) c.args.memory.now c.is_tag.new.memory c.is_tag.result same
    c.config_of-config.ensures stored c.in_ok-stored.ensures.accepted filled left)
