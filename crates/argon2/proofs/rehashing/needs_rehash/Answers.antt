-- The decoded value is the only one that the string decodes to.
use Rattle.std.proofs.Common.{◌∙◌, ap, Err}
use Rattle.std.proofs.lemmas.Result.{err_from_is_err_and}
use Rattle.argon2_text.specs.Views.Texts.{spelled_by}
use Rattle.argon2.proofs.StoredHashes.{not_agreeing, refuses_some, refuses_nothing}
use Rattle.argon2.proofs.Texts.{spells_one}
use Rattle.argon2.proofs.rehashing.needs_rehash.Goals as goal

pub returns-in_err-stored-clause-unspelled : goal.returns-in_err-stored-clause-unspelled
returns-in_err-stored-clause-unspelled c none =
    let p = err_from_is_err_and c.from_residual.result c.from_residual.ensures.1 in
    p.1 ∙ ap Err (p.2 ∙ refuses_nothing c.args.encoded.now c.in_err-stored.field-0.0 none c.in_err-stored.ensures.refused)

pub returns-in_err-stored-clause-spelled : goal.returns-in_err-stored-clause-spelled
returns-in_err-stored-clause-spelled c d s =
    let p = err_from_is_err_and c.from_residual.result c.from_residual.ensures.1 in
    rw (p.1, p.2) (refuses_some c.args.encoded.now d c.in_err-stored.field-0.0 s c.in_err-stored.ensures.refused)

pub returns-clause-spelled : goal.returns-clause-spelled
returns-clause-spelled c d s =
    let same = spells_one c.args.encoded.now (spelled_by c.in_ok-stored.stored) d c.in_ok-stored.ensures.spelled s in
    not_agreeing (spelled_by c.in_ok-stored.stored) d c.args.config.now c.agrees.result same
    (c.agrees.ensures (spelled_by c.in_ok-stored.stored) c.numbers.ensures)
