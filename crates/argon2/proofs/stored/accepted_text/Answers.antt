-- An accepted head is decoded, and the error of a rejected head is the answer.
use Rattle.std.proofs.Common.{◌≡◌}
use Rattle.std.proofs.lemmas.Result.{err_from_is_err_and}
use Rattle.argon2_text.specs.declared.decoded.Decoded.{Decoded}
use Rattle.argon2_text.specs.Views.Texts.{spelled_by}
use Rattle.argon2.proofs.StoredHashes.{refused_too, text_decoded}
use Rattle.argon2.proofs.stored.accepted_text.Goals as goal

pub returns-in_err-head-clause-spelled : goal.returns-in_err-head-clause-spelled
returns-in_err-head-clause-spelled c d config spells stored =
    let p = err_from_is_err_and c.from_residual.result c.from_residual.ensures.1 in
    rw (p.1, p.2) (refused_too _ _ (λ (x : Decoded). spelled_by x ≡ d) c.in_err-head.field-0.0 (c.in_err-head.ensures.spelled d config spells stored))

pub decode-requires-clause-salt : goal.decode-requires-clause-salt
decode-requires-clause-salt c = let s = c.in_ok-head.ensures.spelling in (s.0, s.2.salt_item)

pub decode-requires-clause-hash : goal.decode-requires-clause-hash
decode-requires-clause-hash c = let s = c.in_ok-head.ensures.spelling in (s.1, s.2.hash_item)

pub returns-clause-spelled : goal.returns-clause-spelled
returns-clause-spelled c d config spells stored =
    text_decoded c.args.encoded.now c.in_ok-head.head _ d c.decode.result (c.in_ok-head.ensures.spelled d config spells stored) spells
    c.decode.ensures.settings c.decode.ensures.items c.decode.ensures.refused
