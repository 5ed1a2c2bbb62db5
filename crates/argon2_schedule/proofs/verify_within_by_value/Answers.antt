use Rattle.std.proofs.Common.{sym, subst}
use Rattle.std.specs.Prelude.{nat_lt}
use Rattle.argon2_standard.specs.Standard.Decoded.{decoded_config}
use Rattle.argon2_standard.specs.Standard.Grammar.{Spells, SpellsNothing}
use Rattle.argon2_schedule.specs.Answers.{JudgesDecoded, Stored}
use Rattle.argon2_schedule.proofs.Elsewhere.{alike_decoded, same_verdict, same_within}
use Rattle.argon2_schedule.proofs.verify_within_by_value.Goals as goal

pub returns : goal.returns
returns g c =
    let x : Stored = record { encoded = c.args.encoded; pwd = c.args.pwd; secret = c.args.secret; ad = c.args.ad } in
    record {
      unspelled = λ h. c.verify_encoded_within-answer.ensures.unspelled (subst SpellsNothing (sym c.from_utf8_unchecked-text.ensures) h);
      spelled = λ d spells s a is_secret is_ad. same_within _ _ (JudgesDecoded x d s a) (λ answer h. same_verdict (decoded_config d _ _) (decoded_config d s a) (alike_decoded d _ _ s a (sym is_secret) (sym is_ad)) c.args.pwd d.salt d.hash (nat_lt 1 d.parallelism) answer h) c.verify_encoded_within-answer.result (c.verify_encoded_within-answer.ensures.spelled d (subst (λ text. Spells text d) (sym c.from_utf8_unchecked-text.ensures) spells));
    }
