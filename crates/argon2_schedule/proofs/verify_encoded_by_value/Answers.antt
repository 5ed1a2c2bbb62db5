use Rattle.std.proofs.Common.{sym, subst}
use Rattle.std.specs.Prelude.{nat_lt}
use Rattle.argon2_standard.specs.Standard.Decoded.{decoded_config}
use Rattle.argon2_standard.specs.Standard.Grammar.{Spells, SpellsNothing}
use Rattle.argon2_schedule.proofs.Elsewhere.{alike_decoded, same_verdict}
use Rattle.argon2_schedule.proofs.verify_encoded_by_value.Goals as goal

pub returns : goal.returns
returns g c =
    record {
      unspelled = λ h. c.verify_encoded_ext-answer.ensures.unspelled (subst SpellsNothing (sym c.from_utf8_unchecked-text.ensures) h);
      spelled = λ d spells s a is_secret is_ad. same_verdict (decoded_config d _ _) (decoded_config d s a) (alike_decoded d _ _ s a (sym is_secret) (sym is_ad)) c.args.pwd d.salt d.hash (nat_lt 1 d.parallelism) c.verify_encoded_ext-answer.result (c.verify_encoded_ext-answer.ensures.spelled d (subst (λ text. Spells text d) (sym c.from_utf8_unchecked-text.ensures) spells));
    }
