use Rattle.std.proofs.Common.{length, Ok, refl, sym, ap, ◌∙◌, arith, subst}
use Rattle.std.specs.String.{string_bytes}
use Rattle.argon2_schedule.specs.Answers.{Inputs, ReturnsText, text_at}
use Rattle.argon2_schedule.proofs.Elsewhere.{returned_error, returned_value, text_length}
use Rattle.argon2_schedule.proofs.hash_encoded_by_value.Goals.{in-Ok, in-Err}
use Rattle.argon2_schedule.proofs.hash_encoded_by_value.Goals as goal

pub array_of-requires : goal.array_of-requires
array_of-requires g c =
    let x : Inputs = record {
      pwd = c.args.pwd;
      salt = c.args.salt;
      secret = c.args.secret;
      ad = c.args.ad;
      variant = c.args.variant;
      newest = c.args.newest;
      mem_cost = c.args.mem_cost;
      time_cost = c.args.time_cost;
      lanes = c.args.lanes;
      threads = c.args.threads;
      length = c.args.hash_length;
    } in (
      omega (arith, c.requires.size),
      ap length c.as_bytes.ensures.value
          ∙ text_length x g.row.N c.requires.text (λ v. string_bytes v) _ _ refl refl c.in-Ok.text (rw (c.mode_of.ensures, c.variant_of.ensures, c.version_of.ensures, c.in-Ok.is) at c.hash_encoded.ensures),
    )

pub returns : goal.returns
returns g c =
    let x : Inputs = record {
      pwd = c.args.pwd;
      salt = c.args.salt;
      secret = c.args.secret;
      ad = c.args.ad;
      variant = c.args.variant;
      newest = c.args.newest;
      mem_cost = c.args.mem_cost;
      time_cost = c.args.time_cost;
      lanes = c.args.lanes;
      threads = c.args.threads;
      length = c.args.hash_length;
    } in
    elim c.match-hash_encoded.branch [
      | in-Ok w ↦ subst (ReturnsText x) (sym (w.answer-is ∙ ap Ok (w.array_of.ensures ∙ w.as_bytes.ensures.value)))
          (returned_value x (text_at x) (λ s a s' a' tag. refl) (λ v. string_bytes v) _ _ refl refl w.in-Ok.text (rw (c.mode_of.ensures, c.variant_of.ensures, c.version_of.ensures, w.in-Ok.is) at c.hash_encoded.ensures))
      | in-Err w ↦ subst (ReturnsText x) (sym w.answer-is)
          (returned_error x (text_at x) (λ s a s' a' tag. refl) (λ v. string_bytes v) _ _ refl refl w.in-Err.error (rw (c.mode_of.ensures, c.variant_of.ensures, c.version_of.ensures, w.in-Err.is) at c.hash_encoded.ensures))
    ]
