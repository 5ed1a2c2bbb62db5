use Rattle.std.proofs.Common.{◌≡◌, length, Ok, refl, sym, ap, ◌∙◌, arith, subst}
use Rattle.argon2_schedule.specs.Answers.{Inputs, ReturnsTag}
use Rattle.argon2_schedule.proofs.Elsewhere.{returned_error, returned_value, tag_behind, tag_length}
use Rattle.argon2_schedule.proofs.hash_raw_by_value.Goals.{in-Ok, in-Err}
use Rattle.argon2_schedule.proofs.hash_raw_by_value.Goals as goal

pub array_of-requires : goal.array_of-requires
array_of-requires g c =
    (omega (arith, c.requires), ap length c.as_slice.ensures.value ∙ ap length (tag_behind (λ v tag. v.items ≡ tag) _ _ _ _ _ (rw c.in-Ok.is at c.hash_raw.ensures)) ∙ tag_length _ _ _)

pub returns : goal.returns
returns g c =
    let x : Inputs = record {
      pwd = c.args.pwd;
      salt = c.args.salt;
      secret = c.args.secret;
      ad = c.args.ad;
      variant = c.args.variant;
      newest = c.args.newest;
      mem_cost = c.args.mem_cost;
      time_cost = c.args.time_cost;
      lanes = c.args.lanes;
      threads = c.args.threads;
      length = g.row.T;
    } in
    elim c.match-hash_raw.branch [
      | in-Ok w ↦ subst (ReturnsTag x) (sym (w.answer-is ∙ ap Ok (w.array_of.ensures ∙ w.as_slice.ensures.value)))
          (returned_value x (λ config tag. tag) (λ s a s' a' tag. refl) (λ v. v.items) _ _ refl refl w.in-Ok.tag (rw (c.mode_of.ensures, c.variant_of.ensures, c.version_of.ensures, w.in-Ok.is) at c.hash_raw.ensures))
      | in-Err w ↦ subst (ReturnsTag x) (sym w.answer-is)
          (returned_error x (λ config tag. tag) (λ s a s' a' tag. refl) (λ v. v.items) _ _ refl refl w.in-Err.error (rw (c.mode_of.ensures, c.variant_of.ensures, c.version_of.ensures, w.in-Err.is) at c.hash_raw.ensures))
    ]
