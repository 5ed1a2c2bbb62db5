use Rattle.std.proofs.Common.{refl, sym, ◌∙◌}
use Rattle.argon2_text.specs.Views.Texts.{spelled_with}
use Rattle.argon2_c.proofs.JobNumbers.{by_head, no_head}
use Rattle.argon2_c.proofs.reading.check_encoded.Goals as goal

pub returns-in-Err : goal.returns-in-Err
returns-in-Err c = no_head c.args.text.now c.in-Err.error _ _ c.in-Err.ensures

pub returns-in-Some : goal.returns-in-Some
returns-in-Some c = by_head c.args.text.now c.in-Ok.head _ _ _ _ c.in-Ok.ensures (λ salt hash s h secret ad secret_len ad_len.
    let d = spelled_with c.in-Ok.head salt hash in
    let numbers = c.numbers-numbers.ensures salt hash s h in
    rw (sym (c.error_for.ensures d secret ad numbers secret_len ad_len) ∙ c.in-Some.is) (refl, refl))

pub returns-in-None : goal.returns-in-None
returns-in-None c = by_head c.args.text.now c.in-Ok.head _ _ _ _ c.in-Ok.ensures (λ salt hash s h secret ad secret_len ad_len.
    let d = spelled_with c.in-Ok.head salt hash in
    let numbers = c.numbers-numbers.ensures salt hash s h in
    rw (sym (c.error_for.ensures d secret ad numbers secret_len ad_len) ∙ c.in-None.is) (refl, c.of.ensures d numbers))
