-- An encoded hash that agrees with the configuration without secret and data agrees with it for any secret and data.
use Rattle.std.proofs.Common.{refl}
use Rattle.argon2_text.specs.Views.Texts.{spelled_with}
use Rattle.argon2_c.proofs.JobNumbers.{by_head, no_head, agrees_with, agrees_without, no_inputs, other_inputs}
use Rattle.argon2_c.proofs.reading.needs_rehash.Goals as goal

pub returns-in-Err : goal.returns-in-Err
returns-in-Err c secret ad = rw (no_inputs c.args.settings.now _ _ secret ad _ c.in-Err.ensures) refl

pub returns-in-Err-head_of : goal.returns-in-Err-head_of
returns-in-Err-head_of c secret ad =
    rw (other_inputs c.args.settings.now _ _ secret ad c.in-Ok.config c.in-Ok.ensures)
    (no_head c.args.text.now c.in-Err-head_of.error _ _ c.in-Err-head_of.ensures)

pub returns-then-agrees : goal.returns-then-agrees
returns-then-agrees c secret ad =
    let config = c.in-Ok.config in
    rw (other_inputs c.args.settings.now _ _ secret ad config c.in-Ok.ensures)
    (by_head c.args.text.now c.in-Ok-head_of.head _ _ _ _ c.in-Ok-head_of.ensures (λ salt hash s h.
    let d = spelled_with c.in-Ok-head_of.head salt hash in
    agrees_with d config secret ad ((c.agrees.ensures d (c.numbers.ensures salt hash s h)).0 c.if-agrees.true)))

pub returns-else-agrees : goal.returns-else-agrees
returns-else-agrees c secret ad =
    let config = c.in-Ok.config in
    rw (other_inputs c.args.settings.now _ _ secret ad config c.in-Ok.ensures)
    (by_head c.args.text.now c.in-Ok-head_of.head _ _ _ _ c.in-Ok-head_of.ensures (λ salt hash s h same.
    let d = spelled_with c.in-Ok-head_of.head salt hash in
    let yes = (c.agrees.ensures d (c.numbers.ensures salt hash s h)).1 (agrees_without d config secret ad same) in
    absurd (let no = c.if-agrees.false in cc)))
