use Rattle.std.proofs.Common.{◌≡◌, false, refl, sym, true, ◌∙◌}
use Rattle.argon2.specs.Standard.Limits.{is_too_costly}
use Rattle.argon2_text.specs.Views.Texts.{spelled_with}
use Rattle.argon2_c.specs.Settings.{limits_of}
use Rattle.argon2_c.proofs.JobNumbers.{by_head, no_head}
use Rattle.argon2_c.proofs.reading.read_within.Goals as goal

pub returns-in-Err : goal.returns-in-Err
returns-in-Err c = no_head c.args.text.now c.in-Err.error _ _ c.in-Err.ensures

pub returns-then-is_above : goal.returns-then-is_above
returns-then-is_above c = by_head c.args.text.now c.in-Ok.head _ _ _ _ c.in-Ok.ensures (λ salt hash s h.
    let d = spelled_with c.in-Ok.head salt hash in
    let found = rw c.of_library.ensures at (c.is_above.ensures d (c.numbers-numbers.ensures salt hash s h)) in
    let above : is_too_costly (limits_of c.args.limits.now) d ≡ true = sym found ∙ c.if-is_above.true in
    rw above (refl, refl))

pub returns : goal.returns
returns c = by_head c.args.text.now c.in-Ok.head _ _ _ _ c.in-Ok.ensures (λ salt hash s h.
    let d = spelled_with c.in-Ok.head salt hash in
    let numbers = c.numbers-numbers.ensures salt hash s h in
    let found = rw c.of_library.ensures at (c.is_above.ensures d numbers) in
    let within : is_too_costly (limits_of c.args.limits.now) d ≡ false = sym found ∙ c.if-is_above.false in
    rw within (refl, c.of.ensures d numbers))
