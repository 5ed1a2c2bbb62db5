use Rattle.std.proofs.Common.{◌≡◌, Ok, ap}
use Rattle.argon2_text.specs.Views.Texts.{numbers_of}
use Rattle.argon2.proofs.limits.is_too_costly.Goals as goal

pub returns-in_err-numbers-clause-spelled : goal.returns-in_err-numbers-clause-spelled
returns-in_err-numbers-clause-spelled c d spells = let no = c.in_err-numbers.ensures.spelled d spells in absurd cc

pub returns-clause-unspelled : goal.returns-clause-unspelled
returns-clause-unspelled c none = let no = c.in_ok-numbers.ensures.unspelled none in absurd cc

pub returns-clause-spelled : goal.returns-clause-spelled
returns-clause-spelled c d spells =
    let told = c.in_ok-numbers.ensures.spelled d spells in
    let same : c.in_ok-numbers.numbers ≡ numbers_of d = cc in
    ap Ok (c.is_above.ensures d same)
