use Rattle.std.proofs.lemmas.Bool.{eqb-true, eq-eqb}
use Rattle.argon2.proofs.Verdicts.{difference-zero}
use Rattle.argon2.proofs.verifying.are_equal.Goals as goal
use Rattle.std.proofs.Common.{sym, ◌∙◌}

pub returns : goal.returns
returns c =
    let zero = difference-zero c.args.one.now c.args.other.now c.requires in (
      λ t. zero.0 (sym c.difference.ensures ∙ eqb-true c.difference.result 0 t),
      λ e. eq-eqb c.difference.result 0 (c.difference.ensures ∙ zero.1 e),
    )
