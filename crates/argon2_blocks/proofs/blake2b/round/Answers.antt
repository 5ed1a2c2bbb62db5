use Rattle.std.proofs.Common.{◌∙◌, ap}
use Rattle.argon2_blocks.specs.Views.Rounds.{half_of_round}
use Rattle.argon2_blocks.proofs.Hashing.{round_by_halves}
use Rattle.argon2_blocks.proofs.blake2b.round.Goals as goal

pub returns : goal.returns
returns c =
    c.mix_diagonals.ensures
    ∙ ap (λ v. half_of_round c.args.m.now v c.args.s.now 4) c.mix_columns.ensures
    ∙ round_by_halves c.args.m.now c.args.v.now c.args.s.now
