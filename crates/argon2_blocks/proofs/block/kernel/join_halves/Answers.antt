use Rattle.argon2_blocks.proofs.Spread.{halves_long, rows_joined}
use Rattle.argon2_blocks.proofs.block.kernel.join_halves.Goals as goal

pub returns-clause-long : goal.returns-clause-long
returns-clause-long c =
    halves_long c.args.left.now c.args.right.now c.told-left c.told-right c.requires.left_is_long c.requires.right_is_long

pub returns-clause-value : goal.returns-clause-value
returns-clause-value c =
    rows_joined c.args.left.now c.args.right.now c.told-left c.told-right c.requires.left_is_long c.requires.right_is_long
