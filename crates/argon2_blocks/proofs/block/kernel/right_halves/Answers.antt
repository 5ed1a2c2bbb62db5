use Rattle.argon2_blocks.proofs.Spread.{right_columns}
use Rattle.argon2_blocks.proofs.block.kernel.right_halves.Goals as goal

pub returns : goal.returns
returns c =
    rw (c.low_halves.ensures.value, c.high_halves.ensures, c.low_halves-2.ensures.value, c.high_halves-2.ensures) (
    rw (c.low_halves-3.ensures.value, c.high_halves-3.ensures, c.low_halves-4.ensures.value, c.high_halves-4.ensures)
    (right_columns c.args.upper.now c.args.lower.now))
