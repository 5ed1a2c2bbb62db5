use Rattle.std.proofs.Common.{arith}
use Rattle.argon2_blocks.proofs.Spread.{column_at}
use Rattle.argon2_blocks.proofs.block.kernel.permute_four_columns.Goals as goal

pub returns-clause-value : goal.returns-clause-value
returns-clause-value c =
    column_at c.args.v c.mix_two-mixed.result c.align_column_diagonals.result c.mix_two-mixed_twice.result c.restore_column_diagonals.result (omega arith) (omega arith)
    c.mix_two-mixed.ensures c.align_column_diagonals.ensures c.mix_two-mixed_twice.ensures c.restore_column_diagonals.ensures.value
