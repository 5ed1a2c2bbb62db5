use Rattle.std.proofs.Common.{arith, ap, ◌∙◌}
use Rattle.argon2_blocks.specs.Standard.Compression.{permute_p}
use Rattle.argon2_blocks.proofs.Spread.{row_at}
use Rattle.argon2_blocks.proofs.block.kernel.permute_four_rows.Goals as goal

pub returns : goal.returns
returns c j h =
    row_at c.spread_rows-spread.result c.mix_two-mixed.result c.align_row_diagonals.result c.mix_two-mixed_twice.result c.restore_row_diagonals.result
    (omega arith) (omega arith)
    c.mix_two-mixed.ensures c.align_row_diagonals.ensures c.mix_two-mixed_twice.ensures c.restore_row_diagonals.ensures j h
    ∙ ap permute_p (c.spread_rows-spread.ensures j h)
