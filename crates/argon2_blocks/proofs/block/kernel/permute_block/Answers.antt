use Rattle.std.proofs.Common.{arith, ap, ◌∙◌}
use Rattle.argon2_blocks.specs.Standard.Compression.{permute_p}
use Rattle.argon2_blocks.specs.Views.Lanes.{column, vector_pair, nth_vector, spread_row}
use Rattle.argon2_blocks.proofs.Spread.{eight_columns, eight_rows, lower_pairs, eight_by_fours, upper_pairs}
use Rattle.argon2_blocks.proofs.Stores.{whole}
use Rattle.argon2_blocks.proofs.block.kernel.permute_block.Goals as goal

pub returns-clause-value : goal.returns-clause-value
returns-clause-value c =
    let block = c.args.words.now in
    let upper = c.permute_four_rows-upper.result in
    let lower = c.permute_four_rows-lower.result in
    let left = c.permute_four_columns-left.result in
    let right = c.permute_four_columns-right.result in
    whole block c.join_halves.result
    (eight_rows upper lower) (eight_columns left right)
    (omega arith) c.requires (omega arith)
    (eight_by_fours (spread_row upper) (spread_row lower) (λ j. permute_p (vector_pair block j))
    (λ j h. c.permute_four_rows-upper.ensures j h ∙ ap permute_p (upper_pairs block j h))
    (λ j h. c.permute_four_rows-lower.ensures j h ∙ ap permute_p (lower_pairs block j h)))
    (eight_by_fours (column (nth_vector left)) (column (nth_vector right)) (λ k. permute_p (column (eight_rows upper lower) k))
    (λ k h. c.permute_four_columns-left.ensures.value k h ∙ ap permute_p (c.left_halves.ensures k h))
    (λ k h. c.permute_four_columns-right.ensures.value k h ∙ ap permute_p (c.right_halves.ensures k h)))
    c.join_halves.ensures.value
