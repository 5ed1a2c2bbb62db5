use Rattle.std.proofs.Common.{◌+◌}
use Rattle.argon2_standard.specs.Standard.Recurrence.{block_at, drawn_word}
use Rattle.argon2_memory.specs.Views.Jobs.{position_of}
use Rattle.argon2_memory.proofs.segment.filling.write_blocks.Goals as goal

pub write_block-requires-clause-picked : goal.write_block-requires-clause-picked
write_block-requires-clause-picked g c =
    let j = c.args.beside.now.job in (
      drawn_word j.setting (block_at j.setting) (position_of j c.args.lane (c.args.first + c.loop-k.k)),
      c.requires.chosen c.loop-k.k c.loop-k-test.true,
    )

pub expect_reference-requires-clause-picked : goal.expect_reference-requires-clause-picked
expect_reference-requires-clause-picked g c =
    let j = c.args.beside.now.job in (
      drawn_word j.setting (block_at j.setting) (position_of j c.args.lane (c.args.first + (c.loop-k.k + 1))),
      c.requires.chosen (c.loop-k.k + 1) c.if-k-references.true,
    )
