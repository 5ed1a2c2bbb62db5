use Rattle.argon2_memory.proofs.Slices.{lanes-at, blocks-at}
use Rattle.argon2_memory.proofs.segment.other_blocks.Beside.block.Goals as goal

pub block-requires-clause-lanes : goal.block-requires-clause-lanes
block-requires-clause-lanes g c = lanes-at _ _ c.self.invariant c.args.slice c.requires.slice_fits

pub block-requires-clause-blocks : goal.block-requires-clause-blocks
block-requires-clause-blocks g c =
    let q = c.requires in blocks-at _ _ c.self.invariant c.args.slice c.args.lane q.slice_fits (rw (← c.self.view_is) at q.lane_fits)
