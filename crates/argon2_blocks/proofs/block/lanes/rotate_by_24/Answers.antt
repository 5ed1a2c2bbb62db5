use Rattle.argon2_blocks.proofs.Lanes.{by_two, rotations24}
use Rattle.argon2_blocks.proofs.block.lanes.rotate_by_24.Goals as goal

pub returns : goal.returns
returns c = by_two 56 24 rotations24 c.args.x _ _ c.facts_of_vector.ensures.fits c.rotate_by_32-swapped.ensures c.rotate_lanes.ensures
