use Rattle.argon2_blocks.proofs.Lanes.{by_two, rotations16}
use Rattle.argon2_blocks.proofs.block.lanes.rotate_by_16.Goals as goal

pub returns : goal.returns
returns c = by_two 48 16 rotations16 c.args.x _ _ c.facts_of_vector.ensures.fits c.rotate_by_32-swapped.ensures c.rotate_lanes.ensures
