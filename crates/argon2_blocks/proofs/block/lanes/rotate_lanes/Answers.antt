use Rattle.argon2_blocks.proofs.Lanes.{by_shifts}
use Rattle.argon2_blocks.proofs.block.lanes.rotate_lanes.Goals as goal

pub returns : goal.returns
returns c = by_shifts c.args.bits 8 c.args.x c.requires.some c.requires.few c.facts_of_vector.ensures.long
