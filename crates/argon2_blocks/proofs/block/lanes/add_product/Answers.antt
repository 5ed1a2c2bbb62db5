use Rattle.argon2_blocks.proofs.Lanes.{all_lanes}
use Rattle.argon2_blocks.proofs.block.lanes.add_product.Goals as goal

pub returns-clause-value : goal.returns-clause-value
returns-clause-value c = all_lanes 8 c.args.x c.args.y c.facts_of_vector.ensures.long c.facts_of_vector-2.ensures.long
