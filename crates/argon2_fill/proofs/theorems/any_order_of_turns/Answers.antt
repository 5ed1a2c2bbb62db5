use Rattle.argon2_fill.proofs.Passes.{every_order_of_turns}
use Rattle.argon2_fill.proofs.theorems.any_order_of_turns.Goals as goal

pub returns : goal.returns
returns c s places run slice below = every_order_of_turns s places run slice below
