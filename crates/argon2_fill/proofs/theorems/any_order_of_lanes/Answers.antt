use Rattle.argon2_fill.proofs.Passes.{run_agrees}
use Rattle.argon2_fill.proofs.theorems.any_order_of_lanes.Goals as goal

pub returns : goal.returns
returns c s places run slice below = run_agrees s places run slice below
