use Rattle.std.proofs.Common.{arith}
use Rattle.argon2_blocks.proofs.Stores.{chunk_made}
use Rattle.argon2_blocks.proofs.block.kernel.sum_at.Goals as goal

pub returns : goal.returns
returns c =
    chunk_made c.args.x.now c.args.y.now c.xor_lanes.result c.args.k _ _ (omega arith) (omega arith) c.xor_lanes.ensures.value
