use Rattle.std.proofs.Common.{arith}
use Rattle.argon2_blocks.proofs.Lanes.{mix_at, two_mixes_at}
use Rattle.argon2_blocks.proofs.block.lanes.mix_two.Goals as goal

pub returns : goal.returns
returns c i h =
    two_mixes_at i c.args.v _ _ _ _ _ _ _ _ (omega arith)
    (mix_at i _ _ _ _ _ _ _ _ _ _ _ _
    c.add_product-a0.ensures.value c.rotate_by_32-d0.ensures c.add_product-c0.ensures.value c.rotate_by_24-b0.ensures
    c.add_product-a0-2.ensures.value c.rotate_by_16-d0.ensures c.add_product-c0-2.ensures.value c.rotate_lanes-b0.ensures
    h c.add_product-a0.ensures.left c.add_product-a0.ensures.right c.add_product-c0.ensures.left c.add_product-c0.ensures.right
    c.add_product-a0-2.ensures.left c.add_product-a0-2.ensures.right c.add_product-c0-2.ensures.left c.add_product-c0-2.ensures.right)
    (mix_at i _ _ _ _ _ _ _ _ _ _ _ _
    c.add_product-a1.ensures.value c.rotate_by_32-d1.ensures c.add_product-c1.ensures.value c.rotate_by_24-b1.ensures
    c.add_product-a1-2.ensures.value c.rotate_by_16-d1.ensures c.add_product-c1-2.ensures.value c.rotate_lanes-b1.ensures
    h c.add_product-a1.ensures.left c.add_product-a1.ensures.right c.add_product-c1.ensures.left c.add_product-c1.ensures.right
    c.add_product-a1-2.ensures.left c.add_product-a1-2.ensures.right c.add_product-c1-2.ensures.left c.add_product-c1-2.ensures.right)
