use Rattle.std.proofs.Common.{◌≡◌, ◌∙◌, ap, refl, sym, arith}
use Rattle.argon2_blocks.specs.Standard.Block.{xor}
use Rattle.argon2_blocks.proofs.WordLists.{xor-step_at, xor-undone}
use Rattle.argon2_blocks.proofs.block.BlockBitXorAssignRefBlock.bitxor_assign.Goals as goal

pub loop-i-init : goal.loop-i-init
unfolding xor
loop-i-init c = refl

pub loop-i-preserved : goal.loop-i-preserved
loop-i-preserved c = xor-step_at c.loop-i.i c.self.inside.words c.rhs.inside.words c.loop-i.self-inside.words (omega
    (arith, c.self.told, c.loop-i-test.true)) (omega (arith, c.rhs.told, c.loop-i-test.true)) c.loop-i.invariant

pub returns-clause-twice : goal.returns-clause-twice
returns-clause-twice c =
    let all : c.loop-i.i ≡ 128 = omega arith in
    ap (xor c.loop-i.self-inside.words) (sym c.rhs.view_is)
    ∙ xor-undone 128 c.self.inside.words c.rhs.inside.words c.loop-i.self-inside.words c.self.told c.rhs.told (rw all at c.loop-i.invariant)
    ∙ c.self.view_is
