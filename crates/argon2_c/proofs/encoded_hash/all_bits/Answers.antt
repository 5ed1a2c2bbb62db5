use Rattle.std.proofs.Common.{arith}
use Rattle.std.proofs.lemmas.List.{drop_all, drop_more}
use Rattle.argon2_c.proofs.encoded_hash.all_bits.Goals as goal

pub loop-at-preserved : goal.loop-at-preserved
loop-at-preserved c =
    let more = drop_more c.args.bytes.now c.loop-at.at 0 (omega (arith, c.loop-at-test.true)) in
    rw more at c.loop-at.invariant

pub returns : goal.returns
returns c =
    let none = drop_all c.loop-at.at c.args.bytes.now (omega (arith, c.loop-at-test.false)) in
    rw none at c.loop-at.invariant
