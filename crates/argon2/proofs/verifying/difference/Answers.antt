use Rattle.std.proofs.Common.{drop, arith}
use Rattle.std.proofs.lemmas.List.{drop_all, drop_more}
use Rattle.argon2.proofs.verifying.difference.Goals as goal

pub loop-at-preserved : goal.loop-at-preserved
loop-at-preserved c =
    let one = drop_more c.args.one.now c.loop-at.at 0 (omega (arith, c.loop-at-test.true)) in
    let other = drop_more c.args.other.now c.loop-at.at 0 (omega (arith, c.loop-at-test.true, c.requires)) in
    rw (one, other) at c.loop-at.invariant

pub returns : goal.returns
returns c =
    let none = drop_all c.loop-at.at c.args.one.now (omega (arith, c.loop-at-test.false)) in
    rw none at c.loop-at.invariant
