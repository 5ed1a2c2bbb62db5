use Rattle.std.proofs.Common.{arith, append_assoc, ◌/◌, ◌%◌, ◌+◌, ◌∷◌, [], take}
use Rattle.std.specs.Fmt.{decimal}
use Rattle.std.proofs.lemmas.Fmt.{decimal_digit, decimal_step}
use Rattle.argon2_text.proofs.Decimals.{one, more}
use Rattle.argon2_text.proofs.encoding.placing.+put_number.Goals as goal

pub put-requires : goal.put-requires
put-requires t c = let it = one c.args.number (omega (arith, c.if-number-lt10.true)) in omega (arith, it, c.requires)

pub returns-then-number-lt10-clause-end : goal.returns-then-number-lt10-clause-end
returns-then-number-lt10-clause-end t c = let it = one c.args.number (omega (arith, c.if-number-lt10.true)) in omega (arith, it, c.put.ensures.end)

pub returns-then-number-lt10-clause-front : goal.returns-then-number-lt10-clause-front
returns-then-number-lt10-clause-front t c = rw (decimal_digit c.args.number (omega (arith, c.if-number-lt10.true))) c.put.ensures.front

pub put_number-at-requires : goal.put_number-at-requires
put_number-at-requires t c =
    let it = more c.args.number (omega (arith, c.if-number-lt10.false)) (omega (arith, c.ranges.number.fits)) in
    (omega (arith, c.decreases, c.if-number-lt10.false), omega (arith, it, c.requires))

pub put-requires-2 : goal.put-requires-2
put-requires-2 t c =
    let it = more c.args.number (omega (arith, c.if-number-lt10.false)) (omega (arith, c.ranges.number.fits)) in
    omega (arith, it, c.requires, c.put_number-at.ensures.end, c.put_number-at.ensures.len)

pub returns-clause-end : goal.returns-clause-end
returns-clause-end t c =
    let it = more c.args.number (omega (arith, c.if-number-lt10.false)) (omega (arith, c.ranges.number.fits)) in
    omega (arith, it, c.put_number-at.ensures.end, c.put-2.ensures.end)

pub returns-clause-front : goal.returns-clause-front
returns-clause-front t c =
    rw (c.put-2.ensures.front, c.put_number-at.ensures.front, decimal_step c.args.number (omega (arith, c.if-number-lt10.false)) (omega (arith, c.ranges.number.fits)))
    (append_assoc (take c.args.at c.args.out.now) (decimal (c.args.number / 10)) ((48 + c.args.number % 10) ∷ []))
