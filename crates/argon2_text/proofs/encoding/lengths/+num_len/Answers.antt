use Rattle.std.proofs.Common.{arith, ◌/◌}
use Rattle.argon2_text.proofs.Decimals.{one, more, few}
use Rattle.argon2_text.proofs.encoding.lengths.+num_len.Goals as goal

pub overflow_add-result : goal.overflow_add-result
overflow_add-result t c = let n = c.args.number / 10 in let it = few n (omega (arith, c.ranges.number.fits)) in omega (arith, it, c.num_len.ensures)

pub returns-then-number-lt10 : goal.returns-then-number-lt10
returns-then-number-lt10 t c = let it = one c.args.number (omega (arith, c.if-number-lt10.true)) in omega (arith, it)

pub returns-else-number-lt10 : goal.returns-else-number-lt10
returns-else-number-lt10 t c = let it = more c.args.number (omega (arith, c.if-number-lt10.false)) (omega (arith, c.ranges.number.fits)) in omega (arith, it, c.num_len.ensures)
