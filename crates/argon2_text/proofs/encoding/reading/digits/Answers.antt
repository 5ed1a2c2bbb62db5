use Rattle.std.proofs.Common.{◌<◌, ◌≤◌, ◌^◌, ◌+◌, ◌*◌, ◌-◌, ℕ, List, [], ◌∷◌, length, get_or, arith}
use Rattle.std.specs.Char.{digit_value}
use Rattle.std.specs.Int.{IsInRange}
use Rattle.std.specs.Str.Parse.{digits_value_after}
use Rattle.std.proofs.lemmas.Str.{digit_value_digit}
use Rattle.argon2_text.proofs.encoding.reading.digits.Goals as goal

-- more digits behind a number do not make it smaller
grows : (n : ℕ) (ds : List ℕ) → n ≤ digits_value_after 10 n ds
grows n [] = omega arith
grows n (c ∷ cs) = let it = grows (n * 10 + digit_value c) cs in omega (arith, it)

-- if the number with the next digit is at least 2 ^ 32, the number with all digits is at least 2 ^ 32
overflows : (n : ℕ) (ds : List ℕ) → 0 < length ds → IsInRange 48 57 (get_or ds 0 0) → 2 ^ 32 ≤ n * 10 + (get_or ds 0 0 - 48) → 2 ^ 32 ≤ digits_value_after 10 n ds
overflows n [] some digit large = absurd (omega (arith, some))
overflows n (c ∷ cs) some digit large = let it = grows (n * 10 + digit_value c) cs in let v = digit_value_digit c digit in omega (arith, it, v)

pub returns-then-longer-gt-MAX_NUMBER : goal.returns-then-longer-gt-MAX_NUMBER
returns-then-longer-gt-MAX_NUMBER c = λ numeral small.
    let it = overflows c.loop-rest.number c.loop-rest.rest.now (omega (arith, c.loop-rest-test.true)) (omega (arith, c.if-digit-lt48.false), omega (arith, c.if-digit-gt57.false)) (omega (arith, c.if-longer-gt-MAX_NUMBER.true)) in
    omega (arith, it, small, c.loop-rest.invariant.value)
