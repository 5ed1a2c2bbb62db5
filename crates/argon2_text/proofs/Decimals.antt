-- Decimals, digit by digit.
use Rattle.std.proofs.Common.{ℕ, ◌≡◌, ◌<◌, ◌≤◌, ◌+◌, ◌/◌, ◌%◌, ◌^◌, ◌∷◌, [], length, arith, ap, ◌∙◌}
use Rattle.std.specs.Fmt.{decimal}
use Rattle.std.proofs.lemmas.List.{length-append}
use Rattle.std.proofs.lemmas.Fmt.{decimal_digit, decimal_step, length-decimal-le}

pub one : (n : ℕ) → n < 10 → length (decimal n) ≡ 1
one n small = ap length (decimal_digit n small)

pub more : (n : ℕ) → 10 ≤ n → n < 2 ^ 32 → length (decimal n) ≡ length (decimal (n / 10)) + 1
more n large fits = ap length (decimal_step n large (omega (arith))) ∙ length-append (decimal (n / 10)) ((48 + n % 10) ∷ [])

pub few : (n : ℕ) → n < 2 ^ 32 → length (decimal n) ≤ 10
few n fits = length-decimal-le 10 n (omega arith) (omega arith) (omega arith)
