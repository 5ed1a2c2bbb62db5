-- If the OR of all bytes is below 128, each byte is ASCII.
use Rattle.std.proofs.Common.{ℕ, zero, suc, ◌≤◌, ◌<◌, List, [], ◌∷◌, get_or, arith, inl, inr, refl}
use Rattle.std.specs.Prelude.{bit_or}
use Rattle.std.specs.List.{fold}
use Rattle.std.specs.Str.{IsAscii}
use Rattle.std.proofs.lemmas.Nat.{le_or_l, le_or_r, or_lt}
use Rattle.argon2_c.proofs.encoded_hash.head_of.Goals as goal

-- the OR of `bits` and all bytes is at least `bits`
gathered : (bits : ℕ) (bytes : List ℕ) → bits ≤ fold (λ bits byte. bit_or bits byte) bits bytes
gathered bits [] = omega arith
gathered bits (x ∷ bytes) = omega (arith, le_or_l bits x, gathered (bit_or bits x) bytes)

-- no byte is greater than the OR of `bits` and all bytes
below_all : (bits : ℕ) (bytes : List ℕ) (i : ℕ) → get_or bytes i 0 ≤ fold (λ bits byte. bit_or bits byte) bits bytes
below_all bits [] i = omega arith
below_all bits (x ∷ bytes) zero = omega (arith, le_or_r bits x, gathered (bit_or bits x) bytes)
below_all bits (x ∷ bytes) (suc i) = below_all (bit_or bits x) bytes i

-- if `bits` and each byte are below 128, their OR is below 128
few : (bits : ℕ) (bytes : List ℕ) → bits < 128 → IsAscii bytes → fold (λ bits byte. bit_or bits byte) bits bytes < 128
few bits [] small ascii = small
few bits (x ∷ bytes) small ascii = few (bit_or bits x) bytes (or_lt 7 bits x small (ascii 0)) (λ i. ascii (suc i))

pub returns-then-all_bits-ge-FIRST_NOT_ASCII : goal.returns-then-all_bits-ge-FIRST_NOT_ASCII
returns-then-all_bits-ge-FIRST_NOT_ASCII c =
    inl (refl, λ ascii. let it = few 0 c.args.bytes.now (omega arith) ascii in omega (arith, it, c.all_bits.ensures, c.if-all_bits-ge-FIRST_NOT_ASCII.true))

pub returns-in-Some : goal.returns-in-Some
returns-in-Some c =
    (λ i. let it = below_all 0 c.args.bytes.now i in omega (arith, it, c.all_bits.ensures, c.if-all_bits-ge-FIRST_NOT_ASCII.false), c.in-Some.ensures)

pub returns-in-None : goal.returns-in-None
returns-in-None c =
    inr (refl, λ i. let it = below_all 0 c.args.bytes.now i in omega (arith, it, c.all_bits.ensures, c.if-all_bits-ge-FIRST_NOT_ASCII.false), c.in-None.ensures)
