use Rattle.std.proofs.Common.{◌≡◌, drop}
use Rattle.std.specs.Prelude.{bit_or}
use Rattle.std.specs.List.{fold}
use Rattle.argon2_c.proofs.encoded_hash.all_bits.Given as goal

-- the OR of `l.bits` and the bytes from `l.at` on is the OR of all bytes
abbrev pub invariant-loop-at : goal.invariant-loop-at
invariant-loop-at l = fold (λ bits byte. bit_or bits byte) l.bits (drop l.at l.bytes) ≡ fold (λ bits byte. bit_or bits byte) 0 l.bytes
