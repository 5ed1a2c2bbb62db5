use Rattle.std.proofs.Common.{◌≡◌, ◌+◌, ◌++◌, length, take}
use Rattle.base64.specs.Rfc4648.{unpadded_len}
use Rattle.argon2_standard.specs.Standard.Text.{base64}
use Rattle.argon2_text.proofs.encoding.salt_and_hash.put_hash.Given as goal

-- `out` up to `at` and the base64 of the rest are together the call's `out` up to the call's `at` and the base64 of the
-- hash. The base64 of the rest fills the buffer exactly.
abbrev pub invariant-loop-rest : goal.invariant-loop-rest
invariant-loop-rest l = record {
  all : take l.at l.out ++ base64 l.rest ≡ take l.fn.at l.fn.out ++ base64 l.hash;
  room : l.at + unpadded_len (length l.rest) ≡ length l.out;
}

abbrev pub decreases-loop-rest : goal.decreases-loop-rest
decreases-loop-rest l = length l.rest
