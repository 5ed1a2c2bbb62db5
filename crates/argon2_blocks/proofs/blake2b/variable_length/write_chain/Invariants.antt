use Rattle.std.proofs.Common.{◌≡◌, List, ℕ, ◌*◌, ◌-◌, ◌++◌, length, take}
use Rattle.argon2_blocks.specs.Standard.Blake2b.{blake2b}
use Rattle.argon2_blocks.specs.Standard.Hprime.{hash_chain}
use Rattle.argon2_blocks.proofs.blake2b.variable_length.write_chain.Given as goal

abbrev pub invariant-loop-i : goal.invariant-loop-i
invariant-loop-i l = (input : List ℕ) → l.initial.link.bytes ≡ blake2b 64 input →
    let last = length l.initial.out - 32 * l.r in
    hash_chain l.r last input ≡ take (32 * l.i) l.out ++ hash_chain (l.r - l.i) last l.link.bytes
