use Rattle.std.proofs.Common.{◌≡◌, ◌++◌, List, ℕ, length, arith, sym, ◌∙◌}
use Rattle.std.proofs.lemmas.List.{append-nil}
use Rattle.std.specs.Int.{w32, to_le_bytes}
use Rattle.argon2_blocks.proofs.Hashing.{hprime_long, hprime_short}
use Rattle.argon2_blocks.proofs.blake2b.variable_length.hprime.Goals as goal

pub returns-then-out-le-BLAKE2B_OUT_LENGTH : goal.returns-then-out-le-BLAKE2B_OUT_LENGTH
returns-then-out-le-BLAKE2B_OUT_LENGTH c =
    let hash = rw (append-nil, c.u32_to_le_bytes-len.ensures) at c.blake2b.ensures in
    hash ∙ sym (hprime_short (length c.args.out.now) c.args.input.now c.if-out-le-BLAKE2B_OUT_LENGTH.true)

pub returns-else-out-le-BLAKE2B_OUT_LENGTH : goal.returns-else-out-le-BLAKE2B_OUT_LENGTH
returns-else-out-le-BLAKE2B_OUT_LENGTH c =
    let input : List ℕ = to_le_bytes w32 (length c.args.out.now) ++ c.args.input.now in
    let whole : length c.new-link.result.bytes ≡ 64 = omega arith in
    let first = rw (whole, append-nil, c.u32_to_le_bytes-len.ensures) at c.blake2b-else-out-le-BLAKE2B_OUT_LENGTH.ensures in
    c.write_chain.ensures.chain input first ∙ sym (hprime_long (length c.args.out.now) c.args.input.now (omega arith))
