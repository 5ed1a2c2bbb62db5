use Rattle.std.proofs.Common.{◌≡◌, ◌+◌, ◌%◌, ◌^◌, ℕ, List, length, take, ap, ◌∙◌, arith, refl, MutBor}
use Rattle.std.proofs.lemmas.List.{length-take-le}
use Rattle.std.proofs.lemmas.Slice.{take-put_mid}
use Rattle.argon2_blocks.specs.declared.blake2b.Hasher.{Hasher}
use Rattle.argon2_blocks.proofs.Hashing.{Holds_more, Holds_next}
use Rattle.argon2_blocks.proofs.blake2b.Hasher.fill_buffer.Goals as goal
use Rattle.argon2_blocks.proofs.blake2b.Hasher.fill_buffer.Goals.{then-self-eq-BLOCK_LENGTH, else-self-eq-BLOCK_LENGTH}

-- the hasher after F on a full buffer, if any, and before the copy of new bytes: its state, buffer, used and count
abbrev Parts : Type 0
Parts = MutBor Hasher × (List ℕ × (List ℕ × (ℕ × (ℕ × Unit {0}))))

pub returns-clause-taken : goal.returns-clause-taken
returns-clause-taken c = λ nn m held.
    let s = c.args.self.now in
    let mid = c.if-self-eq-BLOCK_LENGTH.self in
    let n = c.min-taken.result in
    let d : List ℕ = take n c.args.bytes.now in
    let ld : length d ≡ n = length-take-le n c.args.bytes.now (omega arith) in
    let copied = c.copy_from_slice.ensures.after in
    let count : (s.count + n) % 2 ^ 128 ≡ (s.count + length d) % 2 ^ 128 = rw ld refl in
    elim c.if-self-eq-BLOCK_LENGTH.branch [
      | then-self-eq-BLOCK_LENGTH w ↦
          let state : mid.1.0 ≡ w.compress_bytes.new.state = ap (λ (p : Parts). p.1.0) w.self-is in
          let used : mid.1.1.1.0 ≡ 0 = ap (λ (p : Parts). p.1.1.1.0) w.self-is in
          let buffer : mid.1.1.0 ≡ s.buffer = ap (λ (p : Parts). p.1.1.0) w.self-is in
          Holds_next nn m d s _ held (omega arith) w.if-self-eq-BLOCK_LENGTH.true (omega arith) (omega arith) (omega arith) count
          (state ∙ w.compress_bytes.ensures)
          (take-put_mid mid.1.1.1.0 _ mid.1.1.0 c.copy_from_slice.new.to (mid.1.1.1.0 + n) (rw copied (omega arith))
          (omega arith) ∙ rw (used, copied) refl)
      | else-self-eq-BLOCK_LENGTH w ↦
          let state : mid.1.0 ≡ s.state = ap (λ (p : Parts). p.1.0) w.self-is in
          let used : mid.1.1.1.0 ≡ s.used = ap (λ (p : Parts). p.1.1.1.0) w.self-is in
          let buffer : mid.1.1.0 ≡ s.buffer = ap (λ (p : Parts). p.1.1.0) w.self-is in
          Holds_more nn m d s _ held (omega arith) (omega arith) (omega arith) (omega arith) count
          state
          (take-put_mid mid.1.1.1.0 _ mid.1.1.0 c.copy_from_slice.new.to (mid.1.1.1.0 + n) (rw copied (omega arith))
          (omega (arith, ap length buffer)) ∙ rw (used, buffer, copied) refl)
    ]
