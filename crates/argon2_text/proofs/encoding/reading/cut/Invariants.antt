use Rattle.std.proofs.Common.{◌≡◌, ℕ, ◌<◌, get_or}
use Rattle.argon2_text.proofs.encoding.reading.cut.Given as goal

-- no byte before index `at` is the mark
abbrev pub invariant-loop-at : goal.invariant-loop-at
invariant-loop-at l = (k : ℕ) → k < l.at → get_or l.text k 0 ≡ l.mark → ⊥
