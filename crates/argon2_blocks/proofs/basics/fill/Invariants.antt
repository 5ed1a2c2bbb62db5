use Rattle.std.proofs.Common.{length, ◌≡◌, replicate, take}
use Rattle.argon2_blocks.proofs.basics.fill.Given as goal

abbrev pub invariant-loop-i : goal.invariant-loop-i
invariant-loop-i g l = (take l.i l.items ≡ replicate l.i l.value) × (length l.items ≡ length l.initial.items)
