use Rattle.std.proofs.Common.{length, ◌≡◌, take}
use Rattle.argon2_blocks.proofs.basics.copy_from_slice.Given as goal

abbrev pub invariant-loop-i : goal.invariant-loop-i
invariant-loop-i g l = (take l.i l.to ≡ take l.i l.from) × (length l.to ≡ length l.initial.to)
