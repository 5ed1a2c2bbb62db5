use Rattle.std.proofs.Common.{length, ◌≡◌, replicate, take}
use Rattle.argon2_blocks.proofs.blake2b.+wipe.Given as goal

abbrev pub decreases-wipe : goal.decreases-wipe
decreases-wipe g l = length l.items.now

-- the first i elements are overwritten with `zero`, and the length is the initial length
abbrev pub invariant-loop-i : goal.invariant-loop-i
invariant-loop-i g l = (take l.i l.items ≡ replicate l.i l.zero) × (length l.items ≡ length l.initial.items)
