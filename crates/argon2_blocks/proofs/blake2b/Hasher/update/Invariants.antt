use Rattle.std.proofs.Common.{ℕ, List, length, ◌-◌, ◌≤◌, ◌++◌, take}
use Rattle.argon2_blocks.specs.Views.HasherView.{Holds}
use Rattle.argon2_blocks.proofs.blake2b.Hasher.update.Given as goal

abbrev pub invariant-loop-start : goal.invariant-loop-start
invariant-loop-start l = (l.start ≤ length l.bytes)
    × ((nn : ℕ) (m : List ℕ) → Holds nn m l.fn.self → Holds nn (m ++ take l.start l.bytes) l.self)

abbrev pub decreases-loop-start : goal.decreases-loop-start
decreases-loop-start l = length l.bytes - l.start
