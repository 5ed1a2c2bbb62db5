use Rattle.std.proofs.Common.{length, take}
use Rattle.std.specs.List.{flat_map}
use Rattle.argon2_blocks.specs.Views.HasherView.{Holds}
use Rattle.argon2_blocks.proofs.blake2b.blake2b.Given as goal

abbrev pub invariant-loop-i : goal.invariant-loop-i
invariant-loop-i l = Holds (length l.out) (flat_map (λ piece. piece.now) (take l.i l.input)) l.hasher
