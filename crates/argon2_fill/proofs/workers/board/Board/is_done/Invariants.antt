use Rattle.std.proofs.Common.{◌≡◌, ◌<◌, ℕ, Some, length, slice_get}
use Rattle.argon2_fill.specs.declared.workers.board.Place.TheVariants.{Done}
use Rattle.argon2_fill.proofs.workers.board.Board.is_done.Given as goal

abbrev pub invariant-loop-lane : goal.invariant-loop-lane
invariant-loop-lane l =
    (l.self ≡ l.fn.self) × (l.lane-end ≡ length l.self.places)
    × ((k : ℕ) → k < l.lane → slice_get l.self.places k ≡ Some Done)
