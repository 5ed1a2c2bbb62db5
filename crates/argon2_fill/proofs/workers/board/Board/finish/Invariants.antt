use Rattle.std.proofs.Common.{◌≡◌, ◌+◌, ◌≤◌, ◌++◌, vec_len, length, vec_capacity, map}
use Rattle.argon2_fill.specs.declared.workers.board.Slot.TheVariants as slot
use Rattle.argon2_fill.proofs.workers.board.Board.finish.Given as goal

abbrev pub invariant-loop-slot : goal.invariant-loop-slot
invariant-loop-slot l =
    (goal.iterator-loop-slot).can_next l.slot-iterator ×
    (goal.iterator-loop-slot).is_finite l.slot-iterator ×
    (map (λ s. slot.Done s) l.finished.items ++ l.slot-iterator.rest.items ≡ l.initial.slot-iterator.rest.items) ×
    (vec_len l.finished + length l.slot-iterator.rest.items ≡ length l.initial.slot-iterator.rest.items) ×
    (vec_capacity l.initial.finished ≤ vec_capacity l.finished)
