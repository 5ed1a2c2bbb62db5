use Rattle.std.proofs.Common.{arith, ◌≡◌, ◌≢◌, inl, inr, ◌++◌, ◌∷◌, [], List, length, map, refl, sym, ◌∙◌, ap, append_assoc}
use Rattle.std.proofs.lemmas.Grind.{common_steps}
use Rattle.argon2_memory.specs.Standard.Kept.{SegmentValue}
use Rattle.std.proofs.lemmas.List.{map-append}
use Rattle.argon2_fill.specs.declared.workers.board.Slot.{Slot}
use Rattle.argon2_fill.specs.declared.workers.board.Slot.TheVariants as slot
use Rattle.argon2_fill.specs.declared.workers.board.Place.TheVariants as place
use Rattle.argon2_fill.specs.Views.Boards.{place_in}
use Rattle.argon2_fill.proofs.Boards.{not-all-done, all-done, hold-slice}
use Rattle.argon2_fill.proofs.workers.board.Board.finish.Goals as goal

-- if no slot follows the done slots of xs, the slots are exactly the done slots of xs
at-end : (xs : List SegmentValue) (rest slots : List Slot) → map slot.Done xs ++ rest ≡ slots → length rest ≡ 0 → map slot.Done xs ≡ slots
at-end xs [] slots is none = grind (arith, common_steps)
at-end xs (s ∷ rest) slots is none = absurd (omega arith)

pub loop-slot-init : goal.loop-slot-init
loop-slot-init c = (tt, tt, rw c.self.invariant.finished_empty refl, (let e = c.self.invariant.finished_none in omega arith), omega arith)

pub push_reserved-requires : goal.push_reserved-requires
push_reserved-requires c =
    let i = c.loop-slot.invariant in
    let e = ap length c.in-Some.ensures.steps.0 in
    let d = ap length c.into_iter-slot-iterator.ensures.into_iter_gives.0 in
    let r = c.self.invariant.finished_room in
    let l = c.self.invariant.kept.lanes in
    omega (arith, i.3, i.4)

pub loop-slot-preserved : goal.loop-slot-preserved
loop-slot-preserved c =
    let i = c.loop-slot.invariant in
    let e = ap length c.in-Some.ensures.steps.0 in (
      tt,
      tt,
      rw (c.push_reserved.ensures.items, map-append, append_assoc, ← c.in-Done.is, ← c.in-Some.ensures.steps.0) i.2,
      omega (arith, i.3),
      omega (arith, i.4),
    )

pub returns-in-Waiting : goal.returns-in-Waiting
returns-in-Waiting c =
    let i = c.loop-slot.invariant in
    let is = rw c.in-Some.ensures.steps.0 at i.2 in
    let other : place_in c.in-Some.slot ≢ place.Done = elim c.in-Waiting.is [
      | inl waits ↦ (λ done. let e : place_in c.in-Some.slot ≡ place.Waiting = ap place_in waits.1 in cc)
      | inr out ↦ (λ done. let e : place_in c.in-Some.slot ≡ place.Out = ap place_in out in cc)
    ] in
    record {
      exact = rw (← c.self.view_is) (
        (λ f. cc),
        (λ all.
            absurd (not-all-done c.loop-slot.finished.items c.in-Some.slot c.next.new.self.rest.items c.self.inside.slots.items
            (is ∙ c.into_iter-slot-iterator.ensures.into_iter_gives.0) other all)),
      );
      filled = tt;
      refused = refl;
    }

pub returns-clause-exact : goal.returns-clause-exact
returns-clause-exact c =
    rw (← c.self.view_is) (
      (λ t. all-done c.loop-slot.finished.items c.self.inside.slots.items
          (at-end c.loop-slot.finished.items c.loop-slot.slot-iterator.rest.items c.self.inside.slots.items
          (c.loop-slot.invariant.2 ∙ c.into_iter-slot-iterator.ensures.into_iter_gives.0) (sym c.loop-slot.slot-iterator.rest.ok.0
          ∙ c.in-None.ensures.steps.0))),
      (λ all. refl),
    )

pub returns-clause-filled : goal.returns-clause-filled
returns-clause-filled c =
    rw (← c.self.view_is) (hold-slice c.loop-slot.finished.items c.self.invariant.kept
    (at-end c.loop-slot.finished.items c.loop-slot.slot-iterator.rest.items c.self.inside.slots.items
    (c.loop-slot.invariant.2 ∙ c.into_iter-slot-iterator.ensures.into_iter_gives.0) (sym c.loop-slot.slot-iterator.rest.ok.0 ∙ c.in-None.ensures.steps.0)))
