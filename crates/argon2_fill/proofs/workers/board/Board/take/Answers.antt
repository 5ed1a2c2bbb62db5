use Rattle.std.proofs.Common.{◌≡◌, sym, ◌∙◌, ap, refl, arith, subst, map, inl, inr}
use Rattle.std.proofs.lemmas.List.{map-set}
use Rattle.argon2_fill.specs.declared.workers.board.Place.TheVariants as place
use Rattle.argon2_fill.specs.declared.workers.board.Slot.{Slot}
use Rattle.argon2_fill.specs.declared.workers.board.Slot.TheVariants as slot
use Rattle.argon2_fill.specs.Views.Boards.{place_in, IsSlot}
use Rattle.argon2_fill.proofs.Boards.{lanes-least, lanes-more, lanes-none, lanes-take, lanes-waiting, left-set, left-waiting}
use Rattle.argon2_fill.proofs.workers.board.Board.take.Goals as goal

pub returns-then-self-lanes-clause-none : goal.returns-then-self-lanes-clause-none
returns-then-self-lanes-clause-none c = rw (← c.self.view_is) (lanes-none c.self.invariant.kept (c.if-self-lanes.true ∙ c.lanes.ensures.value))

pub push_reserved-requires : goal.push_reserved-requires
push_reserved-requires c =
    let more = lanes-more c.lanes.result c.self.invariant.kept c.lanes.ensures.value c.if-self-lanes.false in
    let two = left-waiting (map place_in c.self.inside.slots.items) c.self.inside.next (c.self.invariant.kept.waits c.self.inside.next (omega arith) more) in
    let room = c.self.invariant.log_room in
    omega arith

pub returns-clause-lane : goal.returns-clause-lane
returns-clause-lane c =
    let more = lanes-more c.lanes.result c.self.invariant.kept c.lanes.ensures.value c.if-self-lanes.false in
    rw (← c.self.view_is) (lanes-least c.self.invariant.kept more)

pub invariant_of-result : goal.invariant_of-result
invariant_of-result c =
    let more = lanes-more c.lanes.result c.self.invariant.kept c.lanes.ensures.value c.if-self-lanes.false in
    let t = c.index_mut.result.now in
    let both = lanes-waiting t c.self.invariant.kept more c.index_mut.ensures.value in
    let e : t ≡ slot.Waiting c.in-Waiting.segment = sym c.replace.ensures.value ∙ c.in-Waiting.is in
    let P : Slot → Type 0 = λ u. IsSlot c.self.inside.job c.self.inside.next u in
    record { lane_fits = more; ready = subst P e both.1 }

pub invariant_of-self : goal.invariant_of-self
invariant_of-self c =
    let more = lanes-more c.lanes.result c.self.invariant.kept c.lanes.ensures.value c.if-self-lanes.false in
    let waiting = c.self.invariant.kept.waits c.self.inside.next (omega arith) more in
    let left = left-set c.self.inside.slots.items c.self.inside.next place.Waiting slot.Out waiting in
    record {
      kept = rw (c.replace.ensures.after, c.push_reserved.ensures.items) (lanes-take c.self.invariant.kept more);
      log_room = rw c.replace.ensures.after (let r = c.self.invariant.log_room in omega arith);
      finished_room = c.self.invariant.finished_room;
      finished_empty = c.self.invariant.finished_empty;
      finished_none = c.self.invariant.finished_none;
    }

pub unreachable-requires : goal.unreachable-requires
unreachable-requires c =
    let more = lanes-more c.lanes.result c.self.invariant.kept c.lanes.ensures.value c.if-self-lanes.false in
    let both = lanes-waiting c.index_mut.result.now c.self.invariant.kept more c.index_mut.ensures.value in
    let here : place_in c.replace.result ≡ place.Waiting = ap place_in c.replace.ensures.value ∙ both.0 in
    elim c.in-Out.is [
      | inl out ↦ (let e : place_in c.replace.result ≡ place.Out = ap place_in out in cc)
      | inr done ↦ (let e : place_in c.replace.result ≡ place.Done = ap place_in done.1 in cc)
    ]

pub returns-clause-board : goal.returns-clause-board
returns-clause-board c =
    rw (c.replace.ensures.after, c.push_reserved.ensures.items, map-set, ← c.self.view_is) refl

pub index_mut-requires : goal.index_mut-requires
index_mut-requires c =
    let more = lanes-more c.lanes.result c.self.invariant.kept c.lanes.ensures.value c.if-self-lanes.false in
    omega (arith, more, c.self.invariant.kept.lanes)

pub overflow_add-self : goal.overflow_add-self
overflow_add-self c =
    let more = lanes-more c.lanes.result c.self.invariant.kept c.lanes.ensures.value c.if-self-lanes.false in
    omega (arith, more, c.lanes.ensures.value)
