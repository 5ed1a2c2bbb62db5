use Rattle.std.proofs.Common.{◌∙◌, ap, refl, arith, map}
use Rattle.argon2_fill.specs.declared.workers.board.Place.TheVariants as place
use Rattle.argon2_fill.specs.declared.workers.board.Slot.TheVariants as slot
use Rattle.argon2_memory.specs.Views.Jobs.{Job}
use Rattle.argon2_memory.specs.Views.Segments.{segment_at}
use Rattle.argon2_fill.specs.Views.Boards.{place_in}
use Rattle.argon2_fill.proofs.Boards.{left-set, out-read, read-out, place_at, lanes-put, no_other_job, other_job, left-out}
use Rattle.std.proofs.lemmas.List.{map-set}
use Rattle.argon2_fill.proofs.workers.board.Board.put.Goals as goal

pub index-requires : goal.index-requires
index-requires c =
    let lanes = ap (λ (j : Job). j.setting.lanes) (no_other_job c.args.filled.job c.self.inside.job c.if-ne.ensures) in
    omega (arith, lanes, c.args.filled.lane_fits, c.self.invariant.kept.lanes)

pub returns-in_default : goal.returns-in_default
returns-in_default c =
    let same = no_other_job c.args.filled.job c.self.inside.job c.if-ne.ensures in
    record {
      exact = rw (← c.self.view_is) (
        (λ f. cc),
        (λ both. absurd (c.in_default.not-Out (out-read c.args.filled.job c.args.filled.lane c.index.result.now c.self.invariant.kept same
            c.args.filled.lane_fits c.index.ensures both.1))),
      );
      board = tt;
      handed_back = refl;
      unchanged = refl;
    }

pub index_mut-requires : goal.index_mut-requires
index_mut-requires c =
    let lanes = ap (λ (j : Job). j.setting.lanes) (no_other_job c.args.filled.job c.self.inside.job c.if-ne.ensures) in
    omega (arith, lanes, c.args.filled.lane_fits, c.self.invariant.kept.lanes)

pub push_reserved-requires : goal.push_reserved-requires
push_reserved-requires c =
    let same = no_other_job c.args.filled.job c.self.inside.job c.if-ne.ensures in
    let out = read-out c.args.filled.job c.args.filled.lane c.index.result.now c.self.invariant.kept same c.args.filled.lane_fits c.index.ensures c.in-Out.is in
    let one = left-out (map place_in c.self.inside.slots.items) c.args.filled.lane (place_at c.self.inside.slots.items c.args.filled.lane slot.Out out) in
    let room = c.self.invariant.log_room in
    omega arith

pub invariant_of-self : goal.invariant_of-self
invariant_of-self c =
    let same = no_other_job c.args.filled.job c.self.inside.job c.if-ne.ensures in
    let out = read-out c.args.filled.job c.args.filled.lane c.index.result.now c.self.invariant.kept same c.args.filled.lane_fits c.index.ensures c.in-Out.is in
    let left = left-set c.self.inside.slots.items c.args.filled.lane place.Out (slot.Done c.args.filled.segment)
    (place_at c.self.inside.slots.items c.args.filled.lane slot.Out out) in
    let holds = c.args.filled.holds ∙ ap (λ (j : Job). segment_at j.setting j.pass j.slice c.args.filled.lane) same in
    record {
      kept = rw c.push_reserved.ensures.items (lanes-put c.args.filled.lane c.args.filled.segment c.self.invariant.kept out holds);
      log_room = let r = c.self.invariant.log_room in omega arith;
      finished_room = c.self.invariant.finished_room;
      finished_empty = c.self.invariant.finished_empty;
      finished_none = c.self.invariant.finished_none;
    }

pub returns-clause-exact : goal.returns-clause-exact
returns-clause-exact c =
    let same = no_other_job c.args.filled.job c.self.inside.job c.if-ne.ensures in
    let out = read-out c.args.filled.job c.args.filled.lane c.index.result.now c.self.invariant.kept same c.args.filled.lane_fits c.index.ensures c.in-Out.is in
    rw (← c.self.view_is) ((λ t. (same, place_at c.self.inside.slots.items c.args.filled.lane slot.Out out)), (λ h. refl))

pub returns-clause-board : goal.returns-clause-board
returns-clause-board c =
    rw (c.push_reserved.ensures.items, map-set, ← c.self.view_is) refl

pub returns-then-ne-clause-exact : goal.returns-then-ne-clause-exact
returns-then-ne-clause-exact c =
    rw (← c.self.view_is) ((λ f. cc), (λ both. absurd (other_job c.args.filled.job c.self.inside.job c.if-ne.ensures both.0)))
