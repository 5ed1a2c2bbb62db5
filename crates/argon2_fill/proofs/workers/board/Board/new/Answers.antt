use Rattle.std.proofs.Common.{arith, ◌≡◌, ◌*◌, map, refl, ◌∙◌, ap}
use Rattle.std.specs.List.{sum_by}
use Rattle.argon2_fill.specs.Views.Boards.{events_left, place_in}
use Rattle.argon2_fill.proofs.Boards.{lanes-new, none_out-waiting, waiting-all, waiting-left}
use Rattle.argon2_fill.proofs.workers.board.Board.new.Goals as goal

pub invariant_of-result : goal.invariant_of-result
invariant_of-result c =
    let p = c.args.job.setting.lanes in
    let lanes = c.requires.ready.lanes in
    let places = waiting-all p c.args.segments.items lanes in
    let left : sum_by events_left (map place_in c.in_ok-slots.slots.items) ≡ 2 * p =
    ap (λ s. sum_by events_left (map place_in s)) c.in_ok-slots.ensures ∙ ap (sum_by events_left) places ∙ waiting-left p in
    let long = c.args.segments.ok.0 in
    let log = c.in_ok-log.ensures.len in
    let room = c.in_ok-log.ensures.capacity in
    let n = c.len-lanes.ensures in
    let finished = c.in_ok-finished.ensures.capacity in
    record {
      kept = rw c.in_ok-log.ensures.items (lanes-new c.args.job c.args.segments.items c.in_ok-slots.slots.items c.in_ok-slots.ensures c.requires.ready);
      log_room = omega arith;
      finished_room = omega arith;
      finished_empty = c.in_ok-finished.ensures.items;
      finished_none = c.in_ok-finished.ensures.len;
    }

pub returns-clause-board : goal.returns-clause-board
returns-clause-board c =
    rw (c.in_ok-slots.ensures, waiting-all c.args.job.setting.lanes c.args.segments.items c.requires.ready.lanes, c.in_ok-log.ensures.items) refl

pub returns-clause-none_out : goal.returns-clause-none_out
returns-clause-none_out c =
    rw (c.in_ok-slots.ensures, waiting-all c.args.job.setting.lanes c.args.segments.items c.requires.ready.lanes) (none_out-waiting c.args.job.setting.lanes)
