use Rattle.std.proofs.Common.{◌≡◌, [], subst, ap, sym, ◌∙◌, refl, set}
use Rattle.argon2_fill.specs.Views.Boards.{HoldSlice}
use Rattle.argon2_memory.specs.Views.Filling.{SnapshotValue}
use Rattle.argon2_memory.specs.Views.Jobs.{Job}
use Rattle.argon2_memory.specs.Views.Memories.{segments_of}
use Rattle.argon2_memory.proofs.Slices.{slices_stay, filled_next, put_back}
use Rattle.argon2_fill.proofs.workers.fill_slice_by_workers.Goals as goal

pub returns : goal.returns
returns g c =
    let j = c.args.job.now in
    let old = segments_of c.args.slices.now in
    let finished = c.in_ok-slices.field-0 in
    let good = c.in_ok-board.ensures.snapshot.beside.job in
    let same : c.in_ok-board-2.board.job ≡ j = c.in_ok-board-2.ensures.job ∙ ap (λ (v : SnapshotValue). v.job) c.new-snapshot.ensures in
    let P : Job → Type 0 = λ k. HoldSlice k finished.items in
    let holds = subst P same c.in_ok-slices.ensures.filled in
    let left = c.in_ok-board.ensures.left ∙ ap (λ n. set old n []) (sym c.slice-slice.ensures.value) in
    let back = put_back c.args.slices.now c.board_of.new.slices c.slice-slice.result left finished finished.items refl
    ∙ ap (λ n. set old n finished.items) c.slice-slice.ensures.value in
    record {
      slices = rw back (slices_stay j good old c.requires.slices c.requires.ready finished.items holds.lanes holds.each);
      filled = rw back (filled_next j good old c.requires.slices c.requires.ready finished.items holds.lanes holds.each);
      permitted = c.in_ok-board-2.ensures.permitted;
      refused = tt;
    }
