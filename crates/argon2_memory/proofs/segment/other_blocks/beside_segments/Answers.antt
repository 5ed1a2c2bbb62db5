use Rattle.std.proofs.Common.{List, map, ap, sym, ◌∙◌}
use Rattle.std.specs.Borrow.{Bor}
use Rattle.argon2_memory.specs.Standard.Kept.{SegmentValue}
use Rattle.argon2_memory.specs.Views.Filling.{SnapshotValue}
use Rattle.argon2_memory.proofs.Slices.{around, map-remove}
use Rattle.argon2_memory.proofs.segment.other_blocks.beside_segments.Goals as goal

abbrev segments : Bor (List SegmentValue) → List SegmentValue
segments o = o.now

pub invariant_of-result : goal.invariant_of-result
invariant_of-result c =
    let made = c.with_stand_in.ensures in
    around segments c.args.job c.args.others c.with_stand_in.result c.requires made.count
    (rw c.slice-slice.ensures.value at made.removed) (rw c.slice-slice.ensures.value at made.stand_in)

pub returns : goal.returns
returns c =
    let seen : List (List SegmentValue) → SnapshotValue = λ others. record { job = c.args.job; others = others } in
    ap seen (sym (map-remove segments c.with_stand_in.result c.args.job.slice)
    ∙ ap (λ (l : List (Bor (List SegmentValue))). map segments l) (rw c.slice-slice.ensures.value at c.with_stand_in.ensures.removed))
