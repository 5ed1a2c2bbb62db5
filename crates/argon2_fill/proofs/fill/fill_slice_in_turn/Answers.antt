use Rattle.std.proofs.Common.{◌≡◌, ◌*◌, ◌<◌, length, set, get_or, arith, sym, ◌∙◌, ap, List, []}
use Rattle.std.proofs.lemmas.List.{with_items_is}
use Rattle.std.specs.Vec.{with_items}
use Rattle.argon2_memory.specs.Theorems.Schedule.{blocks_in_slice}
use Rattle.argon2_memory.specs.Standard.Kept.{SegmentValue}
use Rattle.argon2_memory.specs.Views.Memories.{segments_of}
use Rattle.argon2_memory.proofs.Slices.{is_snapshot, slices_stay, filled_next, set-writes, others-taken, put_back}
use Rattle.argon2_fill.proofs.fill.fill_slice_in_turn.Goals as goal

pub new-snapshot-requires : goal.new-snapshot-requires
new-snapshot-requires c =
    let j = c.args.job.now in
    let old = segments_of c.args.slices.now in
    let fits : j.slice < length old = omega (arith, c.requires.slices.count, c.slice-slice.ensures) in
    is_snapshot j c.facts_of_job.ensures old c.requires.slices c.requires.ready _
    (c.others.ensures ∙ rw c.slice-slice.ensures.value (others-taken c.args.slices.now c.take_slice-segments.new.slices j.slice
    (rw c.slice-slice.ensures.value at c.take_slice-segments.ensures.left) fits))

pub returns : goal.returns
returns c =
    let j = c.args.job.now in
    let old = segments_of c.args.slices.now in
    let k = c.slice-slice.result in
    let same = c.slice-slice.ensures.value in
    let good = c.facts_of_job.ensures in
    let segments = c.take_slice-segments.result in
    let new = c.fill_lanes.new.segments in
    let given : c.deref_mut.result.now ≡ get_or old j.slice [] =
    c.deref_mut.ensures.value ∙ c.take_slice-segments.ensures.taken ∙ ap (λ n. get_or old n []) same in
    let length-new : length new ≡ length segments.items = c.fill_lanes.auto.segments ∙ ap (λ (l : List SegmentValue). length l) c.deref_mut.ensures.value in
    let fits : j.slice < length old = omega (arith, c.requires.slices.count, c.slice-slice.ensures) in
    let lanes : length new ≡ j.setting.lanes =
    c.fill_lanes.auto.segments ∙ ap (λ (l : List SegmentValue). length l) given ∙ c.requires.slices.lanes j.slice (omega (arith, c.slice-slice.ensures)) in
    let back = put_back c.args.slices.now c.take_slice-segments.new.slices k c.take_slice-segments.ensures.left (with_items segments new) new
    (with_items_is segments new (length-new ∙ sym segments.ok.0)) ∙ ap (λ n. set old n new) same in
    let filled = rw c.new-snapshot.ensures at c.fill_lanes.ensures.filled in
    let writes = rw (c.new-snapshot.ensures, given) at c.fill_lanes.ensures.writes in
    record {
      slices = rw back (slices_stay j good old c.requires.slices c.requires.ready new lanes filled);
      filled = rw back (filled_next j good old c.requires.slices c.requires.ready new lanes filled);
      writes = rw back (set-writes old j.slice (j.setting.lanes * blocks_in_slice j.setting j.pass j.slice) new fits writes);
    }
