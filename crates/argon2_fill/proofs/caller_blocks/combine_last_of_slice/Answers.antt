use Rattle.std.proofs.Common.{◌≡◌, ℕ, ◌+◌, ◌-◌, ◌*◌, ◌<◌, [], length, get_or, arith, ap, sym, ◌∙◌}
use Rattle.std.proofs.lemmas.List.{get_or_default}
use Rattle.argon2_memory.specs.Views.Places.{blocks_of_lane}
use Rattle.argon2_memory.proofs.Slices.{get-blocks_of_lane}
use Rattle.argon2_fill.proofs.Passes.{combine_more}
use Rattle.argon2_fill.proofs.caller_blocks.combine_last_of_slice.Goals as goal

pub loop-lane-preserved : goal.loop-lane-preserved
loop-lane-preserved c =
    let s = c.args.job.now.setting in
    let slice = c.args.slice.now in
    let lane = c.loop-lane.lane in
    let len = c.segment_length-length.ensures in
    let place = c.place_of_lane.result + (c.segment_length-length.result - 1) in
    let fits : place < length slice = omega (arith, c.place_of_lane.ensures.fits, len.value, len.some, c.requires.slice_fits) in
    let e : place ≡ lane * s.segment_length + (s.segment_length - 1) = omega (arith, c.place_of_lane.ensures.value, len.value) in
    let read : c.index-slice-last.result ≡ get_or (blocks_of_lane s slice lane) (s.segment_length - 1) [] =
    c.index-slice-last.is ∙ get_or_default slice place c.index-slice-last.result [] fits ∙ ap (λ (n : ℕ). get_or slice n []) e
    ∙ sym (get-blocks_of_lane s slice lane (s.segment_length - 1) (omega (arith, len.value, len.some))) in
    combine_more (blocks_of_lane s slice) s.segment_length lane c.loop-lane.out _ c.index-slice-last.result c.loop-lane.invariant read c.bitxor_assign.ensures.words
