use Rattle.std.proofs.Common.{◌-◌, arith, ◌∙◌}
use Rattle.argon2_memory.specs.Views.Places.{places_in}
use Rattle.argon2_fill.proofs.Passes.{combine_more, last_of_lane}
use Rattle.argon2_fill.proofs.fill.combine_last_blocks.Goals as goal

pub loop-lane-init : goal.loop-lane-init
loop-lane-init c = c.requires.zero

pub loop-lane-preserved : goal.loop-lane-preserved
loop-lane-preserved c =
    let m = c.args.memory.now in
    let last = last_of_lane m c.loop-lane.lane (c.lane_length-last.result - 1) c.requires.some (omega (arith, c.lane_length-last.ensures.value, c.requires.some)) in
    combine_more (places_in m.slices 3) m.segment_length c.loop-lane.lane c.loop-lane.out _ c.index.result.now c.loop-lane.invariant
    (c.index.ensures ∙ last) c.bitxor_assign.ensures.words
