use Rattle.std.proofs.Common.{◌≡◌, ℕ, ◌+◌, List, length, arith, ap, ◌∙◌}
use Rattle.argon2_memory.specs.Views.Places.{blocks_of_lane}
use Rattle.argon2_fill.proofs.CallerBlocks.{pair-is, pair-stays, pair-next, next-was}
use Rattle.argon2_fill.proofs.caller_blocks.fill_pair.Goals as goal

pub returns-clause-other_filled : goal.returns-clause-other_filled
returns-clause-other_filled g c given ready =
    let q = c.requires in
    let s = c.args.job.now.setting in
    let cut = c.first_and_others-before in
    let part = c.first_and_others-own in
    let next = c.first_and_others-other in
    let len = c.segment_length-length.ensures.value in
    let place = c.place_of_lane.ensures.value in
    let own : length c.fill_caller_pair.new.own ≡ s.segment_length = omega (arith, part.ensures.first_count, len) in
    let other : length c.fill_caller_pair.new.other ≡ s.segment_length = omega (arith, next.ensures.first_count, len) in
    let old = c.args.slice.now in
    let was = next.ensures.first ∙ next-was s old c.args.lane q.slice_fits q.lanes_fit c.fill_caller_pair.new.own c.fill_caller_pair.new.other own other
    cut.result.1.now part.result.1.now c.place_of_lane.result c.segment_length-length.result part.ensures.others cut.ensures.others place len in
    let fills = rw was at c.fill_caller_pair.ensures.other_filled in
    ap (λ (b : List (List ℕ)). blocks_of_lane s b (c.args.lane + 1)) (pair-is s old c.args.lane q.slice_fits q.lanes_fit c.fill_caller_pair.new.own
    c.fill_caller_pair.new.other own other cut.result.0.now next.result.1.now cut.result.1.now part.result.1.now c.place_of_lane.result
    c.segment_length-length.result cut.ensures.first next.ensures.others part.ensures.others cut.ensures.others place len)
    ∙ pair-next s old c.args.lane q.slice_fits q.lanes_fit c.fill_caller_pair.new.own c.fill_caller_pair.new.other own other
    ∙ fills given ready

pub returns-clause-others : goal.returns-clause-others
returns-clause-others g c l h ne ne' =
    let q = c.requires in
    let s = c.args.job.now.setting in
    let cut = c.first_and_others-before in
    let part = c.first_and_others-own in
    let next = c.first_and_others-other in
    let len = c.segment_length-length.ensures.value in
    let place = c.place_of_lane.ensures.value in
    let own : length c.fill_caller_pair.new.own ≡ s.segment_length = omega (arith, part.ensures.first_count, len) in
    let other : length c.fill_caller_pair.new.other ≡ s.segment_length = omega (arith, next.ensures.first_count, len) in
    let old = c.args.slice.now in
    ap (λ (b : List (List ℕ)). blocks_of_lane s b l) (pair-is s old c.args.lane q.slice_fits q.lanes_fit c.fill_caller_pair.new.own
    c.fill_caller_pair.new.other own other cut.result.0.now next.result.1.now cut.result.1.now part.result.1.now c.place_of_lane.result
    c.segment_length-length.result cut.ensures.first next.ensures.others part.ensures.others cut.ensures.others place len)
    ∙ pair-stays s old c.args.lane q.slice_fits q.lanes_fit c.fill_caller_pair.new.own c.fill_caller_pair.new.other own other l h ne ne'
