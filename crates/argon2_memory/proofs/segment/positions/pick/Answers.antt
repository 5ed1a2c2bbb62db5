use Rattle.std.proofs.Common.{ℕ, Bool, sym, ◌∙◌, ap}
use Rattle.argon2_memory.specs.Views.References.{reference_set_column, reference_set_size}
use Rattle.argon2_standard.specs.Standard.Reference.{relative_position}
use Rattle.argon2_memory.proofs.ReferenceSets.{pick-is}
use Rattle.argon2_memory.proofs.segment.positions.pick.Goals as goal

pub returns : goal.returns
returns c =
    let q = c.requires in let d = c.drawn_lane-chosen in
    let counted = c.reference_set_size-size.ensures.value ∙ ap (λ (is_own : Bool). reference_set_size c.args.job.now is_own c.args.index) d.ensures.own in
    let place = c.relative_position-position.ensures.value ∙ ap (λ (n : ℕ). relative_position n c.args.word) counted in
    sym (pick-is c.args.job.now d.ensures.job c.args.lane c.args.index c.args.word q.lane_fits q.index_fits q.later d.result.0
    (d.ensures.value c.args.index q.index_fits)
    ∙ ap (λ (column : ℕ). (d.result.0, column)) (sym (c.reference_set_column.ensures ∙ ap (λ (n : ℕ). reference_set_column c.args.job.now n) place)))
