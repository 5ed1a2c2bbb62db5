use Rattle.std.proofs.Common.{◌≡◌, ℕ, ◌+◌, ◌-◌, ◌*◌, ◌%◌, ◌^◌, List, refl, ap, ◌∙◌}
use Rattle.argon2_memory.specs.Views.Jobs.{setting_of_context, Job}
use Rattle.argon2_standard.specs.Standard.Setting.{memory_blocks}
use Rattle.argon2_memory.specs.Views.Memories.{blocks_written, writes_in}
use Rattle.argon2_memory.specs.Standard.Kept.{HasShape, SegmentValue}
use Rattle.argon2_fill.proofs.Passes.{filled_begun, all_written, holds_last_pass}
use Rattle.argon2_fill.proofs.fill.fill_sequential.Goals as goal

pub fill_slices-requires-clause-begun : goal.fill_slices-requires-clause-begun
fill_slices-requires-clause-begun c =
    let s = setting_of_context c.args.context.now in
    let shape = c.requires.shape in
    rw (c.new-job.ensures.value, c.take_slices-slices.ensures.slices)
    (filled_begun s c.facts_of_context.ensures.setting c.args.memory.now shape (rw
    (shape.lanes, shape.segment_length) at c.take_slices-slices.ensures.memory.slices) c.requires.begun)

pub returns-clause-filled : goal.returns-clause-filled
returns-clause-filled c =
    let s = setting_of_context c.args.context.now in
    let same : c.new-job.result.setting ≡ s = ap (λ (j : Job). j.setting) c.new-job.ensures.value in
    let shape : HasShape s c.memory_of_slices.result = rw (c.memory_of_slices.ensures, c.lanes.ensures.value, c.segment_length.ensures.value, same)
    (record { lanes = refl; segment_length = refl }) in
    holds_last_pass s c.facts_of_context.ensures.setting c.memory_of_slices.result shape (rw c.memory_of_slices.ensures (rw same at c.fill_slices.ensures.filled))

pub returns-clause-writes : goal.returns-clause-writes
returns-clause-writes c =
    let x = c.args.context.now in
    let s = setting_of_context x in
    let known = c.facts_of_context.ensures in
    let same : c.new-job.result.setting ≡ s = ap (λ (j : Job). j.setting) c.new-job.ensures.value in
    let before = writes_in c.args.memory.now.slices in
    rw c.memory_of_slices.ensures
    (rw same at c.fill_slices.ensures.writes
    ∙ ap (λ (l : List (List SegmentValue)). (writes_in l + blocks_written s (4 * s.passes)) % 2 ^ 64) c.take_slices-slices.ensures.slices
    ∙ ap (λ (b : ℕ). (before + b) % 2 ^ 64) (all_written s known.setting)
    ∙ ap (λ (t : ℕ). (before + (t * memory_blocks s - 2 * s.lanes)) % 2 ^ 64) known.passes
    ∙ ap (λ (b : ℕ). (before + (x.config.time_cost * b - 2 * s.lanes)) % 2 ^ 64) known.memory
    ∙ ap (λ (l : ℕ). (before + (x.config.time_cost * x.memory_blocks - 2 * l)) % 2 ^ 64) known.lanes)
