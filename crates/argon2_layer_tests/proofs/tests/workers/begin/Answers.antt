use Rattle.argon2_memory.specs.Views.Jobs.{setting_of_context, IsSetting}
use Rattle.argon2_fill.proofs.Passes.{filled_begun}
use Rattle.argon2_layer_tests.proofs.tests.workers.begin.Goals as goal

pub fill_slice_in_turn-requires-clause-ready : goal.fill_slice_in_turn-requires-clause-ready
fill_slice_in_turn-requires-clause-ready c =
    let s = setting_of_context c.in_ok-context.context in
    let good : IsSetting s = rw c.new-job.ensures.value at c.new-job.ensures.job.setting in
    let shape = c.initialize.ensures.shape in
    let slices = rw (shape.lanes, shape.segment_length) at c.take_slices-slices.ensures.memory.slices in
    rw (c.new-job.ensures.value, c.take_slices-slices.ensures.slices) (filled_begun s good c.initialize.new.memory shape slices c.initialize.ensures.begun)
