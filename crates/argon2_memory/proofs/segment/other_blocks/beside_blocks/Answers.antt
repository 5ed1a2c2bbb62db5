use Rattle.std.proofs.Common.{ℕ, List}
use Rattle.std.specs.Borrow.{Bor}
use Rattle.argon2_memory.specs.Views.Filling.{slice_of_blocks}
use Rattle.argon2_memory.proofs.Slices.{around}
use Rattle.argon2_memory.proofs.segment.other_blocks.beside_blocks.Goals as goal

pub invariant_of-result : goal.invariant_of-result
invariant_of-result c =
    let made = c.with_stand_in.ensures in
    around (λ (o : Bor (List (List ℕ))). slice_of_blocks c.args.job.setting o.now) c.args.job c.args.others c.with_stand_in.result c.requires made.count
    (rw c.slice-slice.ensures.value at made.removed) (rw c.slice-slice.ensures.value at made.stand_in)
