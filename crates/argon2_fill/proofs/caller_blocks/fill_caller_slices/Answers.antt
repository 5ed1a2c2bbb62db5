use Rattle.std.proofs.Common.{◌≡◌, ◌*◌, ◌/◌, ◌%◌, [], ◌∷◌, arith}
use Rattle.argon2_memory.specs.Views.Places.{places_of_slices}
use Rattle.argon2_fill.proofs.Passes.{last_slices, next_slice}
use Rattle.argon2_fill.proofs.caller_blocks.fill_caller_slices.Goals as goal

pub loop-n-preserved : goal.loop-n-preserved
loop-n-preserved g c = λ begun.
    let step = rw c.numbered_job.ensures at c.fill_one_of_four.ensures in
    next_slice c.args.job.now.setting c.loop-n.n _ (step (c.loop-n.invariant begun))

pub returns : goal.returns
returns g c = λ begun k below.
    let s = c.args.job.now.setting in
    let whole : c.loop-n.n ≡ 4 * s.passes = omega arith in
    let pass : c.loop-n.n / 4 ≡ s.passes = omega (arith, whole) in
    let slice : c.loop-n.n % 4 ≡ 0 = omega (arith, whole) in
    last_slices s c.facts_of_job.ensures.setting (places_of_slices s (c.loop-n.first ∷ c.loop-n.second ∷ c.loop-n.third ∷ c.loop-n.fourth ∷ []))
    (rw (pass, slice) at (c.loop-n.invariant begun)) k below
