use Rattle.std.proofs.Common.{[], ◌∷◌, refl, arith}
use Rattle.argon2_fill.proofs.CallerBlocks.{filled_at}
use Rattle.argon2_fill.proofs.caller_blocks.fill_one_of_four.Goals as goal

pub returns-in-0 : goal.returns-in-0
returns-in-0 g c =
    filled_at c.args.job.now c.facts_of_job.ensures (c.args.first.now ∷ c.args.second.now ∷ c.args.third.now ∷ c.args.fourth.now ∷ []) refl 0
    (omega (arith, c.slice.ensures.value, c.in-0.is)) c.fill_caller_slice.new.slice c.fill_caller_slice.ensures

pub returns-in-1 : goal.returns-in-1
returns-in-1 g c =
    filled_at c.args.job.now c.facts_of_job.ensures (c.args.first.now ∷ c.args.second.now ∷ c.args.third.now ∷ c.args.fourth.now ∷ []) refl 1
    (omega (arith, c.slice.ensures.value, c.in-1.is)) c.fill_caller_slice-in-1.new.slice c.fill_caller_slice-in-1.ensures

pub returns-in-2 : goal.returns-in-2
returns-in-2 g c =
    filled_at c.args.job.now c.facts_of_job.ensures (c.args.first.now ∷ c.args.second.now ∷ c.args.third.now ∷ c.args.fourth.now ∷ []) refl 2
    (omega (arith, c.slice.ensures.value, c.in-2.is)) c.fill_caller_slice-in-2.new.slice c.fill_caller_slice-in-2.ensures

pub returns-in_default : goal.returns-in_default
returns-in_default g c =
    filled_at c.args.job.now c.facts_of_job.ensures (c.args.first.now ∷ c.args.second.now ∷ c.args.third.now ∷ c.args.fourth.now ∷ []) refl 3
    (omega (arith, c.slice.ensures.value, c.in_default, c.slice.ensures.fits)) c.fill_caller_slice-in_default.new.slice c.fill_caller_slice-in_default.ensures
