use Rattle.std.proofs.Common.{◌≡◌, ℕ, ◌*◌, List, Ok, Err, subst, sym}
use Rattle.argon2_standard.specs.Standard.Tag.{tag_of}
use Rattle.argon2_c.specs.Jobs.{setting_of_job}
use Rattle.argon2_c.specs.Steps.{Finishes, Verifies}
use Rattle.argon2_c.specs.CallerBlocks.{HashesJob, JudgesJob, BlocksAndTag}
use Rattle.argon2_c.specs.Runs.{IsMade, IsRun, slice_at}
use Rattle.argon2_c.specs.declared.jobs.CallerJob.{CallerJob}
use Rattle.argon2_c.specs.declared.errors.CallError.TheVariants.{Mismatch}
use Rattle.argon2_c.proofs.Runs.{called_match, called_mismatch, called_tag, made_match, made_mismatch, made_tag}
use Rattle.argon2_c.proofs.Driver.{every_team_gives_the_tag, every_team_gives_the_verdict, no_thread_works_after_the_end, every_job_can_be_filled, every_call_returns}
use Rattle.argon2_c.proofs.job_calls.any_order_of_steps.Goals as goal

pub returns-clause-tag : goal.returns-clause-tag
returns-clause-tag c pwd salt config len job slices from run =
    let Gives : CallerJob → Type 0 = λ j. IsMade pwd salt config len j → IsRun j slices → (old new : List ℕ)
    → Finishes (setting_of_job j) j.hash_length (slice_at (slices (4 * j.passes)) 3) old new (Ok tt) → new ≡ tag_of pwd salt config len in
    subst Gives (sym from.made) (λ from run. made_tag pwd salt config len from slices run) from run

pub returns-clause-verdict : goal.returns-clause-verdict
returns-clause-verdict c pwd salt config len job slices from run =
    let Gives : CallerJob → Type 0 = λ j. IsMade pwd salt config len j → IsRun j slices → (hash old new : List ℕ)
    → (Verifies (setting_of_job j) j.hash_length (slice_at (slices (4 * j.passes)) 3) hash old new (Ok tt) → hash ≡ tag_of pwd salt config len)
    × (Verifies (setting_of_job j) j.hash_length (slice_at (slices (4 * j.passes)) 3) hash old new (Err Mismatch) → hash ≡ tag_of pwd salt config len → ⊥) in
    subst Gives (sym from.made) (λ from run hash old new.
    (made_match pwd salt config len from slices run hash old new, made_mismatch pwd salt config len from slices run hash old new)) from run

pub returns-clause-one_call : goal.returns-clause-one_call
returns-clause-one_call c pwd salt config len job from =
    let Gives : CallerJob → Type 0 = λ j. IsMade pwd salt config len j → (old new : BlocksAndTag)
    → HashesJob (setting_of_job j) j.hash_length old new (Ok tt) → new.tag ≡ tag_of pwd salt config len in
    subst Gives (sym from.made) (called_tag pwd salt config len) from

pub returns-clause-one_call_verdict : goal.returns-clause-one_call_verdict
returns-clause-one_call_verdict c pwd salt config len job from =
    let Gives : CallerJob → Type 0 = λ j. IsMade pwd salt config len j → (hash : List ℕ) (old new : BlocksAndTag)
    → (JudgesJob (setting_of_job j) j.hash_length hash old new (Ok tt) → hash ≡ tag_of pwd salt config len)
    × (JudgesJob (setting_of_job j) j.hash_length hash old new (Err Mismatch) → hash ≡ tag_of pwd salt config len → ⊥) in
    subst Gives (sym from.made) (λ from hash old new.
    (called_match pwd salt config len from hash old new, called_mismatch pwd salt config len from hash old new)) from

pub returns-clause-team : goal.returns-clause-team
returns-clause-team c = every_team_gives_the_tag

pub returns-clause-team_verdict : goal.returns-clause-team_verdict
returns-clause-team_verdict c = every_team_gives_the_verdict

pub returns-clause-team_end : goal.returns-clause-team_end
returns-clause-team_end c = no_thread_works_after_the_end

pub returns-clause-team_fills : goal.returns-clause-team_fills
returns-clause-team_fills c = every_job_can_be_filled

pub returns-clause-team_returns : goal.returns-clause-team_returns
returns-clause-team_returns c = every_call_returns
