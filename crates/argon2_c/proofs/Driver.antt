-- The team of the C driver makes a run of the steps.
use Rattle.std.proofs.Common.{◌≡◌, ℕ, zero, suc, ◌-◌, ◌*◌, ◌%◌, ◌<◌, ◌≤◌, true, List, length, Ok, Err, refl, sym, ◌∙◌, subst, ap, arith}
use Rattle.std.proofs.Common.{mul-lt-mul_of_pos_right}
use Rattle.std.proofs.lemmas.Nat.{row-Below}
use Rattle.argon2_standard.specs.Standard.Tag.{tag_of}
use Rattle.argon2_standard.specs.Standard.Prehash.{setting_of}
use Rattle.argon2_c.specs.Jobs.{job_of, setting_of_job}
use Rattle.argon2_c.specs.Steps.{Finishes, Verifies}
use Rattle.argon2_c.specs.Runs.{IsMade, IsRun, slice_at}
use Rattle.argon2_c.specs.Team.{IsApart, IsStep, Team}
use Rattle.argon2_c.specs.Threads.{HasReturned, IsReached, Threads}
use Rattle.argon2_c.specs.Driver.{EveryTeamGivesTheTag, EveryTeamGivesTheVerdict, NoThreadWorksAfterTheEnd, EveryJobCanBeFilled, EveryCallReturns, IsFilled, KeepsSlices, FillsSegment, segment_in_step, work_of}
use Rattle.argon2_c.specs.declared.jobs.CallerJob.{CallerJob}
use Rattle.argon2_c.specs.declared.errors.CallError.TheVariants.{Mismatch}
use Rattle.argon2_c.proofs.JobNumbers.{accepted_hash, recovered, setting_that_fits}
use Rattle.argon2_c.proofs.Runs.{made_match, made_mismatch, made_tag, same_at}
use Rattle.argon2_c.proofs.Team.{every_step_is_whole, nobody_works_after_the_end}
use Rattle.argon2_c.proofs.Finishing.{a_call_can_finish}
use Rattle.argon2_c.proofs.Fillings.{AreSlices, job_can_fill}
use Rattle.argon2_c.proofs.Threads.{all_threads_end, some_thread_can_go_on, threads_are_a_team}
use Rattle.argon2_c.proofs.Endings.{every_run_ends}

module _ (job : CallerJob) (tasks : ℕ) (some : 0 < tasks) where
  seen : (n l : ℕ) (before middle : List (List (List ℕ))) (old new : List (List ℕ)) → KeepsSlices n before middle
      → FillsSegment job n l middle old new → FillsSegment job n l before old new
  seen zero l before middle old new keeps fills = fills
  seen (suc n) l before middle old new keeps fills = rw (sym keeps.others) fills

  pub apart : IsApart (work_of job tasks)
  apart = record {
    workers = λ l fits. (row-Below (l * tasks) job.lanes job.lanes tasks (mul-lt-mul_of_pos_right fits some) (omega arith)).1;
    none = λ n m. record { others = refl; four = refl; long = λ k. refl };
    further = λ n one two three first second. record {
      others = second.others ∙ first.others;
      four = second.four ∙ first.four;
      long = λ k. second.long k ∙ first.long k;
    };
    seen = seen;
  }

module _ (job : CallerJob) (tasks : ℕ) (s : Team (work_of job tasks)) (filled : IsFilled job tasks s) where
  abbrev last : ℕ
  last = 4 * job.passes

  whole : (n : ℕ) → n < s.step → IsStep (work_of job tasks) n (s.before n) (s.before (suc n))
  whole = (every_step_is_whole (work_of job tasks) (apart job tasks filled.some) s filled.reached).0

  rest : s.memory ≡ s.before (suc last)
  rest = (every_step_is_whole (work_of job tasks) (apart job tasks filled.some) s filled.reached).1 filled.all

  four : (n : ℕ) → n ≤ s.step → length (s.before n) ≡ 4
  four zero h = filled.four
  four (suc n) h = (whole n h).keeps.four ∙ four n (omega (arith, h))

  -- the smaller of n and `last`
  abbrev upto : ℕ → ℕ
  upto n = n - (n - last)

  -- the slices before slice number n is filled; past the last slice, as they are in the end
  abbrev pub slices : ℕ → List (List (List ℕ))
  slices n = s.before (suc (upto n))

  before_slice : (n : ℕ) → n < last → slices n ≡ s.before (suc n)
  before_slice n few = let e : upto n ≡ n = omega (arith, few) in ap (λ (k : ℕ). s.before (suc k)) e

  after_slice : (n : ℕ) → n < last → slices (suc n) ≡ s.before (suc (suc n))
  after_slice n few = let e : upto (suc n) ≡ suc n = omega (arith, few) in ap (λ (k : ℕ). s.before (suc k)) e

  first : slices 0 ≡ s.before 1
  first = let e : upto 0 ≡ 0 = omega arith in ap (λ (k : ℕ). s.before (suc k)) e

  pub ended : s.memory ≡ slices last
  ended = rest ∙ (let e : last ≡ upto last = omega arith in ap (λ (k : ℕ). s.before (suc k)) e)

  begins : 0 < s.step
  begins = omega (arith, filled.all)

  pub run : IsRun job slices
  run = record {
    four = λ n. four (suc (upto n)) (omega (arith, filled.all));
    long = λ k few. rw first ((whole 0 begins).keeps.long k ∙ filled.long k few);
    begun = λ lane fits. (segment_in_step job 0 lane (s.before 0), rw first ((whole 0 begins).fills lane fits));
    others = λ n k few ne.
        let h : suc n < s.step = omega (arith, few, filled.all) in
        rw (before_slice n few, after_slice n few) (same_at (s.before (suc n)) (s.before (suc (suc n))) (n % 4) k
        (omega (arith, four (suc n) (omega (arith, h)))) (omega (arith, four (suc (suc n)) h)) ne (whole (suc n) h).keeps.others);
    filled = λ n lane few fits. rw (before_slice n few, after_slice n few) ((whole (suc n) (omega (arith, few, filled.all))).fills lane fits);
  }

pub every_team_gives_the_tag : EveryTeamGivesTheTag
every_team_gives_the_tag pwd salt config len job tasks s from filled =
    let Gives : CallerJob → Type 0 = λ j. IsMade pwd salt config len j → (slices : ℕ → List (List (List ℕ))) → IsRun j slices → (old new : List ℕ)
    → Finishes (setting_of_job j) j.hash_length (slice_at (slices (4 * j.passes)) 3) old new (Ok tt) → new ≡ tag_of pwd salt config len in
    let gives : Gives job = subst Gives (sym from.made) (λ from slices run. made_tag pwd salt config len from slices run) in
    λ old new finishes. gives from (slices job tasks s filled) (run job tasks s filled) old new
    (subst (λ m. Finishes (setting_of_job job) job.hash_length (slice_at m 3) old new (Ok tt)) (ended job tasks s filled) finishes)

pub every_team_gives_the_verdict : EveryTeamGivesTheVerdict
every_team_gives_the_verdict pwd salt config len job tasks s from filled =
    let Gives : CallerJob → Type 0 = λ j. IsMade pwd salt config len j → (slices : ℕ → List (List (List ℕ))) → IsRun j slices → (hash old new : List ℕ)
    → (Verifies (setting_of_job j) j.hash_length (slice_at (slices (4 * j.passes)) 3) hash old new (Ok tt) → hash ≡ tag_of pwd salt config len)
    × (Verifies (setting_of_job j) j.hash_length (slice_at (slices (4 * j.passes)) 3) hash old new (Err Mismatch) → hash ≡ tag_of pwd salt config len → ⊥) in
    let gives : Gives job = subst Gives (sym from.made) (λ from slices run hash old new.
    (made_match pwd salt config len from slices run hash old new, made_mismatch pwd salt config len from slices run hash old new)) in
    λ hash old new. subst (λ m. (Verifies (setting_of_job job) job.hash_length (slice_at m 3) hash old new (Ok tt) → hash ≡ tag_of pwd salt config len)
    × (Verifies (setting_of_job job) job.hash_length (slice_at m 3) hash old new (Err Mismatch) → hash ≡ tag_of pwd salt config len → ⊥))
    (sym (ended job tasks s filled)) (gives from (slices job tasks s filled) (run job tasks s filled) hash old new)

pub no_thread_works_after_the_end : NoThreadWorksAfterTheEnd
no_thread_works_after_the_end job tasks some =
    nobody_works_after_the_end (work_of job tasks) (apart job tasks some)

pub every_job_can_be_filled : EveryJobCanBeFilled
every_job_can_be_filled pwd salt config len job tasks members is_long from fewer =
    let s = setting_of pwd salt config len in
    let Fills : CallerJob → Type 0 = λ j. (start : List (List (List ℕ))) → length start ≡ 4
    → ((k : ℕ) → k < 4 → length (slice_at start k) ≡ j.lanes * j.segment_length)
    → (t : Threads (work_of j tasks) members is_long) × IsReached (work_of j tasks) members is_long t
    × HasReturned (work_of j tasks) members is_long t × IsFilled j tasks t.team × (t.team.is_over ≡ true) × (t.team.before 0 ≡ start) in
    subst Fills (sym from.made) (λ start four long.
    let good = setting_that_fits pwd salt config len from.accepted from.few_passes from.little_memory in
    let is = recovered s len good (accepted_hash config (length pwd) (length salt) len from.accepted) in
    let some : 0 < tasks = omega (arith, fewer) in
    let work = work_of (job_of s len) tasks in
    let whole : AreSlices s start = record { four = four; long = long } in
    let end = a_call_can_finish work members is_long (apart (job_of s len) tasks some) (AreSlices s) (job_can_fill s len tasks is) fewer (omega arith) start whole in
    let same : end.0.team.before 0 ≡ start = end.5 in (
      end.0,
      end.1,
      end.2,
      record {
        some = some;
        reached = threads_are_a_team work members is_long (apart (job_of s len) tasks some) end.0 end.1;
        four = ap length same ∙ four;
        long = λ k few. ap (λ (m : List (List (List ℕ))). length (slice_at m k)) same ∙ long k few;
        all = end.3;
      },
      end.4,
      same,
    ))

pub every_call_returns : EveryCallReturns
every_call_returns job tasks members is_long some =
    let is = apart job tasks some in
    record {
      team = threads_are_a_team (work_of job tasks) members is_long is;
      goes_on = some_thread_can_go_on (work_of job tasks) members is_long is;
      ends = every_run_ends (work_of job tasks) members is_long is;
      joined = all_threads_end (work_of job tasks) members is_long is;
    }
