-- The team of the C driver at work on a job: step 0 begins all lanes, and step n + 1 fills slice number n, counted over all
-- passes.
use Rattle.std.specs.Prelude.{◌≡◌, ℕ, zero, suc, ◌*◌, ◌/◌, ◌%◌, ◌<◌, Bool, true, List, length, Ok, Err}
use Rattle.std.specs.List.{remove}
use Rattle.argon2_standard.specs.declared.config.Config.{Config}
use Rattle.argon2_standard.specs.Standard.Tag.{tag_of}
use Rattle.argon2_c.specs.Jobs.{setting_of_job}
use Rattle.argon2_c.specs.Steps.{Begins, Finishes, Verifies}
use Rattle.argon2_c.specs.Runs.{FillsLane, IsMade, segment_of, slice_at}
use Rattle.argon2_c.specs.Team.{IsReached, Team, Work, NobodyWorksAfterTheEnd}
use Rattle.argon2_c.specs.Threads.{Threads, HasReturned, IsReached as IsReachedByThreads, AllThreadsEnd, EveryRunEnds, SomeThreadCanGoOn, ThreadsAreATeam}
use Rattle.argon2_c.specs.declared.jobs.CallerJob.{CallerJob}
use Rattle.argon2_c.specs.declared.errors.CallError.TheVariants.{Mismatch}

-- the slice that a step writes
abbrev pub slice_of_step : ℕ → ℕ
slice_of_step zero = 0
slice_of_step (suc n) = n % 4

-- all four slices keep their lengths, and a step changes at most one of them
pub record KeepsSlices (n : ℕ) (before after : List (List (List ℕ))) : Type 0 where
  pub others : remove after (slice_of_step n) ≡ remove before (slice_of_step n)
  pub four : length after ≡ length before
  pub long : (k : ℕ) → length (slice_at after k) ≡ length (slice_at before k)

abbrev pub segment_in_step : CallerJob → ℕ → ℕ → List (List (List ℕ)) → List (List ℕ)
segment_in_step job n lane slices = segment_of job (slice_at slices (slice_of_step n)) lane

-- `job_begin` or `job_fill` returned 0 for a lane
abbrev pub FillsSegment : CallerJob → ℕ → ℕ → List (List (List ℕ)) → List (List ℕ) → List (List ℕ) → Type 0
FillsSegment job zero lane slices old new = Begins (setting_of_job job) lane old new (Ok tt)
FillsSegment job (suc n) lane slices old new = FillsLane job n lane slices old new

-- each worker has neighbouring lanes
abbrev pub work_of : CallerJob → ℕ → Work
work_of job tasks =
    record {
      lanes = job.lanes;
      tasks = tasks;
      steps = suc (4 * job.passes);
      worker = λ lane. lane * tasks / job.lanes;
      Memory = List (List (List ℕ));
      Segment = List (List ℕ);
      segment = segment_in_step job;
      Keeps = KeepsSlices;
      Fills = FillsSegment job;
    }

-- the caller's thread has completed all steps, over four slices of the job's length
pub record IsFilled (job : CallerJob) (tasks : ℕ) (s : Team (work_of job tasks)) : Type 0 where
  pub some : 0 < tasks
  pub reached : IsReached (work_of job tasks) s
  pub four : length (s.before 0) ≡ 4
  pub long : (k : ℕ) → k < 4 → length (slice_at (s.before 0) k) ≡ job.lanes * job.segment_length
  pub all : s.step ≡ suc (4 * job.passes)

-- For any number of lanes, workers and threads, and any order of their moves, `finish` then writes the tag.
abbrev pub EveryTeamGivesTheTag : Type 0
EveryTeamGivesTheTag = (pwd salt : List ℕ) (config : Config) (len : ℕ) (job : CallerJob) (tasks : ℕ)
    (s : Team (work_of job tasks)) → IsMade pwd salt config len job → IsFilled job tasks s
    → (old new : List ℕ) → Finishes (setting_of_job job) job.hash_length (slice_at s.memory 3) old new (Ok tt) → new ≡ tag_of pwd salt config len

-- `verify` then says whether a hash is the tag.
abbrev pub EveryTeamGivesTheVerdict : Type 0
EveryTeamGivesTheVerdict = (pwd salt : List ℕ) (config : Config) (len : ℕ) (job : CallerJob) (tasks : ℕ)
    (s : Team (work_of job tasks)) → IsMade pwd salt config len job → IsFilled job tasks s → (hash old new : List ℕ)
    → (Verifies (setting_of_job job) job.hash_length (slice_at s.memory 3) hash old new (Ok tt) → hash ≡ tag_of pwd salt config len)
    × (Verifies (setting_of_job job) job.hash_length (slice_at s.memory 3) hash old new (Err Mismatch) → hash ≡ tag_of pwd salt config len → ⊥)

-- Once a call is over, also after an error, no thread works on any lane.
abbrev pub NoThreadWorksAfterTheEnd : Type 0
NoThreadWorksAfterTheEnd = (job : CallerJob) (tasks : ℕ) → 0 < tasks → NobodyWorksAfterTheEnd (work_of job tasks)

-- For each job, number of workers, smaller number of other threads, and kind of parts, a call can start with any four
-- slices of the job's length, complete all steps, and return. Since the threads are a team, a team can do so too.
abbrev pub EveryJobCanBeFilled : Type 0
EveryJobCanBeFilled = (pwd salt : List ℕ) (config : Config) (len : ℕ) (job : CallerJob) (tasks members : ℕ) (is_long : Bool)
    → IsMade pwd salt config len job → members < tasks
    → (start : List (List (List ℕ))) → length start ≡ 4 → ((k : ℕ) → k < 4 → length (slice_at start k) ≡ job.lanes * job.segment_length)
    → (s : Threads (work_of job tasks) members is_long) × IsReachedByThreads (work_of job tasks) members is_long s
    × HasReturned (work_of job tasks) members is_long s × IsFilled job tasks s.team × (s.team.is_over ≡ true) × (s.team.before 0 ≡ start)

-- In the finer model: the threads make moves of a team. Until the call has returned, some thread can go on, and no run
-- is infinite unless a proved call writes for ever. When the call has returned, all other threads have ended.
abbrev pub EveryCallReturns : Type 0
EveryCallReturns = (job : CallerJob) (tasks members : ℕ) (is_long : Bool) → 0 < tasks → record {
  team : ThreadsAreATeam (work_of job tasks) members is_long;
  goes_on : SomeThreadCanGoOn (work_of job tasks) members is_long;
  ends : EveryRunEnds (work_of job tasks) members is_long;
  joined : AllThreadsEnd (work_of job tasks) members is_long;
}
