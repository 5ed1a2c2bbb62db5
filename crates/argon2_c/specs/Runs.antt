-- The steps of one hash, called by anybody: first each lane's beginning, then the slices of all passes one after
-- another, and in each slice its lanes in any order or at the same time.
use Rattle.std.specs.Prelude.{◌≡◌, ◌≢◌, ℕ, suc, ◌*◌, ◌/◌, ◌%◌, ◌^◌, ◌<◌, List, [], length, None, Ok, Err, slice_index_or, take, drop}
use Rattle.std.specs.List.{remove}
use Rattle.argon2_standard.specs.declared.config.Config.{Config}
use Rattle.argon2_standard.specs.Standard.Prehash.{setting_of}
use Rattle.argon2_standard.specs.Standard.SettingsTable.{table_error}
use Rattle.argon2_standard.specs.Standard.Tag.{tag_of}
use Rattle.argon2_c.specs.Jobs.{job_of, setting_of_job}
use Rattle.argon2_c.specs.Steps.{Begins, Fills, Finishes, Verifies}
use Rattle.argon2_c.specs.CallerBlocks.{HashesJob, JudgesJob, BlocksAndTag}
use Rattle.argon2_c.specs.declared.jobs.CallerJob.{CallerJob}
use Rattle.argon2_c.specs.declared.errors.CallError.TheVariants.{Mismatch}

-- a slice among several
abbrev pub slice_at : List (List (List ℕ)) → ℕ → List (List ℕ)
slice_at slices k = slice_index_or slices k []

-- the segment of a lane in a slice. A slice is the segments of lane 0, lane 1 and so on, in this order
abbrev pub segment_of : CallerJob → List (List ℕ) → ℕ → List (List ℕ)
segment_of job slice lane = take job.segment_length (drop (lane * job.segment_length) slice)

-- the job of accepted settings, for a tag of len bytes
pub record IsMade (pwd salt : List ℕ) (config : Config) (len : ℕ) (job : CallerJob) : Type 0 where
  pub few_passes : config.time_cost < 2 ^ 32
  pub little_memory : config.mem_cost < 2 ^ 32
  pub accepted : table_error config (length pwd) (length salt) len ≡ None
  pub made : job ≡ job_of (setting_of pwd salt config len) len

-- a step that returned 0 filled a lane's segment of slice number n, counted over all passes, from the three other
-- slices
abbrev pub FillsLane : CallerJob → ℕ → ℕ → List (List (List ℕ)) → List (List ℕ) → List (List ℕ) → Type 0
FillsLane job n lane slices old new = let beside = remove slices (n % 4) in
    Fills (setting_of_job job) (n / 4) (n % 4) lane (slice_at beside 0) (slice_at beside 1) (slice_at beside 2) old new (Ok tt)

-- `slices n` is the four slices before slice number n is filled (n counts over all passes). Each step returned 0. A
-- lane's step depends only on its own segment and the three other slices, which no step writes meanwhile. So the
-- order of a slice's lanes is left open
pub record IsRun (job : CallerJob) (slices : ℕ → List (List (List ℕ))) : Type 0 where
  pub four : (n : ℕ) → length (slices n) ≡ 4
  pub long : (k : ℕ) → k < 4 → length (slice_at (slices 0) k) ≡ job.lanes * job.segment_length
  pub begun : (lane : ℕ) → lane < job.lanes
      → (old : List (List ℕ)) × Begins (setting_of_job job) lane old (segment_of job (slice_at (slices 0) 0) lane) (Ok tt)
  pub others : (n k : ℕ) → n < 4 * job.passes → k ≢ n % 4 → slice_at (slices (suc n)) k ≡ slice_at (slices n) k
  pub filled : (n lane : ℕ) → n < 4 * job.passes → lane < job.lanes → FillsLane job n lane (slices n)
      (segment_of job (slice_at (slices n) (n % 4)) lane) (segment_of job (slice_at (slices (suc n)) (n % 4)) lane)

-- ---- the results after a run

-- after a run, `finish` writes the tag
abbrev pub EveryRunGivesTheTag : Type 0
EveryRunGivesTheTag = (pwd salt : List ℕ) (config : Config) (len : ℕ) (job : CallerJob) (slices : ℕ → List (List (List ℕ)))
    → IsMade pwd salt config len job → IsRun job slices
    → (old new : List ℕ) → Finishes (setting_of_job job) job.hash_length (slice_at (slices (4 * job.passes)) 3) old new (Ok tt)
    → new ≡ tag_of pwd salt config len

-- and `verify` says whether a hash is the tag
abbrev pub EveryRunGivesTheVerdict : Type 0
EveryRunGivesTheVerdict = (pwd salt : List ℕ) (config : Config) (len : ℕ) (job : CallerJob) (slices : ℕ → List (List (List ℕ)))
    → IsMade pwd salt config len job → IsRun job slices
    → (hash old new : List ℕ) → let end = slice_at (slices (4 * job.passes)) 3 in
    (Verifies (setting_of_job job) job.hash_length end hash old new (Ok tt) → hash ≡ tag_of pwd salt config len)
    × (Verifies (setting_of_job job) job.hash_length end hash old new (Err Mismatch) → hash ≡ tag_of pwd salt config len → ⊥)

-- the call that takes all steps in one order gives the same tag
abbrev pub OneCallGivesTheTag : Type 0
OneCallGivesTheTag = (pwd salt : List ℕ) (config : Config) (len : ℕ) (job : CallerJob) → IsMade pwd salt config len job
    → (old new : BlocksAndTag) → HashesJob (setting_of_job job) job.hash_length old new (Ok tt) → new.tag ≡ tag_of pwd salt config len

-- and the same verdict
abbrev pub OneCallGivesTheVerdict : Type 0
OneCallGivesTheVerdict = (pwd salt : List ℕ) (config : Config) (len : ℕ) (job : CallerJob) → IsMade pwd salt config len job
    → (hash : List ℕ) (old new : BlocksAndTag)
    → (JudgesJob (setting_of_job job) job.hash_length hash old new (Ok tt) → hash ≡ tag_of pwd salt config len)
    × (JudgesJob (setting_of_job job) job.hash_length hash old new (Err Mismatch) → hash ≡ tag_of pwd salt config len → ⊥)
