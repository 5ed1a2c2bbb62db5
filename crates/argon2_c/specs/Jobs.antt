-- A job: the numbers of an accepted call's setting, its prehash, and the length of its tag. Results
-- of the calls that make a job or write the encoded hash of the tag. On an error nothing is
-- written.
use Rattle.std.specs.Prelude.{◌≡◌, ℕ, ◌*◌, ◌<◌, ◌==◌, ◌||◌, Bool, nat_lt, if◌then◌else◌, List, length, Option, Some, None, Result, Ok, Err}
use Rattle.std.specs.Borrow.{Bor}
use Rattle.argon2_standard.specs.declared.config.Config.{Config}
use Rattle.argon2_standard.specs.declared.error.Error.{Error}
use Rattle.argon2_standard.specs.Standard.Prehash.{setting_of}
use Rattle.argon2_standard.specs.Standard.Setting.{Setting}
use Rattle.argon2_standard.specs.Standard.SettingsTable.{max_lanes, table_error}
use Rattle.argon2_standard.specs.Standard.Decoded.{decoded_config}
use Rattle.argon2_standard.specs.Standard.Text.{Spelled, spelled_of, text_of}
use Rattle.argon2_standard.specs.Standard.Variant.{variant_number}
use Rattle.argon2_standard.specs.declared.variant.Variant.{Variant}
use Rattle.argon2_standard.specs.Standard.Version.{version_number}
use Rattle.argon2_standard.specs.declared.version.Version.{Version}
use Rattle.argon2_c.specs.Answers.{OfText, OrError, WritesWhere, padded}
use Rattle.argon2_c.specs.Reading.{AreLengths, Items, items_of}
use Rattle.argon2_c.specs.Settings.{variant_of, version_of}
use Rattle.argon2_c.specs.declared.jobs.CallerJob.{CallerJob}
use Rattle.argon2_c.specs.declared.errors.CallError.{CallError}
use Rattle.argon2_c.specs.declared.errors.CallError.TheVariants.{Library}

-- ---- a job in numbers

-- the numbers of a setting, for a tag of len bytes
abbrev pub job_of : Setting → ℕ → CallerJob
job_of s len = record {
  prehash = s.prehash;
  variant = variant_number s.variant;
  version = version_number s.version;
  lanes = s.lanes;
  segment_length = s.segment_length;
  passes = s.passes;
  hash_length = len;
}

-- the most blocks of a slice, 2^30 - 1, since four slices have fewer than 2^32 blocks
abbrev pub max_blocks_in_slice : ℕ
max_blocks_in_slice = 0x3FFFFFFF

-- no valid settings have a job with these numbers: no lanes or too many, segments of fewer than two blocks,
-- slices of too many blocks, no pass, or a tag of fewer than four bytes
abbrev pub is_out_of_bounds : CallerJob → Bool
is_out_of_bounds job =
    (job.lanes == 0) || nat_lt max_lanes job.lanes || nat_lt job.segment_length 2 || nat_lt max_blocks_in_slice (job.lanes * job.segment_length)
    || (job.passes == 0) || nat_lt job.hash_length 4

-- the setting of the numbers, with a variant and a version
abbrev pub setting_with : CallerJob → Variant → Version → Setting
setting_with job variant version = record {
  prehash = job.prehash;
  variant = variant;
  version = version;
  lanes = job.lanes;
  segment_length = job.segment_length;
  passes = job.passes;
}

-- the same with the variant and version of the job's numbers, if both exist and the other numbers
-- are in bounds
abbrev pub setting_at : CallerJob → Option Variant → Option Version → Option Setting
setting_at job None version = None
setting_at job (Some variant) None = None
setting_at job (Some variant) (Some version) = if is_out_of_bounds job then None else Some (setting_with job variant version)

abbrev pub setting_of_job : CallerJob → Option Setting
setting_of_job job = setting_at job (variant_of job.variant) (version_of job.version)

-- ---- making a job

-- the job of a password, a salt and a configuration
abbrev pub MakesJob : Result Config Error → List ℕ → List ℕ → CallerJob → CallerJob → Result (Unit {0}) CallError → Type 0
MakesJob (Err e) pwd salt old new answer = (answer ≡ Err (Library e)) × (new ≡ old)
MakesJob (Ok config) pwd salt old new answer =
    OrError (table_error config (length pwd) (length salt) config.hash_length) old new answer
    ((answer ≡ Ok tt) × (new ≡ job_of (setting_of pwd salt config config.hash_length) config.hash_length))

-- a job, and the buffers of a salt and a hash
pub record StoredJob : Type 0 where
  pub job : CallerJob
  pub items : Items

-- the job that a decoded hash is verified by, and its salt and its hash
abbrev pub stored_job_of : List ℕ → Spelled → Config → StoredJob
stored_job_of pwd d config = record { job = job_of (setting_of pwd d.salt config (length d.hash)) (length d.hash); items = items_of d }

-- the error of the settings comes first, then that of the buffers
abbrev pub WritesStoredJob : List ℕ → Spelled → Config → StoredJob → StoredJob → Result (Unit {0}) CallError → Type 0
WritesStoredJob pwd d config old new answer =
    OrError (table_error config (length pwd) (length d.salt) (length d.hash)) old new answer
    (WritesWhere (AreLengths (items_of d) old.items) (stored_job_of pwd d config) old new answer)

-- the job of what a string decodes to, with this secret and this associated data
abbrev pub MakesStoredJob : List ℕ → List ℕ → Bor (List ℕ) → Bor (List ℕ) → StoredJob → StoredJob → Result (Unit {0}) CallError → Type 0
MakesStoredJob text pwd secret ad old new answer =
    OfText text old new answer (λ d. WritesStoredJob pwd d (decoded_config d secret ad) old new answer)

-- ---- the encoded hash of a tag

-- the encoded hash, and zeros behind it, of a tag that is as long as the configuration says
abbrev pub WritesTagText : Result Config Error → List ℕ → List ℕ → List ℕ → List ℕ → Result (Unit {0}) CallError → Type 0
WritesTagText (Err e) salt tag old new answer = (answer ≡ Err (Library e)) × (new ≡ old)
WritesTagText (Ok config) salt tag old new answer = let text = text_of (spelled_of config salt tag) in
    OrError (table_error config 0 (length salt) config.hash_length) old new answer
    (WritesWhere ((length tag ≡ config.hash_length) × (length text < length old)) (padded (length old) text) old new answer)
