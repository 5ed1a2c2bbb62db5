-- The bounds of a setting, and a job: a setting with the numbers of one pass and one slice.
use Rattle.std.specs.Prelude.{◌≡◌, ℕ, ◌+◌, ◌*◌, ◌^◌, ◌<◌, ◌≤◌, ◌==◌, ◌&&◌, if◌then◌else◌, List, length}
use Rattle.argon2_standard.specs.Standard.SettingsTable.{max_lanes}
use Rattle.argon2_standard.specs.Standard.Setting.{Setting, lane_length, memory_blocks, Position}
use Rattle.argon2_standard.specs.declared.config.Config.{Config}
use Rattle.argon2_standard.specs.Standard.Prehash.{setting_of}
use Rattle.argon2_standard.specs.declared.context.Context.{Context}

-- the bounds of a setting
pub record IsSetting (s : Setting) : Type 0 where
  pub prehash_length : length s.prehash ≡ 64
  pub some_lane : 0 < s.lanes
  pub few_lanes : s.lanes ≤ max_lanes
  pub long_segments : 2 ≤ s.segment_length
  pub some_pass : 0 < s.passes
  pub few_passes : s.passes < 2 ^ 32
  pub fits : memory_blocks s < 2 ^ 32

pub record IsPosition (s : Setting) (at : Position) : Type 0 where
  pub lane_fits : at.lane < s.lanes
  pub column_fits : at.column < lane_length s

-- the index from which a pass writes the segments of a slice: in the first slice of pass 0, the first
-- two blocks of each lane are already written
abbrev pub first_written : ℕ → ℕ → ℕ
first_written pass slice = if (pass == 0) && (slice == 0) then 2 else 0

-- a setting with the numbers of a pass and of a slice
pub record Job : Type 0 where
  pub setting : Setting
  pub pass : ℕ
  pub slice : ℕ

-- the position of the block at an index of a lane's segment in the job's slice
abbrev pub position_of : Job → ℕ → ℕ → Position
position_of j lane index =
    record { pass = j.pass; lane = lane; column = j.slice * j.setting.segment_length + index }

-- the index of the first block that a fill writes
abbrev pub first_index : Job → ℕ
first_index j = first_written j.pass j.slice

pub record IsJob (j : Job) : Type 0 where
  pub setting : IsSetting j.setting
  pub pass_fits : j.pass < j.setting.passes
  pub slice_fits : j.slice < 4

-- the job that the computation of a call begins with
abbrev pub first_job_of : List ℕ → List ℕ → Config → Job
first_job_of pwd salt config = record {
  setting = setting_of pwd salt config config.hash_length;
  pass = 0;
  slice = 0;
}

abbrev pub setting_of_context : Context → Setting
setting_of_context c = setting_of c.pwd.now c.salt.now c.config c.config.hash_length
