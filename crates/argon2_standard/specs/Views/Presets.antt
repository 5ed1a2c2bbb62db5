-- The presets, and how many workers fill the slices of a configuration.
use Rattle.std.specs.Prelude.{◌≡◌, ℕ, min, if◌then◌else◌, []}
use Rattle.argon2_standard.specs.declared.config.Config.{Config}
use Rattle.argon2_standard.specs.declared.thread_mode.ThreadMode.{ThreadMode}
use Rattle.argon2_standard.specs.declared.thread_mode.ThreadMode.TheVariants.{Sequential, Parallel, AtMost}
use Rattle.argon2_standard.specs.declared.variant.Variant.{Variant}
use Rattle.argon2_standard.specs.declared.version.Version.TheVariants.{Version13}
use Rattle.argon2_standard.specs.Standard.ThreadModes.{uses_sequential}

-- one lane in one thread, 32 bytes of hash, version 0x13, no secret, no associated data
pub record IsPreset (kind : Variant) (memory time : ℕ) (config : Config) : Type 0 where
  pub variant : config.variant ≡ kind
  pub mem_cost : config.mem_cost ≡ memory
  pub time_cost : config.time_cost ≡ time
  pub version : config.version ≡ Version13
  pub hash_length : config.hash_length ≡ 32
  pub lanes : config.lanes ≡ 1
  pub thread_mode : config.thread_mode ≡ Sequential
  pub secret : config.secret.now ≡ []
  pub ad : config.ad.now ≡ []

-- how many workers fill this many lanes, if the caller's thread does not fill them alone
abbrev pub worker_count : ThreadMode → ℕ → ℕ
worker_count Sequential lanes = 1
worker_count Parallel lanes = lanes
worker_count (AtMost most) lanes = min lanes most

abbrev pub workers_of : Config → ℕ
workers_of config = if uses_sequential config then 1 else worker_count config.thread_mode config.lanes
