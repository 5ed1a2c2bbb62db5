-- What an encoded hash is verified with, and how its settings are compared with others.
use Rattle.std.specs.Prelude.{◌≡◌, ℕ, List, length}
use Rattle.std.specs.Borrow.{Bor}
use Rattle.argon2_standard.specs.declared.config.Config.{Config}
use Rattle.argon2_standard.specs.declared.thread_mode.ThreadMode.TheVariants.{Sequential}
use Rattle.argon2_standard.specs.Standard.Text.{Spelled}

-- the configuration that a decoded hash is verified with: its settings and its length, this secret and
-- this associated data. No tag and no error of the settings table depends on the thread mode.
abbrev pub decoded_config : Spelled → Bor (List ℕ) → Bor (List ℕ) → Config
decoded_config d given_secret given_ad = record {
  ad = given_ad;
  hash_length = length d.hash;
  lanes = d.parallelism;
  mem_cost = d.mem_cost;
  secret = given_secret;
  thread_mode = Sequential;
  time_cost = d.time_cost;
  variant = d.variant;
  version = d.version;
}

-- the settings that were decoded, and the length of the hash, are those of the configuration; the
-- salt is ignored
pub record Agrees (d : Spelled) (config : Config) : Type 0 where
  pub variant : d.variant ≡ config.variant
  pub version : d.version ≡ config.version
  pub mem_cost : d.mem_cost ≡ config.mem_cost
  pub time_cost : d.time_cost ≡ config.time_cost
  pub lanes : d.parallelism ≡ config.lanes
  pub hash_length : length d.hash ≡ config.hash_length

-- some decoded setting, or the length of the hash, differs from the configuration
abbrev pub Differs : Spelled → Config → Type 0
Differs d config = Agrees d config → ⊥
