-- Settings, recommended ones, and limits, in numbers.
use Rattle.std.specs.Prelude.{ℕ, ◌==◌, if◌then◌else◌, List, Option, Some, None, Result, Ok, Err}
use Rattle.std.specs.Borrow.{Bor}
use Rattle.argon2_standard.specs.declared.config.Config.{Config}
use Rattle.argon2_standard.specs.declared.error.Error.{Error}
use Rattle.argon2_standard.specs.declared.error.Error.TheVariants.{IncorrectType, IncorrectVersion}
use Rattle.argon2_standard.specs.declared.thread_mode.ThreadMode.TheVariants.{Sequential}
use Rattle.argon2_standard.specs.declared.variant.Variant.{Variant}
use Rattle.argon2_standard.specs.declared.variant.Variant.TheVariants.{Argon2d, Argon2i, Argon2id}
use Rattle.argon2_standard.specs.declared.version.Version.{Version}
use Rattle.argon2_standard.specs.declared.version.Version.TheVariants.{Version10, Version13}
use Rattle.argon2_c.specs.declared.settings.Settings.{Settings}
use Rattle.argon2_standard.specs.Standard.Variant.{variant_number}
use Rattle.argon2_standard.specs.Standard.Version.{version_number}
use Rattle.argon2.specs.declared.limits.Limits.{Limits as LibraryLimits}
use Rattle.argon2_c.specs.declared.limits.Limits.{Limits}

-- ---- the configuration of settings in numbers

-- the variant and the version of a number (RFC 9106, 3.2)
abbrev pub variant_of : ℕ → Option Variant
variant_of number =
    if number == 0 then Some Argon2d
    else (if number == 1 then Some Argon2i else (if number == 2 then Some Argon2id else None))

abbrev pub version_of : ℕ → Option Version
version_of number = if number == 0x10 then Some Version10 else (if number == 0x13 then Some Version13 else None)

-- the configuration with this variant and this version, whose memory is filled in the caller's thread
abbrev pub config_with : Settings → Bor (List ℕ) → Bor (List ℕ) → Variant → Version → Config
config_with settings secret ad variant version = record {
  ad = ad;
  hash_length = settings.hash_length;
  lanes = settings.lanes;
  mem_cost = settings.mem_cost;
  secret = secret;
  thread_mode = Sequential;
  time_cost = settings.time_cost;
  variant = variant;
  version = version;
}

-- the same for the numbers of a variant and of a version, if both exist; the variant is checked first
abbrev pub config_at : Settings → Bor (List ℕ) → Bor (List ℕ) → Option Variant → Option Version → Result Config Error
config_at settings secret ad None version = Err IncorrectType
config_at settings secret ad (Some variant) None = Err IncorrectVersion
config_at settings secret ad (Some variant) (Some version) = Ok (config_with settings secret ad variant version)

abbrev pub config_of : Settings → Bor (List ℕ) → Bor (List ℕ) → Result Config Error
config_of settings secret ad = config_at settings secret ad (variant_of settings.variant) (version_of settings.version)

-- ---- the recommended settings

-- the settings of a configuration, in numbers
abbrev pub settings_of : Config → Settings
settings_of config = record {
  variant = variant_number config.variant;
  version = version_number config.version;
  mem_cost = config.mem_cost;
  time_cost = config.time_cost;
  lanes = config.lanes;
  hash_length = config.hash_length;
}

-- Argon2id, version 0x13, one lane and 32 bytes of hash, with this memory in KiB and these passes
abbrev pub recommended : ℕ → ℕ → Settings
recommended memory passes = record {
  variant = 2;
  version = 0x13;
  mem_cost = memory;
  time_cost = passes;
  lanes = 1;
  hash_length = 32;
}

-- ---- the limits for an encoded hash

-- limits converted to the library's type, and back
abbrev pub limits_of : Limits → LibraryLimits
limits_of limits = record { mem_cost = limits.mem_cost; time_cost = limits.time_cost; lanes = limits.lanes; work = limits.work }

abbrev pub limits_from : LibraryLimits → Limits
limits_from limits = record { mem_cost = limits.mem_cost; time_cost = limits.time_cost; lanes = limits.lanes; work = limits.work }
