-- What the code reads of a stored hash, and how it compares.
use Rattle.std.specs.Prelude.{◌≡◌, ℕ, List, Option, None, Some, Result, Ok, Err, length, min, nat_lt, if◌then◌else◌, bit_or, bit_xor}
use Rattle.argon2_standard.specs.declared.error.Error.{Error}
use Rattle.argon2_standard.specs.declared.config.Config.{Config}
use Rattle.argon2_standard.specs.declared.thread_mode.ThreadMode.TheVariants.{AtMost, Sequential}
use Rattle.argon2_standard.specs.Standard.SettingsTable.{max_length, table_error}
use Rattle.argon2_standard.specs.Standard.Text.{Spelled}
use Rattle.std.specs.List.{fold, zip}

-- ---- the configuration that an encoded hash is verified with

-- the configuration has all that a verdict looks at: the settings of a decoded hash, and this secret
-- and associated data
pub record IsStoredConfig (d : Spelled) (given_secret given_ad : List ℕ) (config : Config) : Type 0 where
  pub variant : config.variant ≡ d.variant
  pub version : config.version ≡ d.version
  pub mem_cost : config.mem_cost ≡ d.mem_cost
  pub time_cost : config.time_cost ≡ d.time_cost
  pub lanes : config.lanes ≡ d.parallelism
  pub secret : config.secret.now ≡ given_secret
  pub ad : config.ad.now ≡ given_ad

-- the settings table rejects none of the settings for a password of this length
abbrev pub IsAccepted : Spelled → ℕ → List ℕ → List ℕ → Type 0
IsAccepted d pwd_len secret ad = (config : Config) → IsStoredConfig d secret ad config
    → table_error config pwd_len (length d.salt) (length d.hash) ≡ None

-- the error, where there is one; else a value for which P holds
abbrev pub IsAccepting : {A : Type 0} → Option Error → (A → Type 0) → Result A Error → Type 0
IsAccepting (Some refusal) P result = result ≡ Err refusal
IsAccepting None P (Ok value) = P value
IsAccepting None P (Err e) = ⊥

-- the most workers that verify one encoded hash
abbrev pub max_workers : ℕ
max_workers = 16

-- the configuration that the code uses: at most 16 workers, and the length of the hash, as far as
-- it fits the field
pub record IsConfigOf (d : Spelled) (secret ad : List ℕ) (config : Config) : Type 0 where
  pub stored : IsStoredConfig d secret ad config
  pub thread_mode : config.thread_mode ≡ (if nat_lt 1 d.parallelism then AtMost max_workers else Sequential)
  pub hash_length : config.hash_length ≡ min (length d.hash) max_length

-- ---- what a comparison of two hashes looks at

-- the bits in which two lists of bytes differ at any place
abbrev pub difference_of : List ℕ → List ℕ → ℕ
difference_of one other = fold (λ difference (a, b). bit_or difference (bit_xor a b)) 0 (zip one other)
