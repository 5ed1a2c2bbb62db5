-- What the root calls (`argon2::NAME`) return.
use Rattle.std.specs.Prelude.{◌≡◌, ◌⊎◌, Option, Some, None, Result, Ok, Err, Bool, true, false, List, ℕ, length, ◌↔◌, IsTrue}
use Rattle.argon2_standard.specs.declared.error.Error.{Error}
use Rattle.argon2_standard.specs.declared.error.Error.TheVariants.{OutOfMemory, WorkerRefused}
use Rattle.argon2_standard.specs.declared.config.Config.{Config}
use Rattle.argon2_standard.specs.Standard.SettingsTable.{table_error}
use Rattle.argon2_standard.specs.Standard.Tag.{tag_of}

-- a resource error, which is possible only if the settings table has no error: an allocation failed
-- or, with workers, a worker could not be started
abbrev pub IsResourceError : Bool → Error → Type 0
IsResourceError true e = (e ≡ OutOfMemory) ⊎ (e ≡ WorkerRefused)
IsResourceError false e = e ≡ OutOfMemory

-- the error of the settings table, where there is one; else a value for which P holds, or a resource
-- error
abbrev pub IsOutcome : {A : Type 0} → Option Error → Bool → (A → Type 0) → Result A Error → Type 0
IsOutcome (Some refusal) workers P result = result ≡ Err refusal
IsOutcome None workers P (Ok value) = P value
IsOutcome None workers P (Err e) = IsResourceError workers e

-- the first error of the settings table or, where there is none, a value that shows the tag, or a
-- resource error; `workers` says whether workers are started
abbrev pub IsHash : {A : Type 0} → List ℕ → List ℕ → Config → Bool → (A → List ℕ → Type 0) → Result A Error → Type 0
IsHash pwd salt config workers Shows answer =
    IsOutcome (table_error config (length pwd) (length salt) config.hash_length) workers
    (λ value. Shows value (tag_of pwd salt config config.hash_length)) answer

-- the first error of the settings table for the hash's own length; else a Boolean, which says whether the hash
-- is the tag of that length, or a resource error
abbrev pub IsVerdict : List ℕ → List ℕ → List ℕ → Config → Bool → Result Bool Error → Type 0
IsVerdict pwd salt hash config workers answer =
    IsOutcome (table_error config (length pwd) (length salt) (length hash)) workers
    (λ same. IsTrue same ↔ (hash ≡ tag_of pwd salt config (length hash))) answer
