-- Results of the calls that only check settings and lengths.
use Rattle.std.specs.Prelude.{◌≡◌, ℕ, Bool, true, false, List, length, Option, Some, None, option_map, Result, Ok, Err}
use Rattle.std.specs.Borrow.{Bor}
use Rattle.argon2_standard.specs.declared.config.Config.{Config}
use Rattle.argon2_standard.specs.declared.error.Error.{Error}
use Rattle.argon2_standard.specs.Standard.Setting.{Setting}
use Rattle.argon2_standard.specs.Standard.SettingsTable.{table_error}
use Rattle.argon2_standard.specs.Standard.Decoded.{decoded_config}
use Rattle.argon2.specs.Standard.Limits.{is_too_costly}
use Rattle.argon2.specs.declared.limits.Limits.{Limits as LibraryLimits}
use Rattle.argon2_c.specs.Answers.{OfText, OrError}
use Rattle.argon2_c.specs.Reading.{stored_of}
use Rattle.argon2_c.specs.declared.reading.Stored.{Stored}
use Rattle.argon2_c.specs.declared.errors.CallError.{CallError}
use Rattle.argon2_c.specs.declared.errors.CallError.TheVariants.{Library, NoJob, TooCostly}

-- the error of the settings' numbers or of the settings table for inputs of these lengths, or Ok if there is none
abbrev pub Checks : Result Config Error → ℕ → ℕ → Result (Unit {0}) CallError → Type 0
Checks (Err e) pwd_len salt_len answer = answer ≡ Err (Library e)
Checks (Ok config) pwd_len salt_len answer =
    OrError (table_error config pwd_len salt_len config.hash_length) (tt {0}) (tt {0}) answer (answer ≡ Ok tt)

-- why a string is rejected: its hash exceeds a limit or, if not, the settings table has an error
abbrev pub error_within : Bool → Option Error → Option CallError
error_within true error = Some TooCostly
error_within false error = option_map Library error

-- the numbers of what a string decodes to, unless it is rejected
abbrev pub ReadsUnless : Option CallError → Stored → Stored → Stored → Result (Unit {0}) CallError → Type 0
ReadsUnless (Some error) spelled old new answer = (answer ≡ Err error) × (new ≡ old)
ReadsUnless None spelled old new answer = (answer ≡ Ok tt) × (new ≡ spelled)

-- the same for a string that is checked with a secret and associated data of these lengths
abbrev pub ChecksText : LibraryLimits → ℕ → ℕ → ℕ → List ℕ → Stored → Stored → Result (Unit {0}) CallError → Type 0
ChecksText limits pwd_len secret_len ad_len text old new answer =
    OfText text old new answer (λ d. (secret ad : Bor (List ℕ)) → length secret.now ≡ secret_len → length ad.now ≡ ad_len
    → ReadsUnless (error_within (is_too_costly limits d) (table_error (decoded_config d secret ad) pwd_len (length d.salt) (length d.hash)))
    (stored_of d) old new answer)

-- whether a job's numbers are those of some setting
abbrev pub ChecksJob : Option Setting → Result (Unit {0}) CallError → Type 0
ChecksJob None answer = answer ≡ Err NoJob
ChecksJob (Some s) answer = answer ≡ Ok tt
