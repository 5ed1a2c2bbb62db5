-- The errors of the calls for C: their numbers, and what a call returns.
use Rattle.std.specs.Prelude.{ℕ, ◌≡◌, Result, Ok, Err}
use Rattle.argon2_standard.specs.declared.error.Error.{Error}
use Rattle.argon2_c.specs.declared.errors.CallError.{CallError}
use Rattle.argon2_standard.specs.declared.error.Error.TheVariants as error
use Rattle.argon2_c.specs.declared.errors.CallError.TheVariants as call

-- ---- the code's own table of error numbers. C programs compare numbers with the header. Among the
-- definitions, only `code_of` uses the table

-- the numbers of the library's errors, from 1 in their order
abbrev pub library_number : Error → ℕ
-- errors, by .ci/pages/presets
library_number error.OutputTooShort = 1
library_number error.OutputTooLong = 2
library_number error.PwdTooShort = 3
library_number error.PwdTooLong = 4
library_number error.SaltTooShort = 5
library_number error.SaltTooLong = 6
library_number error.AdTooShort = 7
library_number error.AdTooLong = 8
library_number error.SecretTooShort = 9
library_number error.SecretTooLong = 10
library_number error.TimeTooSmall = 11
library_number error.TimeTooLarge = 12
library_number error.MemoryTooLittle = 13
library_number error.MemoryTooMuch = 14
library_number error.LanesTooFew = 15
library_number error.LanesTooMany = 16
library_number error.IncorrectType = 17
library_number error.IncorrectVersion = 18
library_number error.DecodingFail = 19
library_number error.OutOfMemory = 20
library_number error.WorkerRefused = 21

-- end

-- the library's numbers, and from 64 on those of the errors that only C calls have
abbrev pub number_of : CallError → ℕ
number_of (call.Library e) = library_number e
-- errors of C, by .ci/pages/presets
number_of call.Mismatch = 64
number_of call.WrongLength = 65
number_of call.NotAscii = 66
number_of call.UnknownNumber = 67
number_of call.NeedsRehash = 68
number_of call.TooCostly = 69
number_of call.NoJob = 70
number_of call.NoPlace = 71
number_of call.WrongBlocks = 72

-- end

-- ---- the number that a call returns to C, for an answer

-- what a call returns to C: 0, or the number of the error
abbrev pub code_of : Result (Unit {0}) CallError → ℕ
code_of (Ok _) = 0
code_of (Err error) = number_of error

-- this is the code of some answer for which P holds
abbrev pub IsCodeOf : (Result (Unit {0}) CallError → Type 0) → ℕ → Type 0
IsCodeOf P code = (answer : Result (Unit {0}) CallError) × (code ≡ code_of answer) × P answer
