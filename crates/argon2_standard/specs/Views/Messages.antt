-- The code's own table: the messages of the errors.
use Rattle.std.specs.Prelude.{ℕ, List, codes}
use Rattle.argon2_standard.specs.declared.error.Error.{Error}
use Rattle.argon2_standard.specs.declared.error.Error.TheVariants as error

abbrev pub message_of : Error → List ℕ
-- messages, by .ci/pages/presets
message_of error.OutputTooShort = codes "Output is too short"
message_of error.OutputTooLong = codes "Output is too long"
message_of error.PwdTooShort = codes "Password is too short"
message_of error.PwdTooLong = codes "Password is too long"
message_of error.SaltTooShort = codes "Salt is too short"
message_of error.SaltTooLong = codes "Salt is too long"
message_of error.AdTooShort = codes "Associated data is too short"
message_of error.AdTooLong = codes "Associated data is too long"
message_of error.SecretTooShort = codes "Secret is too short"
message_of error.SecretTooLong = codes "Secret is too long"
message_of error.TimeTooSmall = codes "Time cost is too small"
message_of error.TimeTooLarge = codes "Time cost is too large"
message_of error.MemoryTooLittle = codes "Memory cost is too small"
message_of error.MemoryTooMuch = codes "Memory cost is too large"
message_of error.LanesTooFew = codes "Too few lanes"
message_of error.LanesTooMany = codes "Too many lanes"
message_of error.IncorrectType = codes "There is no such type of Argon2"
message_of error.IncorrectVersion = codes "There is no such version of Argon2"
message_of error.DecodingFail = codes "Decoding failed"
message_of error.OutOfMemory = codes "Out of memory"
message_of error.WorkerRefused = codes "A worker was refused"

-- end
