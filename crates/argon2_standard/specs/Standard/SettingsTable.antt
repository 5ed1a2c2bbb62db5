-- The settings table: the error of the first row that applies.
use Rattle.std.specs.Prelude.{ℕ, ◌*◌, Bool, ◌==◌, nat_lt, if◌then◌else◌, Option, Some, None, List, [], ◌∷◌, length}
use Rattle.argon2_standard.specs.declared.config.Config.{Config}
use Rattle.argon2_standard.specs.declared.error.Error.{Error}
use Rattle.argon2_standard.specs.declared.error.Error.TheVariants.{LanesTooFew, LanesTooMany, MemoryTooLittle, TimeTooSmall, PwdTooLong, SaltTooShort}
use Rattle.argon2_standard.specs.declared.error.Error.TheVariants.{SaltTooLong, SecretTooLong, AdTooLong, OutputTooShort, OutputTooLong}

-- the greatest length of an input or a hash, in bytes: 2^32 - 1 (RFC 9106, 3.1)
abbrev pub max_length : ℕ
max_length = 4294967295

-- the greatest number of lanes: 2^24 - 1 (RFC 9106, 3.1)
abbrev pub max_lanes : ℕ
max_lanes = 16777215

-- the least memory cost of a lane, in KiB (RFC 9106, 3.1)
abbrev pub min_memory : ℕ
min_memory = 8

-- the least length of a salt, in bytes: a limit of this crate, since RFC 9106 sets none
abbrev pub min_salt_length : ℕ
min_salt_length = 8

-- the least length of a hash, in bytes (RFC 9106, 3.1)
abbrev pub min_hash_length : ℕ
min_hash_length = 4

-- the rows in their order, each with its condition and its error, for a password, a salt and a
-- hash of these lengths
abbrev pub settings_table : Config → ℕ → ℕ → ℕ → List (Bool × Error)
settings_table config pwd_len salt_len hash_len =
    (config.lanes == 0, LanesTooFew)
    ∷ (nat_lt max_lanes config.lanes, LanesTooMany)
    ∷ (nat_lt config.mem_cost (min_memory * config.lanes), MemoryTooLittle)
    ∷ (config.time_cost == 0, TimeTooSmall)
    ∷ (nat_lt max_length pwd_len, PwdTooLong)
    ∷ (nat_lt salt_len min_salt_length, SaltTooShort)
    ∷ (nat_lt max_length salt_len, SaltTooLong)
    ∷ (nat_lt max_length (length config.secret.now), SecretTooLong)
    ∷ (nat_lt max_length (length config.ad.now), AdTooLong)
    ∷ (nat_lt hash_len min_hash_length, OutputTooShort)
    ∷ (nat_lt max_length hash_len, OutputTooLong) ∷ []

-- the error of the first row whose condition holds
abbrev pub first_that_applies : List (Bool × Error) → Option Error
first_that_applies [] = None
first_that_applies ((applies, refusal) ∷ rows) = if applies then Some refusal else first_that_applies rows

-- the first error of the settings table, for a password, a salt and a hash of these lengths, in bytes
unfoldable pub table_error : Config → ℕ → ℕ → ℕ → Option Error
table_error config pwd_len salt_len hash_len = first_that_applies (settings_table config pwd_len salt_len hash_len)
