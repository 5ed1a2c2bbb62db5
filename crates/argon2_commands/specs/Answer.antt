-- What a command answers.
use Rattle.std.specs.Prelude.{◌≡◌, ◌↔◌, ◌⊎◌, ◌≤◌, ◌+◌, ℕ, true, false, List, [], ◌++◌, codes, length, nat_lt, string_bytes, Bool, IsTrue, Option, IfSome}
use Rattle.std.specs.Prelude.{IsNone, MatchOption, MatchResult, Result, Ok, Err, ⊤}
use Rattle.std.specs.Borrow.{Bor}
use Rattle.std.specs.Io.KnownBytes.{Consumes}
use Rattle.hex.specs.Hex.{encode_lower}
use Rattle.argon2_standard.specs.Standard.Outcome.{IsResourceError, IsVerdict}
use Rattle.argon2_standard.specs.Standard.ThreadModes.{may_lack_workers}
use Rattle.argon2_standard.specs.Standard.Grammar.{Spells, SpellsNothing}
use Rattle.argon2_standard.specs.Standard.Decoded.{Differs, decoded_config}
use Rattle.argon2_standard.specs.Standard.SettingsTable.{max_length, table_error}
use Rattle.argon2_standard.specs.Standard.Tag.{tag_of}
use Rattle.argon2_standard.specs.Standard.Text.{Spelled, spelled_of, text_of}
use Rattle.argon2_standard.specs.declared.config.Config.{Config}
use Rattle.argon2_standard.specs.declared.error.Error.{Error}
use Rattle.argon2_standard.specs.declared.error.Error.TheVariants.{DecodingFail, OutOfMemory}
use Rattle.argon2_commands.specs.declared.answer.Answer.{Answer}
use Rattle.argon2_commands.specs.declared.answer.Answer.TheVariants.{Hashed, Verdict}
use Rattle.argon2_commands.specs.declared.command.Command.{Command}
use Rattle.argon2_commands.specs.declared.command.Command.TheVariants.{Hash, Verify, Rehash}
use Rattle.argon2_commands.specs.declared.fault.Fault.{Fault}
use Rattle.argon2_commands.specs.declared.fault.Fault.TheVariants.{Usage, Input, Refused, Output, OutputShort}

-- 1 for `false`, else 0
abbrev pub answer_status : Answer → ℕ
answer_status (Hashed lines) = 0
answer_status (Verdict true) = 0
answer_status (Verdict false) = 1

-- what is written
abbrev pub lines_of : Answer → List ℕ
lines_of (Hashed lines) = string_bytes lines
lines_of (Verdict true) = codes "true\n"
lines_of (Verdict false) = codes "false\n"

-- a tag in lower-case hexadecimal and its encoded hash, a line each
abbrev pub lines_of_tag : Config → List ℕ → List ℕ → List ℕ
lines_of_tag config salt tag = encode_lower tag ++ codes "\n" ++ text_of (spelled_of config salt tag) ++ codes "\n"

-- the lines of the tag of a password
abbrev pub hash_lines : Config → List ℕ → List ℕ → List ℕ
hash_lines config salt password = lines_of_tag config salt (tag_of password salt config config.hash_length)

-- what verifying a password against a text answers
pub record VerifyAnswers (encoded password : List ℕ) (result : Result Bool Error) : Type 0 where
  pub unspelled : SpellsNothing encoded → result ≡ Err DecodingFail
  pub spelled : (d : Spelled) (none : Bor (List ℕ)) → none.now ≡ [] → Spells encoded d →
      IsVerdict password d.salt d.hash (decoded_config d none none) (nat_lt 1 d.parallelism) result

-- the answers to whether a text needs a new hash
pub record RehashAnswers (encoded : List ℕ) (config : Config) (result : Result Bool Error) : Type 0 where
  pub unspelled : SpellsNothing encoded → result ≡ Err DecodingFail
  pub spelled : (d : Spelled) → Spells encoded d →
      MatchResult result (λ differs. IsTrue differs ↔ Differs d config) (λ e. e ≡ OutOfMemory)

-- the password is the whole input, if its bytes are known
abbrev pub IsPassword : Option (List ℕ) → List ℕ → Type 0
IsPassword input password = IfSome input (λ bytes. password ≡ bytes)

-- the settings were accepted for the password, and the lines are those of its tag
pub record HashAnswers (config : Config) (salt password lines : List ℕ) : Type 0 where
  pub accepted : IsNone (table_error config (length password) (length salt) config.hash_length)
  pub written : lines ≡ hash_lines config salt password

-- the answer fits the command: for `hash`, the lines for the password that was read, whose settings were accepted;
-- for the others, the verdict
abbrev pub IsAnswer : Command → Option (List ℕ) → Answer → Type 0
IsAnswer (Hash config salt) input (Hashed lines) =
    (password : List ℕ) × IsPassword input password × HashAnswers config salt.now password (string_bytes lines)
IsAnswer (Hash config salt) input (Verdict verdict) = ⊥
IsAnswer (Verify encoded) input (Hashed lines) = ⊥
IsAnswer (Verify encoded) input (Verdict verdict) =
    (password : List ℕ) × IsPassword input password × VerifyAnswers encoded.now password (Ok verdict)
IsAnswer (Rehash config encoded) input (Hashed lines) = ⊥
IsAnswer (Rehash config encoded) input (Verdict verdict) = RehashAnswers encoded.now config (Ok verdict)

-- the error of a hash: the first of the settings table, or a resource error where there is none
abbrev pub IsHashError : Config → List ℕ → List ℕ → Error → Type 0
IsHashError config salt password error =
    MatchOption (table_error config (length password) (length salt) config.hash_length)
    (IsResourceError (may_lack_workers config) error)
    (λ first. error ≡ first)

-- the command may have this error: because of the password that was read, or because there was no
-- memory to read it. `rehash` reads none
abbrev pub MayBeError : Command → Option (List ℕ) → Error → Type 0
MayBeError (Hash config salt) input error = (error ≡ OutOfMemory)
    ⊎ ((password : List ℕ) × IsPassword input password × IsHashError config salt.now password error)
MayBeError (Verify encoded) input error = (error ≡ OutOfMemory)
    ⊎ ((password : List ℕ) × IsPassword input password × VerifyAnswers encoded.now password (Err error))
MayBeError (Rehash config encoded) input error = RehashAnswers encoded.now config (Err error)

-- the command may end with this fault
abbrev pub MayFail : Command → Option (List ℕ) → Fault → Type 0
MayFail command input Input = ⊤
MayFail command input (Refused error) = MayBeError command input error
MayFail command input Usage = ⊥
MayFail command input Output = ⊥
MayFail command input OutputShort = ⊥

-- the command needs no input
abbrev pub NeedsNoInput : Command → Type 0
NeedsNoInput (Hash config salt) = ⊥
NeedsNoInput (Verify encoded) = ⊥
NeedsNoInput (Rehash config encoded) = ⊤

-- at most `most` bytes were read from an input, and are gone from it
abbrev pub ReadsUpTo : ℕ → Option (List ℕ) → Option (List ℕ) → Type 0
ReadsUpTo most before after = (bytes : List ℕ) × Consumes before after bytes × (length bytes ≤ most)

-- the most bytes that a command reads: one more than the longest password that it can accept
abbrev pub most_read : Command → ℕ
most_read (Hash config salt) = max_length + 1
most_read (Verify encoded) = max_length + 1
most_read (Rehash config encoded) = 0
