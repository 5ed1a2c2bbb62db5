-- The words of a command line.
use Rattle.std.specs.Prelude.{◌≡◌, ℕ, ◌<◌, ◌^◌, List, [], ◌++◌, codes, length, map, slice_index_or, string_bytes, Option, Some, IfSome, IsUtf8}
use Rattle.std.specs.Prelude.{Vec, drop, option_map, slice_get}
use Rattle.std.specs.Str.Parse.{IsNumeral, digits_value, without_leading_plus}
use Rattle.std.specs.declared.alloc.Global.{Global}
use Rattle.std.specs.declared.string.String.{String}
use Rattle.argon2_standard.specs.Standard.Variant.{IsName}
use Rattle.argon2_standard.specs.Standard.Version.{version_text}
use Rattle.argon2_standard.specs.declared.config.Config.{Config}
use Rattle.argon2_standard.specs.declared.thread_mode.ThreadMode.{ThreadMode}
use Rattle.argon2_standard.specs.declared.thread_mode.ThreadMode.TheVariants.{Sequential, Parallel, AtMost}
use Rattle.argon2_commands.specs.declared.command.Command.{Command}
use Rattle.argon2_commands.specs.declared.command.Command.TheVariants.{Hash, Verify, Rehash}

-- ---- how the words of a command are read

-- the bytes of each word
abbrev pub texts_of : List (String Global) → List (List ℕ)
texts_of words = map string_bytes words

-- the word at a place, counted from 0
abbrev pub word : List (List ℕ) → ℕ → List ℕ
word words place = slice_index_or words place []

-- the word writes the number: decimal digits, with or without a plus in front, and below 2^32
abbrev pub IsNumber : List ℕ → ℕ → Type 0
IsNumber word number = IsNumeral 10 (without_leading_plus word)
    × (digits_value 10 (without_leading_plus word) ≡ number)
    × (number < 2 ^ 32)

-- the word names the mode: `seq`, `par`, or `max` followed at once by a number
abbrev pub IsMode : List ℕ → ThreadMode → Type 0
IsMode word Sequential = word ≡ codes "seq"
IsMode word Parallel = word ≡ codes "par"
IsMode word (AtMost number) = (digits : List ℕ) × (word ≡ codes "max" ++ digits) × IsNumber digits number

-- the words VARIANT VERSION T M P LEN, which follow the command, name these settings, without a secret
-- and associated data
pub record AreSettings (words : List (List ℕ)) (config : Config) : Type 0 where
  pub variant : IsName (word words 1) config.variant
  pub version : word words 2 ≡ version_text config.version
  pub time_cost : IsNumber (word words 3) config.time_cost
  pub mem_cost : IsNumber (word words 4) config.mem_cost
  pub lanes : IsNumber (word words 5) config.lanes
  pub hash_length : IsNumber (word words 6) config.hash_length
  pub secret : config.secret.now ≡ []
  pub ad : config.ad.now ≡ []

-- ---- the words of each command

-- hash VARIANT VERSION T M P LEN MODE SALT
pub record IsHash (words : List (List ℕ)) (config : Config) (salt : List ℕ) : Type 0 where
  pub count : length words ≡ 9
  pub name : word words 0 ≡ codes "hash"
  pub settings : AreSettings words config
  pub mode : IsMode (word words 7) config.thread_mode
  pub salted : salt ≡ word words 8

-- verify TEXT
pub record IsVerify (words : List (List ℕ)) (encoded : List ℕ) : Type 0 where
  pub count : length words ≡ 2
  pub name : word words 0 ≡ codes "verify"
  pub text : encoded ≡ word words 1

-- rehash VARIANT VERSION T M P LEN TEXT
pub record IsRehash (words : List (List ℕ)) (config : Config) (encoded : List ℕ) : Type 0 where
  pub count : length words ≡ 8
  pub name : word words 0 ≡ codes "rehash"
  pub settings : AreSettings words config
  pub mode : config.thread_mode ≡ Sequential
  pub text : encoded ≡ word words 7

-- the words are those of the command
abbrev pub IsCommand : List (List ℕ) → Command → Type 0
IsCommand words (Hash config salt) = IsHash words config salt.now
IsCommand words (Verify encoded) = IsVerify words encoded.now
IsCommand words (Rehash config encoded) = IsRehash words config encoded.now

-- the words are those of no command
abbrev pub IsNoCommand : List (List ℕ) → Type 0
IsNoCommand words = (command : Command) → IsCommand words command → ⊥

-- ---- the arguments that the program is started with, where they are known

-- what was found is the argument at the index, or none past the last
abbrev pub IsArgument : Option (List (List ℕ)) → ℕ → Option (Vec ℕ Global) → Type 0
IsArgument known index found = IfSome known (λ all. option_map (λ bytes. bytes.items) found ≡ slice_get all index)

-- the words are all arguments after the program's name, in their order
abbrev pub AreWords : Option (List (List ℕ)) → List (List ℕ) → Type 0
AreWords known words = IfSome known (λ all. words ≡ drop 1 all)

-- an argument after the program's name is not UTF-8
abbrev pub HasNoText : Option (List (List ℕ)) → Type 0
HasNoText known = IfSome known (λ all. (index : ℕ) × (word : List ℕ) × (0 < index) × (slice_get all index ≡ Some word) × (IsUtf8 word → ⊥))
