-- What the calls return, at inputs and settings that are plain values.
use Rattle.std.specs.Prelude.{◌≡◌, ℕ, ◌==◌, Bool, true, false, if◌then◌else◌, List, length, Result, Err, nat_lt}
use Rattle.std.specs.Borrow.{Bor}
use Rattle.argon2.specs.Standard.Limits.{AnswersWithin, is_too_costly}
use Rattle.argon2.specs.declared.limits.Limits.{Limits}
use Rattle.argon2.specs.declared.limits.Unverified.{Unverified}
use Rattle.argon2.specs.declared.limits.Unverified.TheVariants.{Refused}
use Rattle.argon2_standard.specs.declared.config.Config.{Config}
use Rattle.argon2_standard.specs.declared.error.Error.{Error}
use Rattle.argon2_standard.specs.declared.error.Error.TheVariants.{DecodingFail}
use Rattle.argon2_standard.specs.declared.thread_mode.ThreadMode.{ThreadMode}
use Rattle.argon2_standard.specs.declared.thread_mode.ThreadMode.TheVariants.{Parallel, AtMost}
use Rattle.argon2_standard.specs.declared.variant.Variant.{Variant}
use Rattle.argon2_standard.specs.declared.variant.Variant.TheVariants.{Argon2d, Argon2i, Argon2id}
use Rattle.argon2_standard.specs.declared.version.Version.{Version}
use Rattle.argon2_standard.specs.declared.version.Version.TheVariants.{Version10, Version13}
use Rattle.argon2_standard.specs.Standard.Decoded.{decoded_config}
use Rattle.argon2_standard.specs.Standard.Grammar.{Spells, SpellsNothing}
use Rattle.argon2_standard.specs.Standard.Outcome.{IsHash, IsVerdict}
use Rattle.argon2_standard.specs.Standard.Text.{Spelled, spelled_of, text_of}
use Rattle.argon2_standard.specs.Standard.ThreadModes.{may_lack_workers}

-- the inputs and the settings of a hash
pub record Inputs : Type 0 where
  pub pwd : List ℕ
  pub salt : List ℕ
  pub secret : List ℕ
  pub ad : List ℕ
  pub variant : ℕ
  pub newest : Bool
  pub mem_cost : ℕ
  pub time_cost : ℕ
  pub lanes : ℕ
  pub threads : ℕ
  pub length : ℕ

-- the variant of a number: 0 for Argon2d, 1 for Argon2i, any other for Argon2id
abbrev pub variant_at : ℕ → Variant
variant_at number = if number == 0 then Argon2d else (if number == 1 then Argon2i else Argon2id)

-- version 0x13 for `true`, 0x10 for `false`
abbrev pub version_at : Bool → Version
version_at true = Version13
version_at false = Version10

-- the thread mode of a number: 0 means as many workers as lanes, any other number n means at most n workers
abbrev pub mode_at : ℕ → ThreadMode
mode_at threads = if threads == 0 then Parallel else AtMost threads

-- the configuration of these settings, with borrows of the secret and the associated data
abbrev pub config_at : Inputs → Bor (List ℕ) → Bor (List ℕ) → Config
config_at x secret ad = record {
  ad = ad;
  hash_length = x.length;
  lanes = x.lanes;
  mem_cost = x.mem_cost;
  secret = secret;
  thread_mode = mode_at x.threads;
  time_cost = x.time_cost;
  variant = variant_at x.variant;
  version = version_at x.newest;
}

-- the fact holds of any borrows of this secret and this associated data
abbrev pub Anywhere : List ℕ → List ℕ → (Bor (List ℕ) → Bor (List ℕ) → Type 0) → Type 0
Anywhere secret ad Fact = (s a : Bor (List ℕ)) → s.now ≡ secret → a.now ≡ ad → Fact s a

-- the answer is the settings table's error or, if there is none, either a resource error or `made` of the tag
abbrev pub Returns : Inputs → (Config → List ℕ → List ℕ) → Result (List ℕ) Error → Type 0
Returns x made answer = Anywhere x.secret x.ad (λ s a. let config = config_at x s a in
    IsHash x.pwd x.salt config (may_lack_workers config) (λ value tag. value ≡ made config tag) answer)

-- `Returns` for `hash_raw`, whose value is the tag
abbrev pub ReturnsTag : Inputs → Result (List ℕ) Error → Type 0
ReturnsTag x answer = Returns x (λ config tag. tag) answer

-- the PHC string of a tag
abbrev pub text_at : Inputs → Config → List ℕ → List ℕ
text_at x config tag = text_of (spelled_of config x.salt tag)

-- `Returns` for `hash_encoded`, whose value is the PHC string of the tag
abbrev pub ReturnsText : Inputs → Result (List ℕ) Error → Type 0
ReturnsText x answer = Returns x (text_at x) answer

-- the PHC string of each tag of these settings has `size` bytes
abbrev pub IsTextLength : Inputs → ℕ → Type 0
IsTextLength x size = Anywhere x.secret x.ad (λ s a. (tag : List ℕ) → length tag ≡ x.length → length (text_at x (config_at x s a) tag) ≡ size)

-- the answer of `verify_raw` is whether `hash` is the tag of as many bytes, or the table's error, or a resource error
abbrev pub JudgesHash : Inputs → List ℕ → Result Bool Error → Type 0
JudgesHash x hash answer = Anywhere x.secret x.ad (λ s a. let config = config_at x s a in
    IsVerdict x.pwd x.salt hash config (may_lack_workers config) answer)

-- a PHC string, and the password, the secret and the associated data for its verification
pub record Stored : Type 0 where
  pub encoded : List ℕ
  pub pwd : List ℕ
  pub secret : List ℕ
  pub ad : List ℕ

-- the answer is the verdict on `d.hash`, where d is a decoded PHC string
abbrev pub JudgesDecoded : Stored → Spelled → Bor (List ℕ) → Bor (List ℕ) → Result Bool Error → Type 0
JudgesDecoded x d s a answer = IsVerdict x.pwd d.salt d.hash (decoded_config d s a) (nat_lt 1 d.parallelism) answer

-- the answer of `verify_encoded_ext` is `DecodingFail`, or the verdict on the decoded hash
pub record JudgesText (x : Stored) (answer : Result Bool Error) : Type 0 where
  pub unspelled : SpellsNothing x.encoded → answer ≡ Err DecodingFail
  pub spelled : (d : Spelled) → Spells x.encoded d → Anywhere x.secret x.ad (λ s a. JudgesDecoded x d s a answer)

-- the answer of `verify_encoded_within` is `DecodingFail`, `TooCostly`, or the verdict on the decoded hash
pub record JudgesTextWithin (x : Stored) (limits : Limits) (answer : Result Bool Unverified) : Type 0 where
  pub unspelled : SpellsNothing x.encoded → answer ≡ Err (Refused DecodingFail)
  pub spelled : (d : Spelled) → Spells x.encoded d
      → Anywhere x.secret x.ad (λ s a. AnswersWithin (is_too_costly limits d) (JudgesDecoded x d s a) answer)
