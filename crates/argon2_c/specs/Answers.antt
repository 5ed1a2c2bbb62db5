-- What the calls answer, and how a string fills a buffer.
use Rattle.std.specs.Prelude.{◌≡◌, ℕ, ◌-◌, List, ◌++◌, length, replicate, Result, Ok, Err, Bool, true, false, Option, Some, None}
use Rattle.std.specs.Str.{IsAscii}
use Rattle.argon2_c.specs.declared.errors.CallError.{CallError}
use Rattle.argon2_c.specs.declared.errors.CallError.TheVariants.{WrongLength, Library, Mismatch, NotAscii}
use Rattle.argon2_standard.specs.declared.config.Config.{Config}
use Rattle.argon2_standard.specs.declared.error.Error.{Error}
use Rattle.argon2_standard.specs.declared.error.Error.TheVariants.{DecodingFail}
use Rattle.argon2_standard.specs.Standard.Grammar.{Spells, SpellsNothing}
use Rattle.argon2_standard.specs.Standard.Text.{Spelled, spelled_of, text_of}

-- ---- what a string leaves in a caller's buffer

-- the string, and zeros up to the buffer's length
abbrev pub padded : ℕ → List ℕ → List ℕ
padded len text = text ++ replicate (len - length text) 0

-- ---- what the calls return. The definitions take the configuration of some settings, or the error of the
-- settings' numbers. They build on the definitions in the library's own contracts

-- ---- errors

-- if the library has an error, it is returned and nothing changes; otherwise Done is true
abbrev pub OrError : {A : Type 0} → Option Error → A → A → Result (Unit {0}) CallError → Type 0 → Type 0
OrError (Some e) old new answer Done = (answer ≡ Err (Library e)) × (new ≡ old)
OrError None old new answer Done = Done

-- a string that is not ASCII or decodes to nothing is rejected, and nothing changes; otherwise Done is true of the
-- decoded value
pub record OfText {A : Type 0} (text : List ℕ) (old new : A) (answer : Result (Unit {0}) CallError) (Done : Spelled → Type 0) : Type 0 where
  pub not_ascii : (IsAscii text → ⊥) → (answer ≡ Err NotAscii) × (new ≡ old)
  pub unspelled : IsAscii text → SpellsNothing text → (answer ≡ Err (Library DecodingFail)) × (new ≡ old)
  pub spelled : IsAscii text → (d : Spelled) → Spells text d → Done d

-- if the buffers fit, `made` is written to them; otherwise they are unchanged
pub record WritesWhere {A : Type 0} (Fit : Type 0) (made old new : A) (answer : Result (Unit {0}) CallError) : Type 0 where
  pub wrong_length : (Fit → ⊥) → (answer ≡ Err WrongLength) × (new ≡ old)
  pub written : Fit → (answer ≡ Ok tt) × (new ≡ made)

-- ---- verdicts

-- a verdict as one answer: Ok where there is a match
abbrev pub judgement_of : Result Bool CallError → Result (Unit {0}) CallError
judgement_of (Ok true) = Ok tt
judgement_of (Ok false) = Err Mismatch
judgement_of (Err error) = Err error

-- Ok where Same holds and Mismatch where it does not
abbrev pub Tells : Type 0 → Result (Unit {0}) CallError → Type 0
Tells Same (Ok _) = Same
Tells Same (Err Mismatch) = Same → ⊥
Tells Same (Err error) = ⊥

-- ---- lengths

-- the length of the encoded hash of these settings; 0 where they have no configuration
abbrev pub IsTextLength : Result Config Error → ℕ → ℕ → Type 0
IsTextLength (Err e) salt_len len = len ≡ 0
IsTextLength (Ok config) salt_len len = (salt hash : List ℕ) → length salt ≡ salt_len → length hash ≡ config.hash_length
    → len ≡ length (text_of (spelled_of config salt hash))
