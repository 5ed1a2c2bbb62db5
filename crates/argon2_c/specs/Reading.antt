-- What an encoded hash and its head decode to.
use Rattle.std.specs.Prelude.{◌≡◌, ℕ, Bool, true, false, List, length, min, Result, Ok, Err, ◌⊎◌}
use Rattle.std.specs.Str.{IsAscii}
use Rattle.argon2_standard.specs.declared.config.Config.{Config}
use Rattle.argon2_standard.specs.declared.error.Error.{Error}
use Rattle.argon2.specs.Standard.Limits.{is_too_costly}
use Rattle.argon2_standard.specs.Standard.Decoded.{Agrees}
use Rattle.argon2_standard.specs.Standard.SettingsTable.{max_length}
use Rattle.argon2_standard.specs.Standard.Text.{Spelled}
use Rattle.argon2_standard.specs.Standard.Variant.{variant_number}
use Rattle.argon2_standard.specs.Standard.Version.{version_number}
use Rattle.argon2.specs.declared.limits.Limits.{Limits as LibraryLimits}
use Rattle.argon2_c.specs.Answers.{OfText, WritesWhere}
use Rattle.argon2_c.specs.declared.reading.Stored.{Stored}
use Rattle.argon2_c.specs.declared.errors.CallError.{CallError}
use Rattle.argon2_c.specs.declared.errors.CallError.TheVariants.{Library, NeedsRehash, TooCostly, NotAscii}
use Rattle.argon2_standard.specs.declared.error.Error.TheVariants.{DecodingFail}
use Rattle.argon2_standard.specs.Standard.Grammar.{SpellsNothing}
use Rattle.argon2_text.specs.Views.Texts.{IsSpellingOf}
use Rattle.argon2_text.specs.declared.encoding.reading.Head.{Head}

-- ---- results of the calls that look at an encoded hash and verify nothing

-- ---- the numbers

-- a length, but at most 2^32 - 1, as a field of 32 bits holds it
abbrev pub held : ℕ → ℕ
held len = min len max_length

-- the numbers of what a string decodes to, with the lengths of its salt and its hash
abbrev pub stored_of : Spelled → Stored
stored_of d = record {
  settings = record {
    variant = variant_number d.variant;
    version = version_number d.version;
    mem_cost = d.mem_cost;
    time_cost = d.time_cost;
    lanes = d.parallelism;
    hash_length = held (length d.hash);
  };
  salt_length = held (length d.salt);
}

-- the numbers of what the string decodes to
abbrev pub ReadsText : List ℕ → Stored → Stored → Result (Unit {0}) CallError → Type 0
ReadsText text old new answer = OfText text old new answer (λ d. (answer ≡ Ok tt) × (new ≡ stored_of d))

-- the same or, above the limits, TooCostly and the old numbers
abbrev pub ReadsWithin : Bool → Stored → Stored → Stored → Result (Unit {0}) CallError → Type 0
ReadsWithin true spelled old new answer = (answer ≡ Err TooCostly) × (new ≡ old)
ReadsWithin false spelled old new answer = (answer ≡ Ok tt) × (new ≡ spelled)

abbrev pub ReadsTextWithin : LibraryLimits → List ℕ → Stored → Stored → Result (Unit {0}) CallError → Type 0
ReadsTextWithin limits text old new answer = OfText text old new answer (λ d. ReadsWithin (is_too_costly limits d) (stored_of d) old new answer)

-- ---- the salt and the hash

-- the buffers of a salt and a hash
pub record Items : Type 0 where
  pub salt : List ℕ
  pub hash : List ℕ

-- the buffers have just the lengths of a salt and a hash
abbrev pub AreLengths : Items → Items → Type 0
AreLengths items buffers = (length buffers.salt ≡ length items.salt) × (length buffers.hash ≡ length items.hash)

abbrev pub items_of : Spelled → Items
items_of d = record { salt = d.salt; hash = d.hash }

abbrev pub ReadsBytes : List ℕ → Items → Items → Result (Unit {0}) CallError → Type 0
ReadsBytes text old new answer = OfText text old new answer (λ d. WritesWhere (AreLengths (items_of d) old) (items_of d) old new answer)

-- ---- comparing

-- Ok where Same holds and NeedsRehash where it does not
abbrev pub Compares : Type 0 → Result (Unit {0}) CallError → Type 0
Compares Same (Ok _) = Same
Compares Same (Err NeedsRehash) = Same → ⊥
Compares Same (Err error) = ⊥

-- the error of the settings' numbers comes first
abbrev pub ComparesSettings : Result Config Error → List ℕ → Result (Unit {0}) CallError → Type 0
ComparesSettings (Err e) text answer = answer ≡ Err (Library e)
ComparesSettings (Ok config) text answer = OfText text (tt {0}) (tt {0}) answer (λ d. Compares (Agrees d config) answer)

-- ---- the head of an encoded hash: what it decodes to before the salt, and the salt and the hash in base64

-- the string decodes to a value with this head
abbrev pub HasHead : List ℕ → Head → Type 0
HasHead text h = IsAscii text × IsSpellingOf text h

-- why the string has no head
abbrev pub HasNone : List ℕ → CallError → Type 0
HasNone text error = ((error ≡ NotAscii) × (IsAscii text → ⊥)) ⊎ ((error ≡ Library DecodingFail) × IsAscii text × SpellsNothing text)
