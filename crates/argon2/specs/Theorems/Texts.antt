-- Theorems of the encoded hash.
use Rattle.std.specs.Prelude.{◌≡◌, ◌⊎◌, ℕ, ◌==◌, ◌<◌, ◌^◌, List, [], ◌∷◌, ◌++◌, codes, count_by, length, None, Result, Bool, IsTrue, MatchResult}
use Rattle.std.specs.Fmt.{decimal}
use Rattle.std.specs.List.{join_with_byte}
use Rattle.base64.specs.GeneralPurpose.{IsBytes}
use Rattle.argon2_standard.specs.declared.config.Config.{Config}
use Rattle.argon2_standard.specs.declared.error.Error.{Error}
use Rattle.argon2_standard.specs.declared.variant.Variant.TheVariants.{Argon2i}
use Rattle.argon2_standard.specs.declared.version.Version.TheVariants.{Version10}
use Rattle.argon2_standard.specs.Standard.Outcome.{IsResourceError}
use Rattle.argon2_standard.specs.Standard.SettingsTable.{table_error}
use Rattle.argon2_standard.specs.Standard.Decoded.{decoded_config}
use Rattle.argon2_standard.specs.Standard.Tag.{tag_of}
use Rattle.argon2_standard.specs.Standard.Variant.{lowercase_name}
use Rattle.argon2_standard.specs.Standard.Outcome.{IsVerdict}
use Rattle.argon2_standard.specs.Standard.Version.{version_text}
use Rattle.argon2_standard.specs.Standard.Text.{Spelled, base64, spelled_of, text_of}
use Rattle.argon2_text.specs.Views.Faults.{HasHead, comma}
use Rattle.argon2_standard.specs.Standard.Grammar.{Spells, dollar}

-- a string decodes to at most one value
abbrev pub SpellsOne : Type 0
SpellsOne = (text : List ℕ) (d e : Spelled) → Spells text d → Spells text e → d ≡ e

-- the costs and the lanes fit 32 bits, and the salt and the hash are bytes
pub record IsInRange (d : Spelled) : Type 0 where
  pub mem_cost : d.mem_cost < 2 ^ 32
  pub time_cost : d.time_cost < 2 ^ 32
  pub parallelism : d.parallelism < 2 ^ 32
  pub salt : IsBytes d.salt
  pub hash : IsBytes d.hash

-- an encoded hash decodes to the value that it was written for
abbrev pub SpellsOwnValue : Type 0
SpellsOwnValue = (d : Spelled) → IsInRange d → Spells (text_of d) d

-- the costs between the `,` of an encoded hash
abbrev pub costs_of : Spelled → List (List ℕ)
costs_of d =
    (codes "m=" ++ decimal d.mem_cost)
    ∷ (codes "t=" ++ decimal d.time_cost)
    ∷ (codes "p=" ++ decimal d.parallelism) ∷ []

-- the items between its `$`: nothing, the name, the version, the costs, the salt and the hash
abbrev pub items_of : Spelled → List (List ℕ)
items_of d =
    []
    ∷ lowercase_name d.variant
    ∷ (codes "v=" ++ version_text d.version)
    ∷ join_with_byte comma (costs_of d)
    ∷ base64 d.salt
    ∷ base64 d.hash ∷ []

-- the encoded hash, defined a second time, by its items
abbrev pub IsJoinedItems : Type 0
IsJoinedItems = (d : Spelled) → text_of d ≡ join_with_byte dollar (items_of d)

-- a string whose head decodes begins with `$` and has four or five `$`, so it has five or six
-- items, the first of which is empty
pub record HasItems (text : List ℕ) : Type 0 where
  pub behind : List ℕ
  pub begins : text ≡ dollar ∷ behind
  pub marks : (count_by (λ b. b == dollar) text ≡ 4) ⊎ (count_by (λ b. b == dollar) text ≡ 5)

abbrev pub HeadHasItems : Type 0
HeadHasItems = (text : List ℕ) → HasHead text → HasItems text

-- a value, and two strings that decode to it: the one that is written, and one that uses every freedom of
-- the format
abbrev pub example_value : Spelled
example_value = record {
  variant = Argon2i;
  version = Version10;
  mem_cost = 4096;
  time_cost = 3;
  parallelism = 1;
  salt = codes "salt1234";
  hash = codes "12345678901234567890123456789012";
}

abbrev pub WritesExample : Type 0
WritesExample = text_of example_value
    ≡ codes "$argon2i$v=16$m=4096,t=3,p=1$c2FsdDEyMzQ$MTIzNDU2Nzg5MDEyMzQ1Njc4OTAxMjM0NTY3ODkwMTI"

abbrev pub SpellsExample : Type 0
SpellsExample = Spells
    (codes "$Argon2i$m=+4096,t=03,p=1$c2FsdDEyMzQ$MTIzNDU2Nzg5MDEyMzQ1Njc4OTAxMjM0NTY3ODkwMTI")
    example_value

-- the ranges of the numbers and bytes of a configuration and a salt
pub record IsInput (config : Config) (given_salt : List ℕ) : Type 0 where
  pub mem_cost : config.mem_cost < 2 ^ 32
  pub time_cost : config.time_cost < 2 ^ 32
  pub lanes : config.lanes < 2 ^ 32
  pub salt : IsBytes given_salt

-- the answer says that the hash is the tag, or it is a resource error
abbrev pub IsVerified : Bool → Result Bool Error → Type 0
IsVerified workers answer = MatchResult answer (λ same. IsTrue same) (IsResourceError workers)

-- the encoded hash of an accepted tag decodes to a value that verifies with the same password, secret and
-- associated data, whatever the thread mode
abbrev pub HashedTextVerifies : Type 0
HashedTextVerifies = (pwd salt : List ℕ) (config : Config) (len : ℕ) → IsInput config salt → table_error config (length pwd) (length salt) len ≡ None →
    let text = text_of (spelled_of config salt (tag_of pwd salt config len)) in
    (d : Spelled) × Spells text d × ((workers : Bool) (answer : Result Bool Error) →
    IsVerdict pwd d.salt d.hash (decoded_config d config.secret config.ad) workers answer → IsVerified workers answer)
