-- What is wrong with a string that decodes to nothing.
use Rattle.std.specs.Prelude.{◌≡◌, ◌⊎◌, ℕ, List, Option}
use Rattle.argon2_standard.specs.declared.version.Version.{Version}
use Rattle.argon2_standard.specs.declared.error.Error.{Error}
use Rattle.argon2_standard.specs.declared.error.Error.TheVariants.{DecodingFail, OutOfMemory}
use Rattle.argon2_standard.specs.Standard.Text.{Spelled}
use Rattle.argon2_standard.specs.Standard.Grammar.{Pieces, text_of_pieces, dollar, Lacks, IsVersion, IsNumber, IsItem, IsCut, IsHead, Spells, SpellsNothing}

-- the mark `,` between the costs of an encoded hash
abbrev pub comma : ℕ
comma = 44

abbrev pub IsNoVersion : Option (List ℕ) → Type 0
IsNoVersion piece = (version : Version) → IsVersion piece version → ⊥

abbrev pub IsNoNumber : List ℕ → Type 0
IsNoNumber text = (n : ℕ) → IsNumber text n → ⊥

abbrev pub IsSomeItem : List ℕ → Type 0
IsSomeItem text = (bytes : List ℕ) × IsItem text bytes

abbrev pub SpellsSome : List ℕ → Type 0
SpellsSome text = (d : Spelled) × Spells text d

-- the string is these pieces, and the salt has no `$`. The hash is the whole rest, base64 or not
pub record IsSplit (text : List ℕ) (pieces : Pieces) : Type 0 where
  pub whole : text ≡ text_of_pieces pieces
  pub salt : Lacks dollar pieces.salt

-- the string has all its pieces, and those before the salt decode, whatever the salt and the hash are
abbrev pub HasHead : List ℕ → Type 0
HasHead text = (pieces : Pieces) × (d : Spelled) × IsCut text pieces × IsHead pieces d

-- the same, where the hash may have a `$`
abbrev pub HasSplit : List ℕ → Type 0
HasSplit text = (pieces : Pieces) × (d : Spelled) × IsSplit text pieces × IsHead pieces d

-- what the error says: the string decodes to nothing, or it decodes to a value and an allocation failed
abbrev pub Refuses : List ℕ → Error → Type 0
Refuses text e = ((e ≡ DecodingFail) × SpellsNothing text) ⊎ ((e ≡ OutOfMemory) × SpellsSome text)
