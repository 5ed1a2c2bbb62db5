-- Which strings decode to which value: a relation on whole strings. As in rust-argon2, it accepts more than the
-- PHC strings that are written: a name may have a capital, a number may have a plus and leading zeros, and the
-- version may be missing.
use Rattle.std.specs.Prelude.{◌≡◌, ◌≢◌, ◌⊎◌, ℕ, ◌<◌, ◌^◌, List, [], ◌++◌, codes, Option, Some, None}
use Rattle.std.specs.List.{AllByRecursion}
use Rattle.std.specs.Str.Parse.{IsNumeral, digits_value}
use Rattle.base64.specs.GeneralPurpose.{IsBytes}
use Rattle.argon2_standard.specs.declared.version.Version.{Version}
use Rattle.argon2_standard.specs.declared.version.Version.TheVariants.{Version10}
use Rattle.argon2_standard.specs.Standard.Variant.{IsName}
use Rattle.argon2_standard.specs.Standard.Version.{version_text}
use Rattle.argon2_standard.specs.Standard.Text.{Spelled, base64}

-- the mark `$` between the items of an encoded hash
abbrev pub dollar : ℕ
dollar = 36

-- the pieces of an encoded hash, each as it is written there; the version may be missing
pub record Pieces : Type 0 where
  pub name : List ℕ
  pub version : Option (List ℕ)
  pub memory : List ℕ
  pub time : List ℕ
  pub lanes : List ℕ
  pub salt : List ℕ
  pub hash : List ℕ

-- the version with its mark, or nothing
abbrev pub version_part : Option (List ℕ) → List ℕ
version_part None = []
version_part (Some number) = codes "$v=" ++ number

-- the string of these pieces, with nothing else before, between or after them
unfoldable pub text_of_pieces : Pieces → List ℕ
text_of_pieces pieces =
    codes "$" ++ pieces.name ++ version_part pieces.version
    ++ codes "$m=" ++ pieces.memory ++ codes ",t=" ++ pieces.time ++ codes ",p=" ++ pieces.lanes
    ++ codes "$" ++ pieces.salt ++ codes "$" ++ pieces.hash

-- no byte of the string is c
abbrev pub Lacks : ℕ → List ℕ → Type 0
Lacks c text = AllByRecursion (λ b. b ≢ c) text

-- 16 or 19. A missing version means 16
abbrev pub IsVersion : Option (List ℕ) → Version → Type 0
IsVersion None version = version ≡ Version10
IsVersion (Some number) version = number ≡ version_text version

-- a plus or nothing, and one or more decimal digits whose value fits 32 bits: wider than the PHC string
-- format, which has neither the plus nor leading zeros
pub record IsNumber (text : List ℕ) (n : ℕ) : Type 0 where
  pub sign : List ℕ
  pub digits : List ℕ
  pub whole : text ≡ sign ++ digits
  pub plus : (sign ≡ []) ⊎ (sign ≡ codes "+")
  pub decimal : IsNumeral 10 digits
  pub value : digits_value 10 digits ≡ n
  pub fits : n < 2 ^ 32

-- the unpadded base64 of the bytes
pub record IsItem (text bytes : List ℕ) : Type 0 where
  pub encoded : text ≡ base64 bytes
  pub bytes_fit : IsBytes bytes

-- the string is these pieces, and neither the salt nor the hash has a `$`
pub record IsCut (text : List ℕ) (pieces : Pieces) : Type 0 where
  pub whole : text ≡ text_of_pieces pieces
  pub salt : Lacks dollar pieces.salt
  pub hash : Lacks dollar pieces.hash

-- the pieces before the salt decode to what d has before its salt
pub record IsHead (pieces : Pieces) (d : Spelled) : Type 0 where
  pub name : IsName pieces.name d.variant
  pub version : IsVersion pieces.version d.version
  pub memory : IsNumber pieces.memory d.mem_cost
  pub time : IsNumber pieces.time d.time_cost
  pub lanes : IsNumber pieces.lanes d.parallelism

-- the string decodes to the value
pub record Spells (text : List ℕ) (d : Spelled) : Type 0 where
  pub pieces : Pieces
  pub cut : IsCut text pieces
  pub head : IsHead pieces d
  pub salt : IsItem pieces.salt d.salt
  pub hash : IsItem pieces.hash d.hash

-- the string decodes to no value at all
abbrev pub SpellsNothing : List ℕ → Type 0
SpellsNothing text = (d : Spelled) → Spells text d → ⊥
