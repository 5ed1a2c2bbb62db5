-- What the arguments of each command have to be.
use Rattle.std.specs.Prelude.{◌≡◌, ℕ, ◌<◌, List, [], ◌∷◌, codes, length, slice_index_or, ⊤}
use Rattle.argon2_standard.specs.Standard.Variant.{IsName}
use Rattle.argon2_standard.specs.Standard.Version.{version_text}
use Rattle.argon2_standard.specs.declared.variant.Variant as variants
use Rattle.argon2_standard.specs.declared.version.Version as versions
use Rattle.argon2_standard.specs.declared.thread_mode.ThreadMode.{ThreadMode}
use Rattle.argon2_commands.specs.Words.{IsMode, IsNumber, word}
use Rattle.argon2_commands.specs.declared.usage.Kind.{Kind}
use Rattle.argon2_commands.specs.declared.usage.Kind.TheVariants.{Variant, Version, Number, Mode, Text}
use Rattle.argon2_commands.specs.declared.usage.Name.{Name}
use Rattle.argon2_commands.specs.declared.usage.Name.TheVariants.{Hash, Verify, Rehash}

abbrev pub name_text : Name → List ℕ
name_text Hash = codes "hash"
name_text Verify = codes "verify"
name_text Rehash = codes "rehash"

-- no command has this name
abbrev pub IsNoName : List ℕ → Type 0
IsNoName word = (name : Name) → word ≡ name_text name → ⊥

-- what the arguments of a command have to be, its name first
abbrev pub kinds_of : Name → List Kind
kinds_of Hash = Text ∷ Variant ∷ Version ∷ Number ∷ Number ∷ Number ∷ Number ∷ Mode ∷ Text ∷ []
kinds_of Rehash = Text ∷ Variant ∷ Version ∷ Number ∷ Number ∷ Number ∷ Number ∷ Text ∷ []
kinds_of Verify = Text ∷ Text ∷ []

-- the argument is what it has to be
abbrev pub Fits : Kind → List ℕ → Type 0
Fits Variant word = (variant : variants.Variant) × IsName word variant
Fits Version word = (version : versions.Version) × (word ≡ version_text version)
Fits Number word = (number : ℕ) × IsNumber word number
Fits Mode word = (mode : ThreadMode) × IsMode word mode
Fits Text word = ⊤

abbrev pub kind_at : List Kind → ℕ → Kind
kind_at kinds place = slice_index_or kinds place Text

-- all arguments before a place fit
abbrev pub FitBelow : List Kind → List (List ℕ) → ℕ → Type 0
FitBelow kinds words end = (place : ℕ) → place < end → Fits (kind_at kinds place) (word words place)

-- the argument at a place is not what it has to be
abbrev pub IsWrong : List Kind → List (List ℕ) → ℕ → Type 0
IsWrong kinds words place = (place < length kinds) × (Fits (kind_at kinds place) (word words place) → ⊥)

-- each argument of the command is what it has to be
pub record AreRight (words : List (List ℕ)) (name : Name) : Type 0 where
  pub is : word words 0 ≡ name_text name
  pub count : length words ≡ length (kinds_of name)
  pub fit : FitBelow (kinds_of name) words (length (kinds_of name))

-- the arguments VARIANT VERSION T M P LEN are what they have to be
pub record SettingsFit (words : List (List ℕ)) : Type 0 where
  pub variant : Fits Variant (word words 1)
  pub version : Fits Version (word words 2)
  pub time_cost : Fits Number (word words 3)
  pub mem_cost : Fits Number (word words 4)
  pub lanes : Fits Number (word words 5)
  pub hash_length : Fits Number (word words 6)
