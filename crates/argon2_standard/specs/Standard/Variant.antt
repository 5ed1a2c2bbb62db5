-- The names and numbers of the variants (RFC 9106, 3.2).
use Rattle.std.specs.Prelude.{◌≡◌, ◌⊎◌, ℕ, List, codes}
use Rattle.argon2_standard.specs.declared.variant.Variant.{Variant}
use Rattle.argon2_standard.specs.declared.variant.Variant.TheVariants.{Argon2d, Argon2i, Argon2id}

-- the number that is hashed for the variant (RFC 9106, 3.2)
abbrev pub variant_number : Variant → ℕ
variant_number Argon2d = 0
variant_number Argon2i = 1
variant_number Argon2id = 2

-- the name that an encoded hash is written with
abbrev pub lowercase_name : Variant → List ℕ
lowercase_name Argon2d = codes "argon2d"
lowercase_name Argon2i = codes "argon2i"
lowercase_name Argon2id = codes "argon2id"

-- the other name that is accepted: wider than the PHC string format, which has only lower case
abbrev pub capitalised_name : Variant → List ℕ
capitalised_name Argon2d = codes "Argon2d"
capitalised_name Argon2i = codes "Argon2i"
capitalised_name Argon2id = codes "Argon2id"

-- one of the two names of a variant
abbrev pub IsName : List ℕ → Variant → Type 0
IsName name variant = (name ≡ lowercase_name variant) ⊎ (name ≡ capitalised_name variant)
