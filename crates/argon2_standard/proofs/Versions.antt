-- How versions are printed.
use Rattle.std.proofs.Common.{◌≡◌, codes, ℕ, List, refl}
use Rattle.std.specs.Fmt.{digits}
use Rattle.argon2_standard.specs.Standard.Version.{version_text}
use Rattle.argon2_standard.specs.declared.version.Version.{Version}
use Rattle.argon2_standard.specs.declared.version.Version.TheVariants.{Version10, Version13}

-- a version's number, digit by digit
abbrev pub digits_of_version : Version → List ℕ
digits_of_version Version10 = codes "16"
digits_of_version Version13 = codes "19"

-- `digits_of_version` of a version is the version's text
pub version_in_digits : (version : Version) → version_text version ≡ digits_of_version version
unfolding digits
version_in_digits Version10 = refl
version_in_digits Version13 = refl
