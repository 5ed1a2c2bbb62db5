-- The numbers of the versions (RFC 9106, 3.2), and how an encoded hash writes them.
use Rattle.std.specs.Prelude.{ℕ, List}
use Rattle.std.specs.Fmt.{decimal}
use Rattle.argon2_standard.specs.declared.version.Version.{Version}
use Rattle.argon2_standard.specs.declared.version.Version.TheVariants.{Version10, Version13}

-- the number that is hashed for the version (RFC 9106, 3.2)
abbrev pub version_number : Version → ℕ
version_number Version10 = 0x10
version_number Version13 = 0x13

-- the number in decimals: `16` or `19`
abbrev pub version_text : Version → List ℕ
version_text version = decimal (version_number version)
