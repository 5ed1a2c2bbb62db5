-- The names of variants, versions and thread modes.
use Rattle.std.specs.Prelude.{◌≡◌, ℕ, List, nat_lt, if◌then◌else◌}
use Rattle.argon2_standard.specs.declared.variant.Variant.{Variant}
use Rattle.argon2_standard.specs.Standard.Variant.{variant_number, IsName}
use Rattle.argon2_standard.specs.declared.version.Version.{Version}
use Rattle.argon2_standard.specs.Standard.Version.{version_number, version_text}
use Rattle.argon2_standard.specs.declared.thread_mode.ThreadMode.{ThreadMode}
use Rattle.argon2_standard.specs.declared.thread_mode.ThreadMode.TheVariants.{Sequential, Parallel}

-- ---- names and numbers that no variant or version has

abbrev pub IsNoVariantNumber : ℕ → Type 0
IsNoVariantNumber number = (variant : Variant) → variant_number variant ≡ number → ⊥

abbrev pub IsNoName : List ℕ → Type 0
IsNoName name = (variant : Variant) → IsName name variant → ⊥

abbrev pub IsNoVersionNumber : ℕ → Type 0
IsNoVersionNumber number = (version : Version) → version_number version ≡ number → ⊥

abbrev pub IsNoVersionText : List ℕ → Type 0
IsNoVersionText number = (version : Version) → number ≡ version_text version → ⊥

-- ---- the mode of a number of threads

abbrev pub mode_of_threads : ℕ → ThreadMode
mode_of_threads threads = if nat_lt 1 threads then Parallel else Sequential
