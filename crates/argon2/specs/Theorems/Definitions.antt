-- Theorems of the blocks, the tag and the verdict.
use Rattle.std.specs.Prelude.{◌≡◌, ℕ, List, length, None, Result, Bool, IsTrue, MatchResult}
use Rattle.argon2_standard.specs.declared.config.Config.{Config}
use Rattle.argon2_standard.specs.declared.error.Error.{Error}
use Rattle.argon2_standard.specs.declared.thread_mode.ThreadMode.{ThreadMode}
use Rattle.argon2_standard.specs.Standard.Outcome.{IsResourceError}
use Rattle.argon2_standard.specs.Standard.Setting.{Setting, Position}
use Rattle.argon2_memory.specs.Views.Jobs.{IsSetting, IsPosition}
use Rattle.argon2_standard.specs.Standard.SettingsTable.{table_error}
use Rattle.argon2_standard.specs.Standard.Recurrence.{Blocks, recurrence, block_at}
use Rattle.argon2_standard.specs.Standard.Tag.{tag_of}
use Rattle.argon2_standard.specs.Standard.Outcome.{IsVerdict}

-- the blocks meet the recurrence at each place
abbrev pub MeetsRecurrence : Type 0
MeetsRecurrence = (s : Setting) → IsSetting s → (at : Position) → IsPosition s at → block_at s at ≡ recurrence s (block_at s) at

-- and no other function of places does
abbrev pub IsOnlySolution : Type 0
IsOnlySolution = (s : Setting) → IsSetting s → (f : Blocks) →
    ((at : Position) → IsPosition s at → f at ≡ recurrence s f at) → (at : Position) → IsPosition s at → f at ≡ block_at s at

-- the tag does not depend on the thread mode
abbrev pub TagForgetsMode : Type 0
TagForgetsMode = (pwd salt : List ℕ) (config : Config) (mode : ThreadMode) (len : ℕ) →
    tag_of pwd salt (record config { thread_mode = mode }) len ≡ tag_of pwd salt config len

-- the configuration's hash_length field changes neither the error nor the tag, since the length is
-- given separately
abbrev pub LengthIsTheHash : Type 0
LengthIsTheHash = (pwd salt : List ℕ) (config : Config) (field len : ℕ) →
    (table_error (record config { hash_length = field }) (length pwd) (length salt) len ≡ table_error config (length pwd) (length salt) len)
    × (tag_of pwd salt (record config { hash_length = field }) len ≡ tag_of pwd salt config len)

-- `tag_of` for length len has len bytes. If the settings are accepted, the verdict on this tag with the same inputs is
-- true, or a resource error occurs
abbrev pub OwnTagVerifies : Type 0
OwnTagVerifies = (pwd salt : List ℕ) (config : Config) (len : ℕ) →
    let tag = tag_of pwd salt config len in
    (length tag ≡ len) × (table_error config (length pwd) (length salt) len ≡ None →
    (workers : Bool) (answer : Result Bool Error) → IsVerdict pwd salt tag config workers answer →
    MatchResult answer (λ same. IsTrue same) (IsResourceError workers))
