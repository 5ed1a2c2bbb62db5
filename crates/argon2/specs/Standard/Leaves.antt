-- What a call leaves in a caller-provided memory.
use Rattle.std.specs.Prelude.{◌≡◌, ℕ, Bool, List, Result, IsNone, IsSome, OnErr, OnOk, length}
use Rattle.argon2_standard.specs.declared.config.Config.{Config}
use Rattle.argon2_standard.specs.declared.error.Error.{Error}
use Rattle.argon2_standard.specs.Standard.SettingsTable.{table_error}
use Rattle.argon2_standard.specs.Standard.Prehash.{setting_of}
use Rattle.argon2_memory.specs.Standard.Kept.{MemoryValue, HoldsFill, IsLeft}

-- the memory before and after a call with a hash of len bytes. If the settings table rejects
-- something, it is unchanged. Otherwise it contains the last pass's blocks or, after a resource error, what
-- `IsLeft` says
pub record LeavesMemory {A : Type 0} (pwd salt : List ℕ) (config : Config) (len : ℕ) (workers : Bool) (before after : MemoryValue)
    (answer : Result A Error) : Type 0 where
  pub kept : IsSome (table_error config (length pwd) (length salt) len) → after ≡ before
  pub filled : OnOk answer (HoldsFill (setting_of pwd salt config len) after)
  pub left : IsNone (table_error config (length pwd) (length salt) len) →
      OnErr answer (IsLeft workers (setting_of pwd salt config len) before after)
