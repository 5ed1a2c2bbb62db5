-- Which thread modes start workers.
use Rattle.std.specs.Prelude.{ℕ, Bool, true, ◌==◌, ◌||◌, not, nat_le}
use Rattle.argon2_standard.specs.declared.config.Config.{Config}
use Rattle.argon2_standard.specs.declared.thread_mode.ThreadMode.{ThreadMode}
use Rattle.argon2_standard.specs.declared.thread_mode.ThreadMode.TheVariants.{Sequential, Parallel, AtMost}

-- whether the caller's thread fills this many lanes alone
abbrev pub fills_alone : ThreadMode → ℕ → Bool
fills_alone Sequential lanes = true
fills_alone Parallel lanes = lanes == 1
fills_alone (AtMost most) lanes = nat_le most 1 || (lanes == 1)

-- whether the caller's thread fills a configuration's lanes alone
abbrev pub uses_sequential : Config → Bool
uses_sequential config = fills_alone config.thread_mode config.lanes

-- whether workers are started, so that a worker may fail to start
abbrev pub may_lack_workers : Config → Bool
may_lack_workers config = not (uses_sequential config)
