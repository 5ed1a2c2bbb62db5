-- The default limits, and the messages of why nothing was verified.
use Rattle.std.specs.Prelude.{ℕ, List, codes}
use Rattle.argon2_standard.specs.Views.Messages.{message_of as refusal_text}
use Rattle.argon2.specs.declared.limits.Limits.{Limits}
use Rattle.argon2.specs.declared.limits.Unverified.{Unverified}
use Rattle.argon2.specs.declared.limits.Unverified.TheVariants.{TooCostly, Refused}

-- KiB, passes, lanes, and KiB times passes: both recommendations fit (RFC 9106, 4)
abbrev pub default_limits : Limits
default_limits = record { mem_cost = 2097152; time_cost = 10; lanes = 16; work = 4194304 }

abbrev pub message_of : Unverified → List ℕ
message_of TooCostly = codes "The encoded hash is above the limits"
message_of (Refused e) = refusal_text e
