-- What the calls within limits return.
use Rattle.std.specs.Prelude.{◌≡◌, ◌||◌, ◌*◌, ℕ, Bool, true, false, nat_lt, Result, Ok, Err}
use Rattle.argon2_standard.specs.declared.error.Error.{Error}
use Rattle.argon2_standard.specs.Standard.Text.{Spelled}
use Rattle.argon2.specs.declared.limits.Limits.{Limits}
use Rattle.argon2.specs.declared.limits.Unverified.{Unverified}
use Rattle.argon2.specs.declared.limits.Unverified.TheVariants.{TooCostly, Refused}

-- whether this much memory in KiB, this many passes or lanes, or the product of memory and passes exceeds a
-- limit
abbrev pub are_exceeded : Limits → ℕ → ℕ → ℕ → Bool
are_exceeded limits mem_cost time_cost lanes =
    nat_lt limits.mem_cost mem_cost || nat_lt limits.time_cost time_cost || nat_lt limits.lanes lanes || nat_lt limits.work (mem_cost * time_cost)

-- what was decoded is above a limit
abbrev pub is_too_costly : Limits → Spelled → Bool
is_too_costly limits d = are_exceeded limits d.mem_cost d.time_cost d.parallelism

-- TooCostly for a hash above the limits; otherwise an answer of the call without limits
abbrev pub AnswersWithin : Bool → (Result Bool Error → Type 0) → Result Bool Unverified → Type 0
AnswersWithin true Answers result = result ≡ Err TooCostly
AnswersWithin false Answers (Ok same) = Answers (Ok same)
AnswersWithin false Answers (Err (Refused e)) = Answers (Err e)
AnswersWithin false Answers (Err TooCostly) = ⊥
