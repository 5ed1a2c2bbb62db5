-- What a run answers, and with which status.
use Rattle.std.proofs.Common.{◌≡◌, ℕ, true, false, List, Option, Result, Ok, Err, ap, arith, inl, inr, refl, subst}
use Rattle.std.proofs.Common.{sym, ◌∙◌, ◌↔◌, ◌<◌, ◌≤◌, ◌⊎◌, None, Some, MatchOption, IfErr, ◌+◌, ◌-◌, ◌++◌, drop, length, length-take, take}
use Rattle.argon2_standard.specs.declared.error.Error.{Error}
use Rattle.argon2_commands.specs.Answer.{MayFail, answer_status, MayBeError}
use Rattle.argon2_commands.specs.Fault.{IsBeforeOutput, fault_status}
use Rattle.argon2_commands.specs.Run.{Answered, HasAnswer, MayFailWith, IsShortOrFails, AppendsFront}
use Rattle.argon2_commands.specs.Words.{IsCommand, IsNoCommand}
use Rattle.argon2_commands.specs.declared.answer.Answer.{Answer}
use Rattle.argon2_commands.specs.declared.answer.Answer.TheVariants.{Hashed, Verdict}
use Rattle.argon2_commands.specs.declared.command.Command.{Command}
use Rattle.argon2_commands.specs.declared.fault.Fault.{Fault}
use Rattle.argon2_commands.specs.declared.fault.Fault.TheVariants.{Usage, Input, Refused, Output, OutputShort}
use Rattle.std.specs.Io.KnownBytes.{Keeps, Appends}
use Rattle.std.specs.Result.{IsErr, IsErrAnd}
use Rattle.argon2_standard.specs.declared.error.Error.TheVariants.{OutOfMemory}
use lib.Seq.{take-add, take-take}
use Rattle.std.proofs.KnownBytes.{Appends-kept, Appends-trans}

-- ---- what an exit status says of a run

-- ---- faults

pub fault_bounded : (fault : Fault) (status : ℕ) → status ≡ fault_status fault → status < 5
fault_bounded (Refused error) status e = omega arith
fault_bounded Usage status e = omega arith
fault_bounded Input status e = omega arith
fault_bounded Output status e = omega arith
fault_bounded OutputShort status e = omega arith

pub fault_above : (fault : Fault) (status : ℕ) → status ≡ fault_status fault → 1 < status
fault_above (Refused error) status e = omega arith
fault_above Usage status e = omega arith
fault_above Input status e = omega arith
fault_above Output status e = omega arith
fault_above OutputShort status e = omega arith

pub no_fault : {A : Type 0} (fault : Fault) (status : ℕ) → status ≡ fault_status fault → status < 2 → A
no_fault fault status e low = let above = fault_above fault status e in absurd (omega (arith, above, low))

-- only the fault Usage has the status 3
pub at_three : (fault : Fault) (status : ℕ) → status ≡ fault_status fault → status ≡ 3 → fault ≡ Usage
at_three (Refused error) status e three = absurd (omega arith)
at_three Usage status e three = refl
at_three Input status e three = absurd (omega arith)
at_three Output status e three = absurd (omega arith)
at_three OutputShort status e three = absurd (omega arith)

-- 2 is the status of an error before anything was written, and of an output that lacked memory
pub at_two : (fault : Fault) (status : ℕ) (words : List (List ℕ)) (input before after : Option (List ℕ)) → status ≡ fault_status fault →
    ((error : Error) → fault ≡ Refused error → MayFailWith words input error) → (fault ≡ OutputShort → HasAnswer words input) →
    (IsBeforeOutput fault → Keeps before after) → status ≡ 2 → IsShortOrFails words input before after
at_two (Refused error) status words input before after e refused short kept two = inl ((error, refused error refl), kept tt)
at_two Usage status words input before after e refused short kept two = absurd (omega arith)
at_two Input status words input before after e refused short kept two = absurd (omega arith)
at_two Output status words input before after e refused short kept two = absurd (omega arith)
at_two OutputShort status words input before after e refused short kept two = inr (short refl)

-- if P is equivalent to the fault Usage, P is equivalent to the status 3
pub usage_status : (fault : Fault) (status : ℕ) (P : Type 0) → status ≡ fault_status fault →
    (let r : Result ℕ Fault = Err fault in r ≡ Err Usage) ↔ P → (status ≡ 3) ↔ P
usage_status fault status P e h = (
  λ three. h.0 (ap Err (at_three fault status e three)),
  λ p. let same = h.1 p in let usage : fault ≡ Usage = cc in e ∙ ap fault_status usage,
)

-- ---- answers

-- the status of an answer is 0 or 1
answer_below : (answer : Answer) → answer_status answer < 2
answer_below (Hashed lines) = omega arith
answer_below (Verdict true) = omega arith
answer_below (Verdict false) = omega arith

module _ {words : List (List ℕ)} {input before after : Option (List ℕ)} {status : ℕ} where
  -- the status of a run that answers is 0 or 1
  answered_below : Answered words input before after status → status < 2
  answered_below h = subst (λ n. n < 2) (sym h.is_status) (answer_below h.answer)

  pub answered_bounded : Answered words input before after status → status < 5
  answered_bounded h = let below = answered_below h in omega (arith, below)

  -- a run that answers has no status `other` that is 2 or more
  pub answered_not : {A : Type 0} (other : ℕ) → 2 ≤ other → Answered words input before after status → status ≡ other → A
  answered_not other high h same = let below = answered_below h in absurd (omega (arith, below, high, same))

  -- for a run that answers, status 3 is equivalent to words of no command, since neither is possible
  pub answered_usage : Answered words input before after status → (status ≡ 3) ↔ IsNoCommand words
  answered_usage h = (answered_not 3 (omega arith) h, λ none. absurd (none h.command h.is_command))

-- ---- faults that are passed on, and what is known of accepted values

-- if a result is an error equal to `fault` and P holds of `fault`, P holds of the result's error
pub passed_on : {A E : Type 0} (result : Result A E) (fault : E) (P : E → Type 0) →
    IsErr result × IsErrAnd result (λ other. other ≡ fault) → P fault → IfErr result P
passed_on (Ok _) fault P h p = tt
passed_on (Err other) fault P h p = subst P (sym h.1) p

-- if nothing is done to a stream, its known bytes are kept
pub untouched : (known : Option (List ℕ)) → Keeps known known
untouched None = tt
untouched (Some bytes) = refl

-- a command may fail with Input, or with OutOfMemory if that may be its error
pub read_fault : (fault : Fault) (command : Command) (input : Option (List ℕ)) → (fault ≡ Input) ⊎ (fault ≡ Refused OutOfMemory)
    → MayBeError command input OutOfMemory → MayFail command input fault
read_fault fault command input (inl failed) may = subst (MayFail command input) (sym failed) tt
read_fault fault command input (inr short) may = subst (MayFail command input) (sym short) may

-- if a command may fail with the fault Refused error, the command's words may fail with this error
pub is_refused : (words : List (List ℕ)) (input : Option (List ℕ)) (command : Command) (fault : Fault) → IsCommand words command
    → MayFail command input fault → (error : Error) → fault ≡ Refused error → MayFailWith words input error
is_refused words input command fault is may error refused =
    record { command = command; is_command = is; may_fail = subst (MayFail command input) refused may }

-- no command's answer fails with OutputShort (by `MayFail`)
pub is_no_output : {A : Type 0} (fault : Fault) (command : Command) (input : Option (List ℕ)) → MayFail command input fault → fault ≡ OutputShort → A
is_no_output fault command input may short = absurd (subst (MayFail command input) short may)

-- an `Ok` value has the property P, since an error would have made it `Err`
pub at_accepted : {A : Type 0} (error : Option Error) (P : Type 0) (value : A) →
    MatchOption error P (λ (e : Error). let r : Result A Error = Ok value in r ≡ Err e) → P
at_accepted None P value h = h
at_accepted (Some e) P value h = absurd (cc)

-- ---- what is known of an attempt's steps

-- equal errors hold equal faults
pub same_error : (fault other : Fault) → (let r : Result ℕ Fault = Err fault in r ≡ Err other) → fault ≡ other
same_error fault other e = cc

-- a result that is a status is not the fault Usage
pub status_is_no_usage : {A : Type 0} (status : ℕ) → (let r : Result ℕ Fault = Ok status in r ≡ Err Usage) → A
status_is_no_usage status e = absurd (cc)

-- no command's answer fails with Usage (by `MayFail`)
pub answer_is_no_usage : {A : Type 0} (fault : Fault) (command : Command) (input : Option (List ℕ)) → MayFail command input fault → fault ≡ Usage → A
answer_is_no_usage fault command input may usage = absurd (subst (MayFail command input) usage may)

-- if P is false of OutputShort and of Output, P is false of the fault of a failed output
pub output_is_not : {A Short : Type 0} (fault : Fault) (P : Fault → Type 0) → (Short → fault ≡ OutputShort) → ((Short → ⊥) → fault ≡ Output)
    → (P OutputShort → ⊥) → (P Output → ⊥) → P fault → A
output_is_not fault P short other not_short not_output p =
    absurd (not_output (subst P (other (λ h. not_short (subst P (short h) p))) p))

-- ---- bytes that were written in turn

-- if a writer took `done` bytes and then `count` of the rest, it took the first `done + count` bytes
pub one_more_piece : (a b c : Option (List ℕ)) (bytes : List ℕ) (done count : ℕ) → done ≤ length bytes → Appends a b (take done bytes)
    → count ≤ length (take (length bytes - done) (drop done bytes)) → Appends b c (take count (take (length bytes - done) (drop done bytes)))
    → (done + count ≤ length bytes) × Appends a c (take (done + count) bytes)
one_more_piece a b c bytes done count within before fits piece =
    let most = length-take (length bytes - done) (drop done bytes) in
    let joined = ap (λ rest. take done bytes ++ rest) (take-take count (length bytes - done) (drop done bytes) (omega (arith, most, fits))) ∙ sym (take-add done count bytes) in
    (omega (arith, within, most, fits), subst (Appends a c) joined (Appends-trans a b c _ _ before piece))

-- if a writer took a front of `bytes` and then nothing, it took a front of `bytes` in all
pub front_kept : (a b c : Option (List ℕ)) (bytes : List ℕ) → AppendsFront a b bytes → Keeps b c → AppendsFront a c bytes
front_kept a b c bytes front kept = (front.0, Appends-kept a b c _ front.1 kept)
