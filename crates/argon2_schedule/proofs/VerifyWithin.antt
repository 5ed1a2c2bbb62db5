-- The theorem about `verify_within_by_value`.
use mathlib.Core.Path.{refl}
use mathlib.Core.List.{List, [], ◌∷◌}
use native.Mathlib.Omega.{arith}
use lib.ListN.{length}
use base.Logic.{emp}
use prog.Model.{Model}
use ghost.Model.{𝓤}
use types.Logic.{Logic}
use contract.Monad.{fact_i}
use contract.Running.{Running}
use contract.BorrowLft.{⊑_static}
use denote.Signature.{Signature}
use denote.Triple.Spec.{Spec}
use Rattle.std.specs.Prelude.{IsUtf8}
use Rattle.std.proofs.rt.LibcRuntime.TheSendSync
use Rattle.argon2.specs.declared.limits.Limits.{Limits}
use Rattle.argon2_schedule.specs.Answers.{JudgesTextWithin, Stored}
use Rattle.argon2_schedule.specs.Schedules.{AreLimits, AreStored, Runtime, StandsFor, dict}
use Rattle.argon2_schedule.specs.Statements.{VerdictWithinUnderEverySchedule, VerifyWithinReturned, size_of}
use Rattle.argon2_schedule.specs.contracts.verify_within_by_value as Contract
use Rattle.argon2_schedule.proofs.verify_within_by_value.Met
use Rattle.argon2_schedule.proofs.verify_within_by_value.Symbol
use Rattle.argon2_schedule.proofs.Among.{Call, also, every_schedule, fits, stands_for}
use Rattle.argon2_schedule.proofs.Plain.{Plain, allocator, arguments, bytes, machines, number, number64, own_nothing, runtime, runtime_laws, values}

module _ (x : Stored) (are : AreStored x) (utf8 : IsUtf8 x.encoded) (limits : Limits) (are_limits : AreLimits limits) where
  abbrev inputs : List Plain
  inputs = runtime 4 ∷ allocator ∷ bytes 0 x.encoded are.encoded ∷ bytes 1 x.pwd are.pwd ∷ bytes 2 x.secret are.secret ∷ bytes 3 x.ad are.ad ∷ number limits.mem_cost are_limits.mem_cost ∷ number limits.time_cost are_limits.time_cost ∷ number limits.lanes are_limits.lanes ∷ number64 limits.work are_limits.work ∷ []

  abbrev signature : Signature
  signature = Contract.signature (size_of x.encoded) (size_of x.pwd) (size_of x.secret) (size_of x.ad) Runtime

  abbrev spec : (𝓛 : Logic 𝓤) (𝓜 : Model 𝓤 𝓛.H) → Running 𝓤 𝓛.H 𝓜 → Spec 𝓤 signature
  spec 𝓛 𝓜 𝓡 = Contract.spec (size_of x.encoded) (size_of x.pwd) (size_of x.secret) (size_of x.ad) Runtime (record {}) dict (record {}) dict 𝓛 𝓜.mem 𝓡.returns

  abbrev Fact : (VerifyWithinReturned x).Denot → Type 0
  Fact r = JudgesTextWithin x limits r.0

  one_call : Call signature spec (arguments inputs) (StandsFor (VerifyWithinReturned x) Fact)
  one_call = record {
    outlive = λ κs. tt;
    args = λ κs. values inputs;
    vals = λ κs. machines inputs;
    passes = λ κs. refl;
    given = λ 𝓛 κs. own_nothing 𝓛 inputs;
    ghost = λ 𝓛 𝓜 𝓡 κs. tt;
    asked = λ 𝓛 𝓜 𝓡 κs. also _ (⊑_static κs.0) (also _ (⊑_static κs.1.0) (also _ (⊑_static κs.1.1.0) (also _ (⊑_static κs.1.1.1.0) (also _ (⊑_static κs.1.1.1.1.0) (also _ (record { shared = (TheSendSync.the_sync).shared }) (also _ (omega (arith, are.encoded.fit)) (also _ (omega (arith, are.pwd.fit)) (also _ (omega (arith, are.secret.fit)) (also _ (omega (arith, are.ad.fit)) (fact_i 𝓤 (IsUtf8 x.encoded) (emp 𝓤) utf8))))))))));
    gives = λ 𝓛 𝓜 𝓡 κs v r. stands_for 𝓛 signature (Contract.ended (size_of x.encoded) (size_of x.pwd) (size_of x.secret) (size_of x.ad) Runtime (record {}) dict (record {}) dict).kept κs (values inputs) Fact v r;
  }

pub verdict_within_under_every_schedule : VerdictWithinUnderEverySchedule Symbol.code
verdict_within_under_every_schedule x are utf8 limits are_limits look has = every_schedule look Symbol.code has _ (signature x are utf8 limits are_limits) (spec x are utf8 limits are_limits)
    (λ 𝓛 𝓜 𝓡 wired among waits. Met.met 𝓤 𝓛 𝓜 𝓡 wired (length x.encoded) (length x.pwd) (length x.secret) (length x.ad) Runtime
    (fits are.encoded.fit) (fits are.pwd.fit) (fits are.secret.fit) (fits are.ad.fit) runtime_laws (record {}) dict (record {}) dict (record { leave = among }) (record { leave = waits }))
    _ _ (one_call x are utf8 limits are_limits)
