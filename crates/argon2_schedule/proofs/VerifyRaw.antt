-- The theorem about `verify_raw_by_value`.
use mathlib.Core.Path.{refl}
use mathlib.Core.List.{List, [], ◌∷◌}
use Prim.Native.Nat.{ℕ}
use native.Mathlib.Omega.{arith}
use lib.ListN.{length}
use base.Logic.{emp, id⊢}
use prog.Model.{Model}
use ghost.Model.{𝓤}
use types.Logic.{Logic}
use contract.Running.{Running}
use contract.BorrowLft.{⊑_static}
use denote.Signature.{Signature}
use denote.Triple.Spec.{Spec}
use Rattle.std.proofs.rt.LibcRuntime.TheSendSync
use Rattle.argon2_schedule.specs.Answers.{Inputs, JudgesHash}
use Rattle.argon2_schedule.specs.Schedules.{AreInputs, FitArray, Runtime, StandsFor, dict}
use Rattle.argon2_schedule.specs.Statements.{VerdictUnderEverySchedule, VerifyRawReturned, size_of}
use Rattle.argon2_schedule.specs.contracts.verify_raw_by_value as Contract
use Rattle.argon2_schedule.proofs.verify_raw_by_value.Met
use Rattle.argon2_schedule.proofs.verify_raw_by_value.Symbol
use Rattle.argon2_schedule.proofs.Among.{Call, also, every_schedule, fits, stands_for}
use Rattle.argon2_schedule.proofs.Plain.{Plain, allocator, arguments, bytes, machines, number, own_nothing, runtime, runtime_laws, settings, values}

module _ (x : Inputs) (are : AreInputs x) (hash : List ℕ) (is_hash : FitArray hash) where
  abbrev inputs : List Plain
  inputs = runtime 5 ∷ allocator ∷ bytes 0 x.pwd are.pwd ∷ bytes 1 x.salt are.salt ∷ bytes 2 hash is_hash ∷ bytes 3 x.secret are.secret ∷ bytes 4 x.ad are.ad ∷ settings x are (number x.length are.length ∷ [])

  abbrev signature : Signature
  signature = Contract.signature (size_of x.pwd) (size_of x.salt) (size_of hash) (size_of x.secret) (size_of x.ad) Runtime

  abbrev spec : (𝓛 : Logic 𝓤) (𝓜 : Model 𝓤 𝓛.H) → Running 𝓤 𝓛.H 𝓜 → Spec 𝓤 signature
  spec 𝓛 𝓜 𝓡 = Contract.spec (size_of x.pwd) (size_of x.salt) (size_of hash) (size_of x.secret) (size_of x.ad) Runtime (record {}) dict (record {}) dict 𝓛 𝓜.mem 𝓡.returns

  abbrev Fact : (VerifyRawReturned x hash).Denot → Type 0
  Fact r = JudgesHash x hash r.0

  one_call : Call signature spec (arguments inputs) (StandsFor (VerifyRawReturned x hash) Fact)
  one_call = record {
    outlive = λ κs. tt;
    args = λ κs. values inputs;
    vals = λ κs. machines inputs;
    passes = λ κs. refl;
    given = λ 𝓛 κs. own_nothing 𝓛 inputs;
    ghost = λ 𝓛 𝓜 𝓡 κs. tt;
    asked = λ 𝓛 𝓜 𝓡 κs. also _ (⊑_static κs.0) (also _ (⊑_static κs.1.0) (also _ (⊑_static κs.1.1.0) (also _ (⊑_static κs.1.1.1.0) (also _ (⊑_static κs.1.1.1.1.0) (also _ (⊑_static κs.1.1.1.1.1.0) (also _ (record { shared = (TheSendSync.the_sync).shared }) (also _ (omega (arith, are.pwd.fit)) (also _ (omega (arith, are.salt.fit)) (also _ (omega (arith, is_hash.fit)) (also _ (omega (arith, are.secret.fit)) (also _ (omega (arith, are.ad.fit)) (id⊢ 𝓤 (emp 𝓤)))))))))))));
    gives = λ 𝓛 𝓜 𝓡 κs v r. stands_for 𝓛 signature (Contract.ended (size_of x.pwd) (size_of x.salt) (size_of hash) (size_of x.secret) (size_of x.ad) Runtime (record {}) dict (record {}) dict).kept κs (values inputs) Fact v r;
  }

pub verdict_under_every_schedule : VerdictUnderEverySchedule Symbol.code
verdict_under_every_schedule x are hash is_hash look has = every_schedule look Symbol.code has _ (signature x are hash is_hash) (spec x are hash is_hash)
    (λ 𝓛 𝓜 𝓡 wired among waits. Met.met 𝓤 𝓛 𝓜 𝓡 wired (length x.pwd) (length x.salt) (length hash) (length x.secret) (length x.ad) Runtime
    (fits are.pwd.fit) (fits are.salt.fit) (fits is_hash.fit) (fits are.secret.fit) (fits are.ad.fit) runtime_laws (record {}) dict (record {}) dict (record { leave = among }) (record { leave = waits }))
    _ _ (one_call x are hash is_hash)
