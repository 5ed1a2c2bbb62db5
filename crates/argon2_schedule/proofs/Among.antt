-- If a call of a proved function returns, its `ensures` holds of the returned value. This is shown in the machine's
-- model with threads, from any memory and under every scheduler. The arguments are plain values.
--     every_schedule      by the toolchain's `host_runs`, for a host that calls the function and returns what it returned
-- Assumes nothing.
use mathlib.Core.Path.{◌≡◌, subst}
use mathlib.Core.Bool.{true, false}
use mathlib.Core.List.{List, [], ◌∷◌}
use Prim.Native.Nat.{ℕ, zero, suc, ◌<◌, ◌^◌}
use seplogic.Ra.Ura.{Ura}
use mir.Syntax.{Symbol, Callee}
use native.Mathlib.Omega.{arith}
use mir.Syntax.{w64}
use mir.Val.{Val, Fits}
use base.Fraction.{full_share}
use base.Logic.{SProp, ent, sep, ex, emp, id⊢, via, emp∗, comm∗, assoc∗, assoc', mono_l, mono_r, mono∗, fst∗, snd∗, ex_i, ex_e}
use prog.Model.{Model}
use prog.Routine.{Env}
use prog.Wired.{Code, Wired}
use prog.Linked.{Entry}
use prog.LinkedThreads.{HasT}
use prog.Host.{stop, call}
use ghost.Model.{𝓤}
use types.Logic.{Logic, sem}
use contract.Monad.{fact, fact_i, fact_use}
use contract.Running.{Running, Base}
use contract.BorrowModel.{logic₀}
use contract.View.{logic_at}
use contract.Threads.{model_at, running_at}
use contract.ClosedThreads.{base_at}
use contract.Lifetimes.{Lfts, Shares, AllOutlive, toks}
use denote.Laws.{Is, shows}
use denote.RattleType.{RattleType, owns, flat}
use denote.Triple.End.{Kepts, Fins, Outs, outs, lasts_of}
use denote.Signature.{Signature, type_at, types_at}
use denote.Triple.Entry.{Args, Vals, Res, alive}
use denote.Triple.Spec.{Spec, Meets, triple_of, exits}
use denote.Triple.Statement.{Contract}
use denote.Triple.Leave.{Among, Waits}
use denote.Triple.Started.{Stops}
use denote.Triple.Hosted.{Deal, Hosted, Owes, Owes-⇛, call_rule, host_runs, linked}
use Rattle.argon2_schedule.specs.Schedules.{StandsFor}

abbrev pub fulls : (n : ℕ) → Shares n
fulls zero = tt
fulls (suc n) = (full_share, fulls n)

module _ {M : Type 1} {𝓥 : Ura M} (𝓛 : Logic 𝓥) where
  open 𝓛 use {H, A}

  -- if R and the full tokens of any n lifetimes give Q, R alone gives Q, since n new lifetimes can be made
  pub with_lifetimes : (n : ℕ) (R Q : SProp 𝓥) → ((κs : Lfts n) → ent 𝓥 (sep 𝓥 (toks 𝓛 n κs (fulls n)) R) (H.⇛ Q)) → ent 𝓥 R (H.⇛ Q)
  with_lifetimes zero R Q h = via 𝓥 (sep 𝓥 (emp 𝓥) R) (emp∗ 𝓥 R) (h tt)
  with_lifetimes (suc n) R Q h =
      let L : ℕ → SProp 𝓥 = λ a. A.lft (a ∷ []) full_share in
      let new : ent 𝓥 R (H.⇛ (sep 𝓥 (ex 𝓥 L) R)) =
      via 𝓥 (sep 𝓥 (emp 𝓥) R) (emp∗ 𝓥 R) (via 𝓥 (sep 𝓥 (H.⇛ (ex 𝓥 L)) R) (mono_l 𝓥 R 𝓛.lfts.lft_new) (𝓛.laws.⇛_frame (ex 𝓥 L) R)) in
      via 𝓥 (H.⇛ (sep 𝓥 (ex 𝓥 L) R)) new (via 𝓥 (H.⇛ (H.⇛ Q)) (𝓛.laws.⇛_mono (sep 𝓥 (ex 𝓥 L) R) (H.⇛ Q)
      (base.Logic.ex∗ 𝓥 L R (λ a. with_lifetimes n (sep 𝓥 (L a) R) Q (λ κs.
      let T : SProp 𝓥 = toks 𝓛 n κs (fulls n) in
      via 𝓥 (sep 𝓥 (sep 𝓥 T (L a)) R) (assoc' 𝓥 T (L a) R)
      (via 𝓥 (sep 𝓥 (sep 𝓥 (L a) T) R) (mono_l 𝓥 R (comm∗ 𝓥 T (L a))) (h (a ∷ [], κs))))))) (𝓛.laws.⇛_trans Q))

-- if the fact Q that a clause states at exit implies φ, the exit gives φ
pub at_exit : {M : Type 1} {𝓥 : Ura M} (𝓛 : Logic 𝓥) (S : Signature) (ks : Kepts S.params) (κs : Lfts S.lifetimes) (a : Args S κs) (Q : Outs κs S.params ks → Type 0) (φ : Type 0)
    → ((o : Outs κs S.params ks) → Q o → φ) → ent 𝓥 (exits 𝓛 S ks κs a (λ o. fact 𝓥 (Q o))) (fact 𝓥 φ)
at_exit {𝓥 = 𝓥} 𝓛 S ks κs a Q φ h =
    let L : Fins κs S.params ks a → SProp 𝓥 = λ ws. sem 𝓛 (lasts_of κs S.params ks a ws) in
    let F : Fins κs S.params ks a → SProp 𝓥 = λ ws. fact 𝓥 (Q (outs κs S.params ks a ws)) in
    ex_e 𝓥 (λ ws. sep 𝓥 (L ws) (F ws)) (λ ws. fact_use 𝓥 (Q (outs κs S.params ks a ws)) (snd∗ 𝓥 (L ws) (F ws)) (λ q. fact_i 𝓥 φ (sep 𝓥 (L ws) (F ws)) (h (outs κs S.params ks a ws) q)))

-- if E states e, and e implies φ where vs represents the result r, then the result r at the machine and E give φ
pub says_of : {M : Type 1} {𝓥 : Ura M} (𝓛 : Logic 𝓥) (R : RattleType) (r : R.Denot) (vs : List Val) (E : SProp 𝓥) (e φ : Type 0) → ent 𝓥 E (fact 𝓥 e) → (Is R r vs → e → φ) → ent 𝓥 (sep 𝓥 (sem 𝓛 (R.own_val r vs)) E) (fact 𝓥 φ)
says_of {𝓥 = 𝓥} 𝓛 R r vs E e φ says h =
    let O : SProp 𝓥 = sem 𝓛 (R.own_val r vs) in
    fact_use 𝓥 (Is R r vs) (via 𝓥 O (fst∗ 𝓥 O E) (shows 𝓛 R r vs)) (λ is.
    fact_use 𝓥 e (via 𝓥 E (snd∗ 𝓥 O E) says) (λ x. fact_i 𝓥 φ (sep 𝓥 O E) (h is x)))

-- if v represents the result r, and the clause's fact holds of r, v stands for an answer of which the fact holds
pub stands_for : (𝓛 : Logic 𝓤) (S : Signature) (ks : Kepts S.params) (κs : Lfts S.lifetimes) (a : Args S κs) (Fact : (type_at S.result κs).Denot → Type 0) (v : Val) (r : Res S κs)
    → ent 𝓤 (sep 𝓤 (sem 𝓛 ((type_at S.result κs).own_val r (v ∷ []))) (exits 𝓛 S ks κs a (λ o. fact 𝓤 (Fact r)))) (fact 𝓤 (StandsFor (type_at S.result κs) Fact v))
stands_for 𝓛 S ks κs a Fact v r = says_of 𝓛 (type_at S.result κs) r (v ∷ []) (exits 𝓛 S ks κs a (λ o. fact 𝓤 (Fact r))) (Fact r) (StandsFor (type_at S.result κs) Fact v)
    (at_exit 𝓛 S ks κs a (λ _. Fact r) (Fact r) (λ _ q. q)) (λ is holds. record { answer = r; is = is; holds = holds })

-- a call whose arguments own nothing
pub record Call (S : Signature) (spec : (𝓛 : Logic 𝓤) (𝓜 : Model 𝓤 𝓛.H) → Running 𝓤 𝓛.H 𝓜 → Spec 𝓤 S) (vs : List Val) (φ : Val → Type 0) : Type 2 where
  pub outlive : (κs : Lfts S.lifetimes) → AllOutlive S.lifetimes S.outlives κs
  pub args : (κs : Lfts S.lifetimes) → Args S κs
  pub vals : (κs : Lfts S.lifetimes) → Vals S κs
  pub passes : (κs : Lfts S.lifetimes) → flat (types_at S.params κs) (vals κs) ≡ vs
  pub given : (𝓛 : Logic 𝓤) (κs : Lfts S.lifetimes) → ent 𝓤 (emp 𝓤) (sem 𝓛 (owns (types_at S.params κs) (args κs) (vals κs)))
  pub ghost : (𝓛 : Logic 𝓤) (𝓜 : Model 𝓤 𝓛.H) (𝓡 : Running 𝓤 𝓛.H 𝓜) (κs : Lfts S.lifetimes) → (spec 𝓛 𝓜 𝓡 κs (args κs)).ghost
  pub asked : (𝓛 : Logic 𝓤) (𝓜 : Model 𝓤 𝓛.H) (𝓡 : Running 𝓤 𝓛.H 𝓜) (κs : Lfts S.lifetimes) → ent 𝓤 (emp 𝓤) ((spec 𝓛 𝓜 𝓡 κs (args κs)).requires (ghost 𝓛 𝓜 𝓡 κs))
  pub gives : (𝓛 : Logic 𝓤) (𝓜 : Model 𝓤 𝓛.H) (𝓡 : Running 𝓤 𝓛.H 𝓜) (κs : Lfts S.lifetimes) (v : Val) (r : Res S κs)
      → ent 𝓤 (sep 𝓤 (sem 𝓛 ((type_at S.result κs).own_val r (v ∷ []))) ((spec 𝓛 𝓜 𝓡 κs (args κs)).ensures (ghost 𝓛 𝓜 𝓡 κs) r)) (fact 𝓤 (φ v))

module _ (look : Symbol → Entry) (code : Code) (has : HasT look true code) (k : Callee) (S : Signature)
    (spec : (𝓛 : Logic 𝓤) (𝓜 : Model 𝓤 𝓛.H) → Running 𝓤 𝓛.H 𝓜 → Spec 𝓤 S)
    (met : (𝓛 : Logic 𝓤) (𝓜 : Model 𝓤 𝓛.H) (𝓡 : Running 𝓤 𝓛.H 𝓜) → Wired 𝓡.env code → Among 𝓤 𝓡.how → Waits 𝓤 𝓡.how → Meets 𝓛 S (𝓡.run (𝓡.env k)) (spec 𝓛 𝓜 𝓡))
    (vs : List Val) (φ : Val → Type 0) (c : Call S spec vs φ) where
  abbrev deal : Unit {0} → Deal 𝓤
  deal x 𝓛 𝓜 𝓡 = triple_of 𝓛 S (spec 𝓛 𝓜 𝓡)

  module _ (cap : ℕ) where
    abbrev 𝓑 : Base logic₀
    𝓑 = base_at true false cap

    abbrev ok : ℕ → Type 0
    ok = Stops false false

    abbrev γ : Env
    γ = linked true false false look (λ (_ : Unit {0}). k) cap

    abbrev 𝓛₁ : Logic 𝓤
    𝓛₁ = logic_at logic₀ 0

    abbrev 𝓜₁ : Model 𝓤 𝓛₁.H
    𝓜₁ = model_at logic₀ 𝓑 0

    abbrev 𝓡₁ : Running 𝓤 𝓛₁.H 𝓜₁
    𝓡₁ = running_at logic₀ 𝓑 ok γ 0

    abbrev K : Val → SProp 𝓤
    K v = fact 𝓤 (φ v)

    abbrev d : Contract 𝓤
    d = deal tt 𝓛₁ 𝓜₁ 𝓡₁

    abbrev Out : SProp 𝓤
    Out = Owes logic₀ 𝓑 ok γ deal 0 K (call tt vs stop)

    abbrev at : Lfts S.lifetimes → d.Ghost
    at κs = ((κs, fulls S.lifetimes, c.outlive κs, c.args κs, c.vals κs), c.ghost 𝓛₁ 𝓜₁ 𝓡₁ κs)

    returned : (κs : Lfts S.lifetimes) (v : Val) → ent 𝓤 (sep 𝓤 (d.post (at κs) v) (emp 𝓤)) (𝓛₁.H.⇛ (K v))
    returned κs v =
        let O : Res S κs → SProp 𝓤 = λ r. sem 𝓛₁ ((type_at S.result κs).own_val r (v ∷ [])) in
        let E : Res S κs → SProp 𝓤 = λ r. (spec 𝓛₁ 𝓜₁ 𝓡₁ κs (c.args κs)).ensures (c.ghost 𝓛₁ 𝓜₁ 𝓡₁ κs) r in
        let B : SProp 𝓤 = alive 𝓛₁ S κs (fulls S.lifetimes) in
        let X : SProp 𝓤 = ex 𝓤 (λ (r : Res S κs). sep 𝓤 (sep 𝓤 B (O r)) (E r)) in
        via 𝓤 (𝓛₁.H.⇛ X) (fst∗ 𝓤 (𝓛₁.H.⇛ X) (emp 𝓤))
        (𝓛₁.laws.⇛_mono X (K v) (ex_e 𝓤 (λ (r : Res S κs). sep 𝓤 (sep 𝓤 B (O r)) (E r)) (λ r.
        via 𝓤 (sep 𝓤 (O r) (E r)) (mono_l 𝓤 (E r) (snd∗ 𝓤 B (O r))) (c.gives 𝓛₁ 𝓜₁ 𝓡₁ κs v r))))

    calls : (κs : Lfts S.lifetimes) → ent 𝓤 (sep 𝓤 (toks 𝓛₁ S.lifetimes κs (fulls S.lifetimes)) (emp 𝓤)) Out
    calls κs =
        let T : SProp 𝓤 = toks 𝓛₁ S.lifetimes κs (fulls S.lifetimes) in
        let W : SProp 𝓤 = sem 𝓛₁ (owns (types_at S.params κs) (c.args κs) (c.vals κs)) in
        let Q : SProp 𝓤 = (spec 𝓛₁ 𝓜₁ 𝓡₁ κs (c.args κs)).requires (c.ghost 𝓛₁ 𝓜₁ 𝓡₁ κs) in
        let pad : (P P' : SProp 𝓤) → ent 𝓤 (emp 𝓤) P' → ent 𝓤 P (sep 𝓤 P P') = λ P P' h.
        via 𝓤 (sep 𝓤 P (emp 𝓤)) (via 𝓤 (sep 𝓤 (emp 𝓤) P) (emp∗ 𝓤 P) (comm∗ 𝓤 (emp 𝓤) P)) (mono_r 𝓤 P h) in
        let begins : ent 𝓤 T (d.pre (at κs)) = via 𝓤 (sep 𝓤 T W) (pad T W (c.given 𝓛₁ κs)) (pad (sep 𝓤 T W) Q (c.asked 𝓛₁ 𝓜₁ 𝓡₁ κs)) in
        subst (λ (us : List Val). ent 𝓤 (sep 𝓤 T (emp 𝓤)) (Owes logic₀ 𝓑 ok γ deal 0 K (call tt us stop))) (c.passes κs)
        (via 𝓤 (sep 𝓤 (d.pre (at κs)) (emp 𝓤)) (mono_l 𝓤 (emp 𝓤) begins)
        (call_rule logic₀ 𝓑 ok γ deal 0 K tt (at κs) stop (emp 𝓤) (returned κs)))

    duty : ent 𝓤 (emp 𝓤) Out
    duty = via 𝓤 (𝓛₁.H.⇛ Out)
        (with_lifetimes 𝓛₁ S.lifetimes (emp 𝓤) Out (λ κs. via 𝓤 Out (calls κs) (𝓛₁.laws.⇛_intro Out)))
        (Owes-⇛ logic₀ 𝓑 ok γ deal (call tt vs stop) 0 K)

  pub every_schedule : Hosted true false false look (λ (_ : Unit {0}). k) (call tt vs stop) φ
  every_schedule = host_runs true false false look (λ (_ : Unit {0}). k) (λ _. code) deal (λ _. has) tt
      (λ x 𝓛 𝓜 𝓡 wired among waits ends cuts. met 𝓛 𝓜 𝓡 wired among (waits tt)) (call tt vs stop) φ duty

-- if φ holds and Q needs no resources, φ and Q together need no resources
pub also : {Q : SProp 𝓤} (φ : Type 0) → φ → ent 𝓤 (emp 𝓤) Q → ent 𝓤 (emp 𝓤) (sep 𝓤 (fact 𝓤 φ) Q)
also {Q} φ y h = via 𝓤 (sep 𝓤 (emp 𝓤) (emp 𝓤)) (emp∗ 𝓤 (emp 𝓤)) (mono∗ 𝓤 {P = emp 𝓤} {P' = fact 𝓤 φ} {Q = emp 𝓤} {Q' = Q} (fact_i 𝓤 φ (emp 𝓤) y) h)

-- a number below 2^63 fits 64 bits
pub fits : {n : ℕ} → n < 2 ^ 63 → Fits w64 n
fits h = record { fits = omega (arith, h) }
