-- The machine value of a returned tag contains the machine values of the tag's bytes.
use mathlib.Core.Path.{◌≡◌, refl, ap, ap₂, ◌∙◌}
use mathlib.Core.Logic.{inl, inr, ∥∥₁_map}
use mathlib.Core.Bool.{true, false}
use mathlib.Core.List.{List, [], ◌∷◌, ◌++◌}
use Prim.Native.Nat.{ℕ}
use lib.Dec.{T}
use mir.Val.{Val, vunit, vstruct, of_list}
use prog.Memory.{Memory}
use prog.Pool.{State, Pool, Well, live as running, returned, exited}
use denote.Array.{array_val, each}
use denote.Builtin.{u8}
use denote.Laws.{Is}
use denote.Shadow.{shadow}
use denote.Triple.Started.{Stops, granted}
use types.Match.{live}
use Rattle.std.specs.Prelude.{Bool, Option, None, Some, Result, Ok, Err, length}
use Rattle.argon2_standard.specs.declared.error.Error.{Error}
use Rattle.argon2_standard.specs.Standard.Outcome.{IsOutcome}
use Rattle.argon2_standard.specs.Standard.SettingsTable.{table_error}
use Rattle.argon2_standard.specs.Standard.Tag.{tag_of}
use Rattle.argon2_standard.specs.Standard.ThreadModes.{may_lack_workers}
use Rattle.argon2_schedule.specs.Answers.{Inputs, ReturnsTag, config_at}
use Rattle.argon2_schedule.specs.Schedules.{StandsFor, byte_vals}
use Rattle.argon2_schedule.specs.Statements.{ExplicitTagUnderEverySchedule, HashRawReturned, IsTagOrResourceError, tag_value}
use Rattle.argon2_schedule.proofs.HashRaw.{tag_under_every_schedule}
use Rattle.argon2_schedule.proofs.hash_raw_by_value.Symbol

abbrev head_of : List Val → Val
head_of [] = vunit
head_of (v ∷ vs) = v

each_vals : (xs : List ℕ) (us : List Val) → shadow (each ℕ u8.own_val xs us) → us ≡ byte_vals xs
each_vals [] [] s = refl
each_vals [] (u ∷ us) s = absurd s
each_vals (x ∷ xs) [] s = absurd s
each_vals (x ∷ xs) (u ∷ us) s = ap₂ (λ (a : Val) (b : List Val). a ∷ b) (ap head_of s.0.0) (each_vals xs us s.1)

is_tag_value : (x : Inputs) (tag : List ℕ) (v : Val) → Is (HashRawReturned x) (Ok tag, record { seal = tt }) (v ∷ []) → v ≡ tag_value tag
is_tag_value x tag v (vss, (is, ((us, (val, load)), (run, last)))) =
    let bytes : load.0.0 ≡ array_val (byte_vals tag) ∷ [] = load.1.1.0.1.0.0 ∙ ap (λ (us : List Val). array_val us ∷ []) (each_vals tag load.1.1.0.0 load.1.1.0.1.1) in
    let inner : us ≡ array_val (byte_vals tag) ∷ [] = load.1.0 ∙ ap (λ (ws : List Val). ws ++ []) bytes in
    let front : vss.0 ≡ live 0 (mir.Val.vcons (array_val (byte_vals tag)) mir.Val.vnil) ∷ [] = val ∙ ap (λ (ws : List Val). live 0 (of_list ws) ∷ []) inner in
    let back : vss.1.0 ≡ granted ∷ [] = run.1.0 ∙ ap (λ (ws : List Val). vstruct (of_list (ws ++ [])) ∷ []) run.1.1.0 in
    ap head_of is ∙ ap₂ (λ (a b : List Val). vstruct (of_list (a ++ (b ++ [])))) front back

outcome : (x : Inputs) (refusal : Option Error) (workers : Bool) (expected : List ℕ) (answer : Result (List ℕ) Error) (v : Val) → refusal ≡ None
    → IsOutcome refusal workers (λ tag. tag ≡ expected) answer → Is (HashRawReturned x) (answer, record { seal = tt }) (v ∷ []) → IsTagOrResourceError x expected workers v
outcome x None workers expected (Ok tag) v none h is = inl (is_tag_value x tag v is ∙ ap tag_value h)
outcome x None workers expected (Err e) v none h is = inr (e, h, is)
outcome x (Some r) workers expected answer v none h is = absurd (cc)

-- if φ implies ψ of what is returned, a state that is well with φ is well with ψ
well_more : (φ ψ : Val × Memory → Type 0) → ((y : Val × Memory) → φ y → ψ y) → (s : State (Val × Memory)) (p : Pool (Val × Memory))
    → Well (Stops false false) (T true) false φ s p → Well (Stops false false) (T true) false ψ s p
well_more φ ψ h (running σ n es r) p w = w
well_more φ ψ h (returned b) p w = h b w
well_more φ ψ h (exited s) p w = w

pub explicit_tag_under_every_schedule : ExplicitTagUnderEverySchedule Symbol.code
explicit_tag_under_every_schedule x are s a is_secret is_ad none look has cap σ strat =
    let config = config_at x s a in
    let gives : (v : Val) → StandsFor (HashRawReturned x) (λ r. ReturnsTag x r.0) v → IsTagOrResourceError x (tag_of x.pwd x.salt config x.length) (may_lack_workers config) v
    = λ v g. outcome x (table_error config (length x.pwd) (length x.salt) x.length) (may_lack_workers config) (tag_of x.pwd x.salt config x.length) g.answer.0 v none (g.holds s a is_secret is_ad) g.is in
    ∥∥₁_map (tag_under_every_schedule x are look has cap σ strat) (λ r. (
      r.0,
      r.1,
      r.2,
      well_more (λ y. StandsFor (HashRawReturned x) (λ q. ReturnsTag x q.0) y.0) (λ y. IsTagOrResourceError x (tag_of x.pwd x.salt config x.length) (may_lack_workers config) y.0) (λ y. gives y.0) r.1.0 r.1.1 r.3,
    ))
