-- A call of `hash_over` as the machine runs it by itself.
--     hash_over_alone      from a memory that satisfies the contract's precondition beside any frame, the call ends with a
--                          value and a memory that satisfies the postcondition beside this frame
-- It is the toolchain's `adequate`, at the contract of `hash_over` and the machine's table of a program. Assumes nothing.
use mathlib.Core.Bool.{true}
use mir.Syntax.{Symbol}
use mir.Val.{Val}
use base.Logic.{SProp, sep}
use prog.Memory.{Memory}
use prog.Routine.{ends}
use prog.Linked.{Entry}
use prog.LinkedThreads.{HasT, tie_t}
use ghost.Model.{𝓤, H}
use contract.Running.{Running}
use contract.Closed.{model⁺}
use contract.BorrowModel.{logic₀}
use contract.Adequate.{Satisfies}
use denote.Triple.Statement.{Contract}
use denote.Triple.Spec.{triple_of}
use denote.Examples.Triple.StepsAlone.{read_alone, by_itself}
use Rattle.argon2_c.specs.contracts.proved_argon2_hash_over as HashOver
use Rattle.argon2_c.specs.contracts.proved_argon2_hash_over.Key
use Rattle.argon2_c.proofs.proved_argon2_hash_over.Met
use Rattle.argon2_c.proofs.proved_argon2_hash_over.Symbol

module _ (look : Symbol → Entry) where
  abbrev ◌⊨◌ : Memory → SProp 𝓤 → Type 1
  σ ⊨ P = Satisfies 𝓤 H model⁺ σ P

  infix 26 ◌⊨◌
  abbrev pub hash_over : Contract 𝓤
  hash_over = triple_of logic₀ HashOver.signature (HashOver.spec logic₀ model⁺.mem (by_itself look).returns)

  pub hash_over_alone : HasT look true Symbol.code → (x : hash_over.Ghost) (σ : Memory) (F : SProp 𝓤) → σ ⊨ sep 𝓤 (hash_over.pre x) F
      → ∥ ((v : Val) × (σ' : Memory) × ends (tie_t look Key.name) (hash_over.args x) σ v σ' × (σ' ⊨ sep 𝓤 (hash_over.post x v) F)) ∥₁
  hash_over_alone has = read_alone look Symbol.code has Key.name hash_over (λ 𝓡 wired. Met.met 𝓤 logic₀ model⁺ 𝓡 wired)
