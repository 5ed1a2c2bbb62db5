-- What holds of a call under every schedule of the machine's model with threads.
use Rattle.std.specs.Prelude.{ℕ, ◌<◌, ◌^◌, true, false, List, [], ◌∷◌, ◌++◌, length, map}
use mir.Syntax.{Args, Callee, Dict, Kind, Symbol, a_number, a_type, dcons, dnil, impl, tcons, tnil, ty_struct, ty_unit, w8, w32, w64}
use mir.Val.{Val, vint, vbool, vstruct, vcons, vnil}
use prog.Host.{stop, call}
use prog.Linked.{Entry}
use prog.LinkedThreads.{HasT}
use prog.Wired.{Code}
use denote.Array.{array_val}
use denote.Exit as Exit
use denote.Laws.{Is}
use denote.Param as Param
use denote.RattleType.{RattleType}
use denote.Triple.Hosted.{Hosted}
use denote.Triple.Started.{granted}
use Rattle.std.specs.contracts.rt.LibcRuntime
use Rattle.argon2.specs.declared.limits.Limits.{Limits}
use Rattle.argon2_schedule.specs.Answers.{Inputs, Stored}

-- A host program makes this call once. In every program that has this code, from any memory and under every scheduler,
-- the run of the host is finite and no thread faults. The scheduler may halt the run in any state. In each such
-- state, either the call has returned a machine value for which the fact holds, or no two threads are about to race
-- and some thread can run, waits or sleeps. The process does not exit.
abbrev pub EverySchedule : Code → Callee → List Val → (Val → Type 0) → Type 0
EverySchedule code callee arguments Fact = (look : Symbol → Entry) → HasT look true code
    → Hosted true false false look (λ (_ : Unit {0}). callee) (call tt arguments stop) Fact

-- the machine value stands for an answer of this type, for which the fact holds
pub record StandsFor (R : RattleType) (Fact : R.Denot → Type 0) (v : Val) : Type 0 where
  pub answer : R.Denot
  pub is : Is R answer (v ∷ [])
  pub holds : Fact answer

abbrev pub AreBytes : List ℕ → Type 0
AreBytes [] = Unit {0}
AreBytes (x ∷ xs) = (x < 2 ^ 8) × AreBytes xs

-- bytes that an array can hold
pub record FitArray (bytes : List ℕ) : Type 0 where
  pub are : AreBytes bytes
  pub fit : length bytes < 2 ^ 63

-- each byte and each number is in the range of its type
pub record AreInputs (x : Inputs) : Type 0 where
  pub pwd : FitArray x.pwd
  pub salt : FitArray x.salt
  pub secret : FitArray x.secret
  pub ad : FitArray x.ad
  pub variant : x.variant < 2 ^ 32
  pub mem_cost : x.mem_cost < 2 ^ 32
  pub time_cost : x.time_cost < 2 ^ 32
  pub lanes : x.lanes < 2 ^ 32
  pub threads : x.threads < 2 ^ 32
  pub length : x.length < 2 ^ 32

pub record AreStored (x : Stored) : Type 0 where
  pub encoded : FitArray x.encoded
  pub pwd : FitArray x.pwd
  pub secret : FitArray x.secret
  pub ad : FitArray x.ad

pub record AreLimits (limits : Limits) : Type 0 where
  pub mem_cost : limits.mem_cost < 2 ^ 32
  pub time_cost : limits.time_cost < 2 ^ 32
  pub lanes : limits.lanes < 2 ^ 32
  pub work : limits.work < 2 ^ 64

abbrev pub byte_vals : List ℕ → List Val
byte_vals xs = map (vint w8) xs

-- arrays of bytes, before other machine values
abbrev pub arrays : List (List ℕ) → List Val → List Val
arrays [] vs = vs
arrays (bytes ∷ others) vs = array_val (byte_vals bytes) ∷ arrays others vs

abbrev pub setting_vals : Inputs → List Val
setting_vals x = vint w32 x.variant ∷ vbool x.newest ∷ vint w32 x.mem_cost ∷ vint w32 x.time_cost ∷ vint w32 x.lanes ∷ vint w32 x.threads ∷ []

abbrev pub limit_vals : Limits → List Val
limit_vals limits = vint w32 limits.mem_cost ∷ vint w32 limits.time_cost ∷ vint w32 limits.lanes ∷ vint w64 limits.work ∷ []

-- the process's runtime
abbrev pub Runtime : RattleType
Runtime = Param.arg (ty_struct [] (tcons ty_unit tnil)) Exit.no LibcRuntime.the_row

-- a function's type arguments: these numbers, and the runtime
abbrev pub kinds : List ℕ → List Kind
kinds [] = a_type ∷ []
kinds (n ∷ ns) = a_number ∷ kinds ns

abbrev pub type_arguments : (ns : List ℕ) → Param.Types (kinds ns)
type_arguments [] = (Runtime, tt)
type_arguments (n ∷ ns) = (Param.number n, type_arguments ns)

abbrev pub dict : Dict
dict = impl [] tnil dnil

abbrev pub instance_at : List ℕ → Args
instance_at ns = Param.bounded (kinds ns) (type_arguments ns) (dcons dict (dcons dict dnil))

-- `EverySchedule` of a function by its name. Its arguments are the runtime, the allocator, arrays of bytes, and other
-- machine values; its type arguments are the arrays' lengths and other numbers
abbrev pub OfCall : Code → (Args → Callee) → List (List ℕ) → List ℕ → List Val → (R : RattleType) → (R.Denot → Type 0) → Type 0
OfCall code name inputs numbers others R Fact = EverySchedule code (name (instance_at (map length inputs ++ numbers)))
    (granted ∷ vstruct (vcons granted vnil) ∷ arrays inputs others) (StandsFor R Fact)
