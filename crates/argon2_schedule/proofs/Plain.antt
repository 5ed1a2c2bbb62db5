-- Arguments by value that own nothing: the runtime's handle, the allocator, arrays of bytes, numbers.
use mathlib.Core.Path.{refl}
use mathlib.Core.Bool.{Bool}
use mathlib.Core.List.{List, [], ◌∷◌}
use Prim.Native.Nat.{ℕ, ◌<◌, ◌^◌}
use lib.ListN.{length}
use base.Logic.{ent, emp}
use ghost.Model.{𝓤}
use mir.Syntax as Syntax
use mir.Syntax.{w8, w32, w64}
use mir.Val.{Val, vint, vbool, vunit, vstruct, vcons, vnil}
use types.Logic.{Logic, sem}
use denote.Array.{each, array_val}
use denote.Builtin as Builtin
use denote.Exit as Exit
use denote.Param as Param
use denote.Param.Laws as Laws
use denote.RattleType.{RattleType, Denots, Valss, flat, owns}
use denote.Shadow.{makes_shadow, shadow, Pure}
use denote.Triple.Started.{granted}
use Rattle.std.specs.contracts.alloc.Global
use Rattle.std.specs.contracts.rt.LibcRuntime
use Rattle.std.proofs.rt.LibcRuntime.TheLaws
use Rattle.argon2_schedule.specs.Answers.{Inputs}
use Rattle.argon2_schedule.specs.Schedules.{AreInputs, AreBytes, FitArray, Runtime, byte_vals}

-- a type, a value of it, and machine values that represent the value and own nothing
pub record Plain : Type 2 where
  pub type : RattleType
  pub value : type.Denot
  pub machine : List Val
  pub pure : Pure (type.own_val value machine)
  pub is : shadow (type.own_val value machine)

abbrev pub all_types : List Plain → List RattleType
all_types [] = []
all_types (p ∷ ps) = p.type ∷ all_types ps

abbrev pub values : (ps : List Plain) → Denots (all_types ps)
values [] = tt
values (p ∷ ps) = (p.value, values ps)

abbrev pub machines : (ps : List Plain) → Valss (all_types ps)
machines [] = tt
machines (p ∷ ps) = (p.machine, machines ps)

-- the machine values of all arguments
abbrev pub arguments : List Plain → List Val
arguments ps = flat (all_types ps) (machines ps)

all_pure : (ps : List Plain) → Pure (owns (all_types ps) (values ps) (machines ps))
all_pure [] = tt
all_pure (p ∷ ps) = (p.pure, all_pure ps)

all_are : (ps : List Plain) → shadow (owns (all_types ps) (values ps) (machines ps))
all_are [] = tt
all_are (p ∷ ps) = (p.is, all_are ps)

pub own_nothing : (𝓛 : Logic 𝓤) (ps : List Plain) → ent 𝓤 (emp 𝓤) (sem 𝓛 (owns (all_types ps) (values ps) (machines ps)))
own_nothing 𝓛 ps = makes_shadow 𝓛 (owns (all_types ps) (values ps) (machines ps)) (all_pure ps) (all_are ps)

pub runtime_laws : Laws.Laws Runtime
runtime_laws = Laws.arg_laws (Syntax.ty_struct [] (Syntax.tcons Syntax.ty_unit Syntax.tnil)) Exit.no LibcRuntime.the_row TheLaws.the_row_laws refl

abbrev pub runtime : ℕ → Plain
runtime i = record {
  type = Param.param i Runtime;
  value = record { seal = tt };
  machine = granted ∷ [];
  pure = λ vss. (tt, (tt, tt));
  is = ((vunit ∷ [], tt), (refl, (refl, tt)));
}

abbrev pub allocator : Plain
allocator = record {
  type = Global.the_row;
  value = record { memory = record { seal = tt } };
  machine = vstruct (vcons granted vnil) ∷ [];
  pure = λ vss. (tt, ((λ vss'. (tt, (tt, tt))), tt));
  is = ((granted ∷ [], tt), (refl, (((vunit ∷ [], tt), (refl, (refl, tt))), tt)));
}

pub each_pure : (xs : List ℕ) (us : List Val) → Pure (each ℕ Builtin.u8.own_val xs us)
each_pure [] [] = tt
each_pure [] (u ∷ us) = tt
each_pure (x ∷ xs) [] = tt
each_pure (x ∷ xs) (u ∷ us) = ((tt, tt), each_pure xs us)

pub each_is : (xs : List ℕ) → AreBytes xs → shadow (each ℕ Builtin.u8.own_val xs (byte_vals xs))
each_is [] h = tt
each_is (x ∷ xs) h = ((refl, h.0), each_is xs h.1)

-- bytes in an array, whose length is the i-th parameter
abbrev pub bytes : (i : ℕ) (xs : List ℕ) → FitArray xs → Plain
bytes i xs h = record {
  type = Param.ArrayAt Builtin.u8 (Param.param i (Param.number (length xs)));
  value = xs;
  machine = array_val (byte_vals xs) ∷ [];
  pure = λ us. ((tt, tt), each_pure xs us);
  is = (byte_vals xs, ((refl, refl), each_is xs h.are));
}

abbrev pub number : (n : ℕ) → n < 2 ^ 32 → Plain
number n h = record { type = Builtin.u32; value = n; machine = vint w32 n ∷ []; pure = (tt, tt); is = (refl, h) }

abbrev pub number64 : (n : ℕ) → n < 2 ^ 64 → Plain
number64 n h = record { type = Builtin.u64; value = n; machine = vint w64 n ∷ []; pure = (tt, tt); is = (refl, h) }

abbrev pub choice : Bool → Plain
choice b = record { type = Builtin.bool; value = b; machine = vbool b ∷ []; pure = tt; is = refl }

abbrev pub settings : (x : Inputs) → AreInputs x → List Plain → List Plain
settings x are others = number x.variant are.variant ∷ choice x.newest ∷ number x.mem_cost are.mem_cost ∷ number x.time_cost are.time_cost
    ∷ number x.lanes are.lanes ∷ number x.threads are.threads ∷ others
