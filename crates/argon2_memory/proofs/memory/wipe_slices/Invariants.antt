use Rattle.std.proofs.Common.{◌≡◌, ◌++◌, drop, map, take}
use Rattle.argon2_memory.specs.Views.Segments.{wiped_segment}
use Rattle.argon2_memory.proofs.memory.wipe_slices.Given as goal

-- the slices before index `slice` are wiped, the others not yet
abbrev pub invariant-loop-slice : goal.invariant-loop-slice
invariant-loop-slice l = (map (λ v. v.items) l.slices) ≡ map (map wiped_segment) (take l.slice (map (λ v. v.items) l.initial.slices)) ++ drop l.slice (map (λ v. v.items) l.initial.slices)
