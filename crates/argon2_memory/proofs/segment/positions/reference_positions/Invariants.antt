use Rattle.std.proofs.Common.{◌≡◌, ℕ, ◌+◌, ◌-◌, ◌/◌, ◌<◌, get_or}
use Rattle.argon2_memory.specs.Views.References.{independent_reference}
use Rattle.argon2_standard.specs.Standard.Recurrence.{addresses}
use Rattle.argon2_memory.proofs.segment.positions.reference_positions.Given as goal

abbrev pub invariant-loop-k : goal.invariant-loop-k
invariant-loop-k l = record {
  words : 0 < l.k → l.words ≡ addresses l.job.setting l.job.pass l.lane l.job.slice ((l.first + l.k - 1) / 128);
  done : (i : ℕ) → i < l.k → get_or l.out i (0, 0) ≡ independent_reference l.job l.lane (l.first + i);
}
