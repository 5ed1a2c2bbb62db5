use Rattle.std.proofs.Common.{◌≡◌, ℕ, ◌+◌, ◌*◌, ◌%◌, ◌^◌, ◌<◌, ◌≤◌}
use Rattle.argon2_memory.specs.Views.Memories.{writes}
use Rattle.argon2_memory.specs.Standard.Kept.{HasShape, block_of}
use Rattle.argon2_standard.specs.Standard.Recurrence.{first_block}
use Rattle.argon2_fill.proofs.fill.initialize.Given as goal

abbrev pub invariant-loop-lane : goal.invariant-loop-lane
invariant-loop-lane l = record {
  shape : HasShape l.job.setting l.memory;
  first : (lane column : ℕ) → lane < l.lane → column < 2 →
      block_of l.memory lane column ≡ first_block l.job.setting (record { pass = 0; lane = lane; column = column });
  others : (lane column : ℕ) → 2 ≤ column → block_of l.memory lane column ≡ block_of l.initial.memory lane column;
  writes : writes l.memory ≡ (writes l.initial.memory + 2 * l.lane) % 2 ^ 64;
}
