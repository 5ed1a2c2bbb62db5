use Rattle.argon2_memory.proofs.Recurrences.{block_at-recurrence, block_at-unique}
use Rattle.argon2.proofs.theorems.recurrence_law.Goals as goal

pub returns : goal.returns
returns c = record { meets = block_at-recurrence; only = block_at-unique }
