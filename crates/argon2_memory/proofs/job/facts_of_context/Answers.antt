use Rattle.std.proofs.Common.{arith}
use Rattle.argon2_memory.proofs.Recurrences.{context_setting}
use Rattle.argon2_memory.proofs.job.facts_of_context.Goals as goal

pub returns-clause-setting : goal.returns-clause-setting
returns-clause-setting c = context_setting c.args.context.now (omega arith) (omega arith)
