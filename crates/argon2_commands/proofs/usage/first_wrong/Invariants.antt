use Rattle.argon2_commands.specs.Usage.{FitBelow}
use Rattle.argon2_commands.specs.Words.{texts_of}
use Rattle.argon2_commands.proofs.usage.first_wrong.Given as goal

abbrev pub invariant-loop-place : goal.invariant-loop-place
invariant-loop-place l = FitBelow l.fn.kinds (texts_of l.fn.words) l.place
