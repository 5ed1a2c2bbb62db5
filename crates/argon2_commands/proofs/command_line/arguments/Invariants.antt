use Rattle.std.proofs.Common.{◌≤◌}
use Rattle.argon2_commands.specs.Words.{texts_of}
use Rattle.argon2_commands.proofs.Passwords.{IsReadTo}
use Rattle.argon2_commands.proofs.command_line.arguments.Given as goal

abbrev pub invariant-loop-index : goal.invariant-loop-index
invariant-loop-index g l = IsReadTo (g.L.CommandLine.arguments l.fn.line) (texts_of l.words.items) l.index × (1 ≤ l.index)
