use Rattle.std.proofs.Common.{◌≤◌, length}
use Rattle.std.specs.Io.KnownBytes.{Consumes}
use Rattle.argon2_commands.proofs.password.read_up_to.Given as goal

-- the bytes that were read are gone from the input, and they are at most `most`
abbrev pub invariant-loop : goal.invariant-loop
invariant-loop g l = Consumes (g.I.Read.remaining l.fn.input) (g.I.Read.remaining l.input) l.password.items × (length l.password.items ≤ l.most)
