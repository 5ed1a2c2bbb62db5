use Rattle.std.proofs.Common.{◌≤◌, length, take}
use Rattle.std.specs.Io.KnownBytes.{Appends}
use Rattle.argon2_commands.proofs.runs.write_bytes.Given as goal

-- the writer took the first `l.written` bytes of `l.bytes`, and nothing else
abbrev pub invariant-loop : goal.invariant-loop
invariant-loop g l = (l.written ≤ length l.bytes) × Appends (g.O.Write.contents l.initial.output) (g.O.Write.contents l.output) (take l.written l.bytes)
