use Rattle.std.proofs.Common.{ℕ, ◌≤◌, length, subst, sym, take}
use Rattle.std.specs.Io.KnownBytes.{Appends}
use Rattle.std.proofs.KnownBytes.{Appends-kept}
use Rattle.argon2_commands.proofs.Statuses.{one_more_piece}
use Rattle.argon2_commands.proofs.runs.write_bytes.Goals.{in-Ok, in-Err+else-ne}
use Rattle.argon2_commands.proofs.runs.write_bytes.Goals as goal

pub loop-preserved : goal.loop-preserved
loop-preserved g c =
    let Holds = λ (written : ℕ). (written ≤ length c.args.bytes.now) × Appends (g.O.Write.contents c.args.output.now) (g.O.Write.contents c.write.new.self) (take written c.args.bytes.now) in
    elim c.match-write.branch [
      | in-Ok w ↦ subst Holds (sym w.written-is)
          (one_more_piece _ _ _ c.args.bytes.now c.loop.written w.in-Ok.count c.loop.invariant.0 c.loop.invariant.1 w.in-Ok.ensures.bound w.in-Ok.ensures.bytes)
      | in-Err+else-ne w ↦ subst Holds (sym w.written-is)
          (c.loop.invariant.0, Appends-kept _ _ _ _ c.loop.invariant.1 w.in-Err.ensures.bytes)
    ]
