use Rattle.std.proofs.Common.{◌-◌, ◌++◌, ◌∙◌, ap, min, take}
use Rattle.argon2_commands.proofs.Passwords.{piece_fits, read_on}
use Rattle.argon2_commands.proofs.password.read_up_to.Goals as goal

pub returns-in_err-extend_from_slice-in-Ok-clause-stops : goal.returns-in_err-extend_from_slice-in-Ok-clause-stops
returns-in_err-extend_from_slice-in-Ok-clause-stops g c = (
  c.loop.password.items ++ take c.in-Ok.count c.read.new.buf,
  read_on _ _ _ _ _ c.loop.invariant.0 c.in-Ok.ensures.bytes.0,
  piece_fits c.loop.password.items c.read.new.buf c.loop.piece c.in-Ok.count c.min-room.result c.args.most c.loop.invariant.1
      c.in-Ok.ensures.bound.0 c.in-Ok.ensures.bound.1 c.read.auto.buf
      (c.min-room.ensures ∙ ap (λ n. min 4096 (c.args.most - n)) (c.len.ensures ∙ c.loop.password.ok.0)),
)
