use Rattle.std.proofs.Common.{◌*◌, arith, ap}
use Rattle.argon2_fill.proofs.fill.prepare_memory.Goals as goal

pub new-requires-clause-fits : goal.new-requires-clause-fits
new-requires-clause-fits c =
    let x = c.args.context.now in
    let length = ap (λ n. x.config.lanes * n) x.lane in
    omega (arith, length, x.memory)
