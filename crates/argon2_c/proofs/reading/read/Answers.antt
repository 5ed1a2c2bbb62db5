use Rattle.std.proofs.Common.{refl}
use Rattle.argon2_text.specs.Views.Texts.{spelled_with}
use Rattle.argon2_c.proofs.JobNumbers.{by_head, no_head}
use Rattle.argon2_c.proofs.reading.read.Goals as goal

pub returns-in-Err : goal.returns-in-Err
returns-in-Err c = no_head c.args.text.now c.in-Err.error _ _ c.in-Err.ensures

pub returns : goal.returns
returns c = by_head c.args.text.now c.in-Ok.head _ _ _ _ c.in-Ok.ensures (λ salt hash s h.
    (refl, c.of.ensures (spelled_with c.in-Ok.head salt hash) (c.numbers.ensures salt hash s h)))
