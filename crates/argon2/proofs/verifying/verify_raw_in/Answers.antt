use Rattle.argon2_standard.specs.Standard.ThreadModes.{may_lack_workers}
use Rattle.argon2.proofs.StoredHashes.{leaves_of_length}
use Rattle.argon2.proofs.Verdicts.{verdict_of_length}
use Rattle.argon2.proofs.verifying.verify_raw_in.Goals as goal

pub returns-in-Ok-clause-answer : goal.returns-in-Ok-clause-answer
returns-in-Ok-clause-answer g c =
    let e = c.in-Ok.ensures in
    verdict_of_length c.args.pwd.now c.args.salt.now c.args.hash.now c.args.config.now (may_lack_workers c.args.config.now) c.is_tag.result
    (rw (e.inputs.0, e.inputs.1, e.config) at c.is_tag.ensures.answer)

pub returns-in-Ok-clause-memory : goal.returns-in-Ok-clause-memory
returns-in-Ok-clause-memory g c =
    let e = c.in-Ok.ensures in
    leaves_of_length c.args.pwd.now c.args.salt.now c.args.hash.now c.args.config.now (may_lack_workers c.args.config.now) c.args.memory.now c.is_tag.new.memory c.is_tag.result e.accepted
    (rw (e.inputs.0, e.inputs.1, e.config) at c.is_tag.ensures.filled) (rw (e.inputs.0, e.inputs.1, e.config) at c.is_tag.ensures.left)
