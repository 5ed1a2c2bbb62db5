use Rattle.std.proofs.Common.{false}
use Rattle.argon2.proofs.StoredHashes.{leaves_of_length}
use Rattle.argon2.proofs.Verdicts.{verdict_of_length}
use Rattle.argon2.proofs.verifying.verify_raw_in_sequential.Goals as goal

pub returns-in-Ok-clause-answer : goal.returns-in-Ok-clause-answer
returns-in-Ok-clause-answer c =
    let e = c.in-Ok.ensures in
    verdict_of_length c.args.pwd.now c.args.salt.now c.args.hash.now c.args.config.now false c.is_tag_sequential.result
    (rw (e.inputs.0, e.inputs.1, e.config) at c.is_tag_sequential.ensures.answer)

pub returns-in-Ok-clause-memory : goal.returns-in-Ok-clause-memory
returns-in-Ok-clause-memory c =
    let e = c.in-Ok.ensures in
    leaves_of_length c.args.pwd.now c.args.salt.now c.args.hash.now c.args.config.now false c.args.memory.now c.is_tag_sequential.new.memory c.is_tag_sequential.result e.accepted
    (rw (e.inputs.0, e.inputs.1, e.config) at c.is_tag_sequential.ensures.filled) (rw (e.inputs.0, e.inputs.1, e.config) at c.is_tag_sequential.ensures.left)
