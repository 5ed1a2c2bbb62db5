-- The head of a string is rejected with the error of the value that the string decodes to.
use Rattle.argon2.proofs.StoredHashes.{head_accepted, head_rejected, spells_some}
use Rattle.argon2.proofs.stored.accepted_spelling.Goals as goal

pub returns-in_default-clause-spelled : goal.returns-in_default-clause-spelled
returns-in_default-clause-spelled c d config spells stored =
    let none = rw c.as_bytes.ensures.value at c.in_default.ensures in
    absurd (none d spells)

pub returns-in-None-clause-unspelled : goal.returns-in-None-clause-unspelled
returns-in-None-clause-unspelled c none =
    let s = rw c.as_bytes.ensures.value at c.in-Some.ensures in
    absurd (spells_some c.args.encoded.now c.in-Some.head s none)

pub returns-in-None-clause-spelling : goal.returns-in-None-clause-spelling
returns-in-None-clause-spelling c = rw c.as_bytes.ensures.value at c.in-Some.ensures

pub returns-in-None-clause-spelled : goal.returns-in-None-clause-spelled
returns-in-None-clause-spelled c d config spells stored =
    let s = rw c.as_bytes.ensures.value at c.in-Some.ensures in
    head_accepted c.args.encoded.now c.in-Some.head c.args.pwd_len c.args.secret.now c.args.ad.now c.refusal.result d config c.refusal.ensures s
    c.in-None.is spells stored

pub returns-in-Some-refusal-clause-unspelled : goal.returns-in-Some-refusal-clause-unspelled
returns-in-Some-refusal-clause-unspelled c none =
    let s = rw c.as_bytes.ensures.value at c.in-Some.ensures in
    absurd (spells_some c.args.encoded.now c.in-Some.head s none)

pub returns-in-Some-refusal-clause-spelled : goal.returns-in-Some-refusal-clause-spelled
returns-in-Some-refusal-clause-spelled c d config spells stored =
    let s = rw c.as_bytes.ensures.value at c.in-Some.ensures in
    head_rejected c.args.encoded.now c.in-Some.head c.args.pwd_len c.args.secret.now c.args.ad.now c.refusal.result d config c.in-Some-refusal.refusal
    c.refusal.ensures s c.in-Some-refusal.is spells stored
