-- The head of a string has the numbers of each value that the string decodes to.
use Rattle.std.proofs.Common.{Ok, ap, sym, ◌∙◌}
use Rattle.argon2_text.specs.Views.Texts.{numbers_of}
use Rattle.argon2.proofs.StoredHashes.{spelled_at, spells_some}
use Rattle.argon2.proofs.stored.numbers_of_text.Goals as goal

pub returns-in-None-clause-spelled : goal.returns-in-None-clause-spelled
returns-in-None-clause-spelled c d spells = absurd ((rw c.as_bytes.ensures.value at c.in-None.ensures) d spells)

pub returns-in-Some-clause-unspelled : goal.returns-in-Some-clause-unspelled
returns-in-Some-clause-unspelled c none =
    let s = (rw c.as_bytes.ensures.value at c.in-Some.ensures) in
    absurd (spells_some c.args.encoded.now c.in-Some.head s none)

pub returns-in-Some-clause-spelled : goal.returns-in-Some-clause-spelled
returns-in-Some-clause-spelled c d spells =
    let s = (rw c.as_bytes.ensures.value at c.in-Some.ensures) in
    let same = spelled_at c.args.encoded.now c.in-Some.head d s spells in
    ap Ok (c.numbers.ensures s.0 s.1 s.2.salt_item s.2.hash_item ∙ ap numbers_of (sym same))
