use Rattle.std.proofs.Common.{arith, refl}
use Rattle.std.proofs.lemmas.List.{append-nil, take_all}
use Rattle.base64.specs.GeneralPurpose.{IsBytes}
use Rattle.argon2_standard.specs.Standard.Text.{base64}
use Rattle.argon2_text.proofs.Letters.{none_written, one_written, two_written}
use Rattle.argon2_text.proofs.Writing.{all_put}
use Rattle.argon2_text.proofs.encoding.salt_and_hash.put_last_letters.Goals as goal

pub returns-in-empty : goal.returns-in-empty
returns-in-empty c =
    rw (← none_written c.args.tail.now c.in-empty.len_below, append-nil, take_all c.args.at c.args.out.now (omega (arith, c.requires.room))) refl

pub returns-in-len1 : goal.returns-in-len1
returns-in-len1 c =
    let fits : IsBytes c.args.tail.now = λ i. let f = c.type_inv.tail i in omega (arith, f) in
    all_put _ _ _ (base64 c.args.tail.now) c.put.result c.put.ensures.front (omega (arith, c.put.ensures.end, c.put.ensures.len, c.requires.room))
    (rw (c.letter.ensures, c.letter-in-len1.ensures) (one_written c.args.tail.now c.in-len1.len_at_least c.in-len1.len_below fits))

pub returns-in-len2-up : goal.returns-in-len2-up
returns-in-len2-up c =
    let fits : IsBytes c.args.tail.now = λ i. let f = c.type_inv.tail i in omega (arith, f) in
    all_put _ _ _ (base64 c.args.tail.now) c.put-in-len2-up.result c.put-in-len2-up.ensures.front (omega (arith, c.put-in-len2-up.ensures.end, c.put-in-len2-up.ensures.len, c.requires.room))
    (rw (c.letter-in-len2-up.ensures, c.letter-in-len2-up-2.ensures, c.letter-in-len2-up-3.ensures)
    (two_written c.args.tail.now c.in-len2-up.len_at_least c.requires.few fits))
