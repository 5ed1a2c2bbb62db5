use Rattle.std.proofs.Common.{ap, arith, refl, sym}
use Rattle.std.proofs.lemmas.List.{append-nil, take_all}
use Rattle.argon2_text.specs.Views.Letters.{bytes_read}
use Rattle.argon2_text.proofs.Letters.{none_read, placed}
use Rattle.argon2_text.proofs.Writing.{all_put}
use Rattle.argon2_text.proofs.encoding.salt_and_hash.put_last_bytes.Goals as goal

pub returns-in-empty : goal.returns-in-empty
returns-in-empty c =
    rw (← none_read c.args.tail.now c.in-empty.len_below, append-nil, take_all c.args.at c.args.out.now (omega (arith, c.requires.room))) refl

pub returns-in-len2 : goal.returns-in-len2
unfolding bytes_read
returns-in-len2 c =
    all_put _ _ _ (bytes_read c.args.tail.now) c.put.result c.put.ensures.front (omega (arith, c.put.ensures.end, c.put.ensures.len, c.requires.room))
    (rw (c.bits.ensures, c.bits-in-len2.ensures) (sym (ap bytes_read (placed c.args.tail.now 2 (omega arith)))))

pub returns-in-len3-up : goal.returns-in-len3-up
unfolding bytes_read
returns-in-len3-up c =
    all_put _ _ _ (bytes_read c.args.tail.now) c.put-in-len3-up.result c.put-in-len3-up.ensures.front (omega (arith, c.put-in-len3-up.ensures.end, c.put-in-len3-up.ensures.len, c.requires.room))
    (rw (c.bits-a.ensures, c.bits-b.ensures, c.bits-c.ensures) (sym (ap bytes_read (placed c.args.tail.now 3 (omega arith)))))
