use Rattle.std.proofs.Common.{ap, arith, length, sym, ◌∙◌}
use Rattle.argon2_blocks.specs.Standard.Word.{words_of}
use Rattle.argon2_blocks.proofs.WordLists.{bytes_of_all, bytes_of_more, bytes_of_none, words_of-bytes_of}
use Rattle.argon2_blocks.proofs.blake2b.write_words.Goals as goal

pub loop-i-init : goal.loop-i-init
loop-i-init c = sym bytes_of_none

pub loop-i-preserved : goal.loop-i-preserved
loop-i-preserved c = bytes_of_more c.loop-i.bytes c.args.words.now _ c.loop-i.i _ c.loop-i-test.true (omega arith) c.loop-i.invariant
    (c.copy_from_slice.ensures.after ∙ c.u64_to_le_bytes.ensures)

pub returns-clause-back : goal.returns-clause-back
returns-clause-back c =
    let words = c.args.words.now in
    ap (words_of (length words))
    (bytes_of_all c.loop-i.bytes words c.loop-i.i c.loop-i.invariant c.loop-i-test.false (c.loop-i.auto.bytes ∙ c.requires))
    ∙ words_of-bytes_of words (λ k. (c.type_inv.words k).fits)
