use Rattle.std.proofs.Common.{◌≡◌, ◌++◌, length, take, drop, ◌∙◌, arith, length-append, length-drop, refl}
use Rattle.std.proofs.lemmas.List.{length-take-le}
use borrow.Rule.Slice.PartMut.{mid_of, mid_len}
use Rattle.argon2_blocks.proofs.Parts.{put_rest}
use Rattle.argon2_blocks.proofs.blake2b.variable_length.write_half_block.Goals as goal

pub returns : goal.returns
returns c =
    let block = c.args.block.now in
    let front : length (take 8 block) ≡ 8 = length-take-le 8 block (omega arith) in
    let words = c.read_words.new.words in
    let all = length-append words (drop 8 block) in
    let rest : length (mid_of 8 8 (words ++ drop 8 block)) ≡ 8 =
    mid_len 8 16 (words ++ drop 8 block) (omega (arith, all, front, c.read_words.auto.words, length-drop 8 block)) in
    put_rest 8 8 words (drop 8 block) c.fill.new.items (omega (arith, c.read_words.auto.words, front)) (omega (arith, length-drop 8 block))
    ∙ rw (c.read_words.ensures, c.fill.ensures.after, front, rest) refl
