use Rattle.std.proofs.Common.{◌≡◌, take}
use Rattle.argon2_blocks.specs.Standard.Word.{words_of}
use Rattle.argon2_blocks.proofs.blake2b.read_words.Given as goal

abbrev pub invariant-loop-i : goal.invariant-loop-i
invariant-loop-i l = take l.i l.words ≡ words_of l.i l.bytes
