use Rattle.std.proofs.Common.{◌≡◌, ◌*◌, take}
use Rattle.argon2_blocks.specs.Standard.Word.{bytes_of}
use Rattle.argon2_blocks.proofs.blake2b.write_words.Given as goal

abbrev pub invariant-loop-i : goal.invariant-loop-i
invariant-loop-i l = take (8 * l.i) l.bytes ≡ bytes_of (take l.i l.words)
