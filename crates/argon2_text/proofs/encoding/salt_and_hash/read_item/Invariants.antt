use Rattle.std.proofs.Common.{◌≡◌, ◌+◌, ◌*◌, ◌/◌, ◌++◌, length, take}
use Rattle.argon2_text.specs.Views.Letters.{bytes_read}
use Rattle.argon2_text.proofs.encoding.salt_and_hash.read_item.Given as goal

-- the bytes decoded so far and then the bytes of the rest are the bytes of the string. The bytes of the rest fill the
-- buffer exactly.
abbrev pub invariant-loop-rest : goal.invariant-loop-rest
invariant-loop-rest l = record {
  all : take l.at l.item ++ bytes_read l.rest ≡ bytes_read l.fn.text;
  room : l.at + 3 * length l.rest / 4 ≡ length l.item;
}

abbrev pub decreases-loop-rest : goal.decreases-loop-rest
decreases-loop-rest l = length l.rest
