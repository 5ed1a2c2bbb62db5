use Rattle.std.proofs.Common.{◌≡◌, length}
use Rattle.std.specs.Str.Parse.{AllDigits, digits_value, digits_value_after}
use Rattle.argon2_text.proofs.encoding.reading.digits.Given as goal

-- the bytes of the rest are digits exactly if all bytes of the string are digits. The rest, read after the number so
-- far, gives the whole number.
abbrev pub invariant-loop-rest : goal.invariant-loop-rest
invariant-loop-rest l = record {
  back : AllDigits 10 l.rest → AllDigits 10 l.bytes;
  on : AllDigits 10 l.bytes → AllDigits 10 l.rest;
  value : digits_value_after 10 l.number l.rest ≡ digits_value 10 l.bytes;
}

abbrev pub decreases-loop-rest : goal.decreases-loop-rest
decreases-loop-rest l = length l.rest
