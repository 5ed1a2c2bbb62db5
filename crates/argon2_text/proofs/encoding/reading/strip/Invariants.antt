use Rattle.std.proofs.Common.{◌≡◌, take}
use Rattle.argon2_text.proofs.encoding.reading.strip.Given as goal

abbrev pub invariant-loop-at : goal.invariant-loop-at
invariant-loop-at l = take l.at l.text ≡ take l.at l.front
