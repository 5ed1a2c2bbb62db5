use Rattle.std.proofs.Common.{inl, refl}
use Rattle.argon2_text.proofs.encoding.decode_string.Goals as goal

pub returns-in-None-clause-refused : goal.returns-in-None-clause-refused
returns-in-None-clause-refused c = inl (refl, rw c.as_bytes.ensures.value at c.in-None.ensures)
