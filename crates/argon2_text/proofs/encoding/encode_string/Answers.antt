use Rattle.std.proofs.Common.{arith, drop, length}
use Rattle.std.proofs.lemmas.List.{take_at}
use Rattle.std.proofs.lemmas.Str.{IsUtf8-from_ascii}
use Rattle.argon2_standard.proofs.Settings as settings
use Rattle.argon2_standard.specs.Standard.Text.{spelled_of, text_of}
use Rattle.argon2_text.proofs.Writing.{IsAscii-text_of}
use Rattle.argon2_text.proofs.encoding.encode_string.Goals as goal

pub text_len-len-requires-clause-salt : goal.text_len-len-requires-clause-salt
text_len-len-requires-clause-salt c =
    let x = c.args.context.now in
    let a = settings.accepted x.config (length x.pwd.now) (length x.salt.now) x.config.hash_length x.accepted in
    omega (arith, a.salt_fits)

pub from_utf8_unchecked-requires : goal.from_utf8_unchecked-requires
from_utf8_unchecked-requires c =
    let x = c.args.context.now in
    let new = c.write_encoded.new.text in
    let ascii = IsAscii-text_of (spelled_of x.config x.salt.now c.args.hash.now) (omega arith) (omega arith) (omega arith) in
    let text = IsUtf8-from_ascii (text_of (spelled_of x.config x.salt.now c.args.hash.now)) ascii in
    rw (take_at new (drop (length new) c.in_ok-text.text.items) c.in_ok-text.text.len (omega arith), c.write_encoded.ensures) text
