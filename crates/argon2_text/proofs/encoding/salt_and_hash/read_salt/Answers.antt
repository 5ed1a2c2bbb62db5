-- An item's bytes are decoded, and fill the buffer.
use Rattle.std.proofs.Common.{length}
use Rattle.argon2_text.proofs.Items.{item_filled}
use Rattle.argon2_text.proofs.encoding.salt_and_hash.read_salt.Goals as goal

pub unreachable-requires : goal.unreachable-requires
unreachable-requires c =
    c.in_default.not-Ok (length c.args.salt.now)
    (item_filled c.args.text.now c.args.salt.now c.decode_slice.new.output c.decode_slice.result c.requires.item c.requires.length
    c.decode_slice.ensures.value c.decode_slice.ensures.written).0

pub returns : goal.returns
returns c =
    (item_filled c.args.text.now c.args.salt.now c.decode_slice.new.output c.decode_slice.result c.requires.item c.requires.length
    c.decode_slice.ensures.value c.decode_slice.ensures.written).1
