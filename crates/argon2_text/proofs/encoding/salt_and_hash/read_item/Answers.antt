use Rattle.std.proofs.Common.{◌-◌, length, take, drop, refl, ap, length-drop, length-take-le, arith, ◌∙◌}
use Rattle.base64.specs.GeneralPurpose.{IsBytes}
use Rattle.argon2_text.specs.Views.Letters.{bytes_read}
use Rattle.argon2_text.proofs.Letters.{item_read, read_behind}
use Rattle.argon2_text.proofs.Pieces.{elements_from}
use Rattle.argon2_text.proofs.Writing.{put_ahead}
use Rattle.argon2_text.proofs.encoding.salt_and_hash.read_item.Goals as goal

pub loop-rest-preserved : goal.loop-rest-preserved
loop-rest-preserved c =
    let rest = c.loop-rest.rest.now in
    let group = length-take-le 4 rest (omega (arith, c.loop-rest-test.true)) in
    record {
      all = put_ahead bytes_read _ _ _ _ _ _ 4 _ c.put-at.ensures.front c.three_bytes.ensures refl (elements_from 4 rest)
          (read_behind (take 4 rest) (take (length rest - 4) (drop 4 rest)) group) ∙ c.loop-rest.invariant.all;
      room = omega (arith, c.put-at.ensures.end, c.put-at.ensures.len, c.loop-rest.invariant.room, length-drop 4 rest, ap length (elements_from 4 rest));
    }

pub returns : goal.returns
returns c =
    let fits : IsBytes c.args.text.now = λ i. let f = c.type_inv.text i in omega (arith, f) in
    rw (c.put_last_bytes.ensures, c.loop-rest.invariant.all) (item_read c.args.text.now fits c.requires.item)
