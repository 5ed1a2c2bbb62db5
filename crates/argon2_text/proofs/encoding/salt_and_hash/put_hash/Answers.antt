use Rattle.std.proofs.Common.{◌-◌, length, take, drop, refl, ap, length-drop, length-take-le, arith, ◌∙◌}
use Rattle.argon2_standard.specs.Standard.Text.{base64}
use Rattle.argon2_text.proofs.Letters.{written_behind}
use Rattle.argon2_text.proofs.Pieces.{elements_from}
use Rattle.argon2_text.proofs.Writing.{put_ahead}
use Rattle.argon2_text.proofs.encoding.salt_and_hash.put_hash.Goals as goal

pub loop-rest-preserved : goal.loop-rest-preserved
loop-rest-preserved c =
    let rest = c.loop-rest.rest.now in
    let group = length-take-le 3 rest (omega (arith, c.loop-rest-test.true)) in
    record {
      all = put_ahead base64 _ _ _ _ _ _ 3 _ c.put-at.ensures.front c.four_letters.ensures refl (elements_from 3 rest)
          (written_behind (take 3 rest) (take (length rest - 3) (drop 3 rest)) group) ∙ c.loop-rest.invariant.all;
      room = omega (arith, c.put-at.ensures.end, c.put-at.ensures.len, c.loop-rest.invariant.room, length-drop 3 rest, ap length (elements_from 3 rest));
    }
