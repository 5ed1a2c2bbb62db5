use Rattle.std.proofs.Common.{arith, drop, take, length, sym, ◌∙◌, ◌≡◌, ◌-◌}
use Rattle.std.specs.Str.Parse.{without_leading_plus}
use Rattle.std.proofs.lemmas.List.{take_all, length-drop}
use Rattle.std.proofs.lemmas.Str.Parse.{without_leading_plus_plus}
use Rattle.argon2_text.proofs.Pieces.{number_of_digits}
use Rattle.argon2_text.proofs.encoding.reading.number.Goals as goal

pub returns-then-text-eq43 : goal.returns-then-text-eq43
returns-then-text-eq43 c =
    let text = c.args.text.now in
    let all : take (length text - 1) (drop 1 text) ≡ drop 1 text = take_all (length text - 1) (drop 1 text) (let it = length-drop 1 text in omega (arith, it)) in
    let behind : without_leading_plus text ≡ drop 1 text = without_leading_plus_plus text (omega (arith, c.if-text-eq43.true)) in
    number_of_digits text (take (length text - 1) (drop 1 text)) c.digits.result (behind ∙ sym all) c.digits.ensures
