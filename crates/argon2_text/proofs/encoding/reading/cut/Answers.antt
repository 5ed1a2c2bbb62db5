use Rattle.std.proofs.Common.{◌≡◌, suc, ◌+◌, sym, arith}
use Rattle.argon2_text.proofs.Pieces.{Lacks-from_places, cut_at, cut_none, elements_from}
use Rattle.argon2_text.proofs.encoding.reading.cut.Goals as goal

pub returns-then-text-at : goal.returns-then-text-at
returns-then-text-at c =
    let text = c.args.text.now in
    let at = c.loop-at.at in
    let next : at + 1 ≡ suc at = omega arith in
    rw (elements_from (at + 1) text, next)
    (sym (cut_at c.args.mark text at (omega (arith, c.loop-at-test.true)) (omega (arith, c.if-text-at.true)) c.loop-at.invariant))

pub returns : goal.returns
returns c =
    let text = c.args.text.now in
    sym (cut_none c.args.mark text (Lacks-from_places c.args.mark text (λ i small. c.loop-at.invariant i (omega (arith, small, c.loop-at-test.false)))))
