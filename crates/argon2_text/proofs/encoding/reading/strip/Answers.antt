use Rattle.std.proofs.Common.{ℕ, List, ◌≡◌, ◌≢◌, ◌<◌, ◌++◌, None, length, take, drop, get_or, arith, ap, sym, ◌∙◌}
use Rattle.std.proofs.lemmas.List.{length-append, get_or_append_left, take-append-drop, take_all}
use Rattle.argon2_text.specs.Views.Cutting.{strip}
use Rattle.argon2_text.proofs.Pieces.{elements_from, strip_none, strip-again}
use Rattle.argon2_text.proofs.encoding.reading.strip.Goals as goal

-- stripping finds nothing in a string that is shorter than the front
too_short : (front text : List ℕ) → length text < length front → strip front text ≡ None
too_short front text less = strip_none front text (λ rest e. let it = ap length e ∙ length-append front rest in omega (arith, less, it))

-- stripping finds nothing in a string that differs from the front at some index of the front
differs : (front text : List ℕ) (at : ℕ) → at < length front → get_or text at 0 ≢ get_or front at 0 → strip front text ≡ None
differs front text at inside other = strip_none front text (λ rest e. other (rw e (get_or_append_left front rest 0 at inside)))

-- a string whose first bytes are the front is the front and what is behind it
begins : (front text : List ℕ) → take (length front) text ≡ front → text ≡ front ++ drop (length front) text
begins front text same = sym (take-append-drop (length front) text) ∙ ap (λ (t : List ℕ). t ++ drop (length front) text) same

pub returns-then-text-front : goal.returns-then-text-front
returns-then-text-front c = sym (too_short c.args.front.now c.args.text.now (omega (arith, c.if-text-front.true)))

pub returns-then-text-at : goal.returns-then-text-at
returns-then-text-at c =
    sym (differs c.args.front.now c.args.text.now c.loop-at.at (omega (arith, c.loop-at-test.true)) (λ e. omega (arith, e, c.if-text-at.true)))

pub returns : goal.returns
returns c =
    let text = c.args.text.now in
    let front = c.args.front.now in
    let end : c.loop-at.at ≡ length front = omega (arith, c.loop-at-test.false, c.loop-at.auto.at-end) in
    let same : take (length front) text ≡ front = (rw end at c.loop-at.invariant) ∙ take_all (length front) front (omega arith) in
    rw (elements_from (length front) text) (sym (ap (strip front) (begins front text same) ∙ strip-again front (drop (length front) text)))
