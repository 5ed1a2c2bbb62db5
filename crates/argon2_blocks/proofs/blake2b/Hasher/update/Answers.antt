use Rattle.std.proofs.Common.{◌≡◌, ℕ, List, ◌+◌, ◌++◌, take, drop, ap, sym, ◌∙◌, arith}
use Rattle.std.proofs.lemmas.List.{append-nil, append_assoc, take_all, take_rest}
use Rattle.std.proofs.Math.Seq.{take-add}
use Rattle.argon2_blocks.proofs.blake2b.Hasher.update.Goals as goal

pub loop-start-init : goal.loop-start-init
loop-start-init c = (omega arith, λ nn m held. rw append-nil held)

pub loop-start-preserved : goal.loop-start-preserved
loop-start-preserved c = (
  omega arith,
  λ nn m held.
      let bytes = c.args.bytes.now in
      let a = c.loop-start.start in
      let n = c.fill_buffer-start.result in
      let taken = rw take_rest at (c.fill_buffer-start.ensures.taken nn (m ++ take a bytes) (c.loop-start.invariant.1 nn m held)) in
      let same : (m ++ take a bytes) ++ take n (drop a bytes) ≡ m ++ take (a + n) bytes =
      append_assoc m (take a bytes) (take n (drop a bytes)) ∙ ap (λ (l : List ℕ). m ++ l) (sym (take-add a n bytes)) in
      rw (← same) taken,
)

pub returns : goal.returns
returns c = λ nn m held.
    let all : take c.loop-start.start c.args.bytes.now ≡ c.args.bytes.now = take_all c.loop-start.start c.args.bytes.now (omega arith) in
    rw all at (c.loop-start.invariant.1 nn m held)
