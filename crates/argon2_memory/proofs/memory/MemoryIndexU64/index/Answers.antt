use Rattle.std.proofs.Common.{◌<◌, ◌*◌, arith, ap, inl, inr, ◌∙◌}
use Rattle.std.proofs.lemmas.Bool.Decides.{eqb_tells}
use Rattle.std.proofs.Math.Nat.{div-lt_iff_lt-mul}
use Rattle.argon2_memory.proofs.memory.MemoryIndexU64.index.Goals as goal

pub block-requires-clause-lane_fits : goal.block-requires-clause-lane_fits
block-requires-clause-lane_fits c =
    let m = c.args.self.now in
    let length = c.from-length.result in
    let columns = ap (λ n. m.lanes * n) (c.from-length.ensures ∙ c.lane_length.ensures.value) in
    let few : c.args.index < m.lanes * length = omega (arith, c.requires, columns) in
    let some : 0 < length = elim (eqb_tells length 0) [
      | inl w ↦ absurd (let none = ap (λ n. m.lanes * n) w.1 in omega (arith, few, none))
      | inr w ↦ omega (arith, w.1)
    ] in
    (div-lt_iff_lt-mul some).1 few
