use Rattle.std.proofs.Common.{ℕ, ◌+◌, ◌%◌, List, set, replicate, refl, ap, sym, ◌∙◌, arith}
use Rattle.argon2_blocks.specs.Standard.Block.{zero_block}
use Rattle.argon2_memory.specs.Standard.Kept.{SegmentValue}
use Rattle.std.proofs.lemmas.List.{set-append_left}
use Rattle.argon2_memory.proofs.segment.own_blocks.Segment.put.Goals as goal

pub returns : goal.returns
returns c =
    let with_blocks : List (List ℕ) → SegmentValue = λ blocks. record { blocks = blocks; tally = (c.self.inside.tally + 1) % 18446744073709551616 } in
    let front = c.make_up_to.new.blocks in
    let long = front.ok.0 in
    let fits = c.make_up_to.ensures.made in
    let e = sym (set-append_left front.items (replicate c.make_up_to.new.zeros zero_block) c.args.index c.copy_to.new.dst (omega (arith, long, fits)))
    ∙ ap (λ l. set l c.args.index c.copy_to.new.dst) c.make_up_to.ensures.same in
    rw (← c.self.view_is) (ap with_blocks e ∙ rw c.copy_to.ensures refl)
