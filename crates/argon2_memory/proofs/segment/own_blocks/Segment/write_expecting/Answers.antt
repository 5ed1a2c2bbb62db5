use Rattle.std.proofs.Common.{ℕ, ◌+◌, ◌%◌, ◌<◌, List, [], length, get_or, set, replicate, ap, sym, ◌∙◌, ◌++◌, arith}
use Rattle.std.proofs.lemmas.List.{with_items_is, length-set}
use Rattle.argon2_blocks.specs.Standard.Block.{zero_block}
use Rattle.argon2_memory.specs.Standard.Kept.{SegmentValue}
use Rattle.argon2_memory.specs.Views.Segments.{source_block}
use Rattle.argon2_standard.specs.Standard.Recurrence.{made_block}
use Rattle.argon2_memory.proofs.Filled.{made_in_front}
use Rattle.argon2_memory.proofs.segment.own_blocks.Segment.write_expecting.Goals as goal

pub returns : goal.returns
returns g c =
    let with_blocks : List (List ℕ) → SegmentValue = λ blocks. record { blocks = blocks; tally = (c.self.inside.tally + 1) % 18446744073709551616 } in
    let front = c.make_up_to.new.blocks in
    let zeros = replicate c.make_up_to.new.zeros zero_block in
    let long = front.ok.0 in
    let far = c.make_up_to.ensures.made in
    let fits : c.args.index < length front.items = omega (arith, long, far) in
    let made : List (List ℕ) → List (List ℕ) = λ l. set l c.args.index (made_block (source_block l c.args.prev) (source_block l c.args.reference)
    (get_or l c.args.index []) c.args.with_xor) in
    let e = c.write_among.ensures.written ∙ ap made c.deref_mut.ensures.value in
    let kept = with_items_is front _ (ap (λ (l : List (List ℕ)). length l) e ∙ length-set front.items c.args.index _ ∙ sym front.ok.0) in
    rw (← c.self.view_is, c.write_among.ensures.counted) (ap with_blocks (ap (λ l. l ++ zeros) (kept ∙ e)
    ∙ made_in_front front.items zeros _ c.args.index c.args.prev c.args.reference c.args.with_xor c.make_up_to.ensures.same fits
    c.requires.prev_before c.requires.reference_before))
