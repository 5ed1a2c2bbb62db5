use Rattle.std.proofs.Common.{◌≡◌, ℕ, List, ◌+◌, ◌++◌, length, replicate, arith, ◌∙◌, sym, ap}
use Rattle.std.proofs.lemmas.List.{length-append, length-replicate, replicate-append-replicate, with_items_is}
use Rattle.argon2_blocks.specs.Standard.Block.{zero_block}
use Rattle.argon2_memory.specs.Standard.Kept.{SegmentValue}
use Rattle.argon2_memory.proofs.segment.own_blocks.Segment.wipe.Goals as goal

pub returns : goal.returns
returns c =
    let made = c.self.inside.blocks.items in
    let zeros = c.self.inside.zeros in
    let fresh : List (List ℕ) → SegmentValue = λ blocks. record { blocks = blocks; tally = 0 } in
    let count : length made + zeros ≡ length (made ++ replicate zeros zero_block) =
    sym (length-append made (replicate zeros zero_block) ∙ ap (λ n. length made + n) (length-replicate zeros zero_block)) in
    let wiped = rw c.deref_mut.ensures.value at c.wipe_blocks.ensures in
    let kept = with_items_is c.self.inside.blocks c.wipe_blocks.new.blocks (omega (arith, c.deref_mut.ensures.len, c.wipe_blocks.auto.blocks)) in
    rw (← c.self.view_is)
    (ap (λ l. fresh (l ++ replicate zeros zero_block)) (kept ∙ wiped)
    ∙ ap fresh (replicate-append-replicate (length made) zeros zero_block ∙ ap (λ n. replicate n zero_block) count))
