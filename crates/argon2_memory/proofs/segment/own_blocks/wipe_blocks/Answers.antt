use Rattle.std.proofs.Common.{◌≡◌, ℕ, List, ◌++◌, drop, map, take, length, arith, ◌∙◌, sym, ap, refl}
use Rattle.std.proofs.lemmas.List.Edits.{map_over_more}
use Rattle.std.proofs.lemmas.List.{append-nil}
use Rattle.std.proofs.lemmas.Simd.{splat_is_map}
use Rattle.std.proofs.Math.Seq.{drop-length, take-length}
use Rattle.argon2_blocks.specs.Standard.Block.{zero_block}
use Rattle.argon2_memory.proofs.segment.own_blocks.wipe_blocks.Goals as goal

pub loop-block-preserved : goal.loop-block-preserved
loop-block-preserved c =
    rw c.wipe.ensures (map_over_more (λ b. zero_block) c.args.blocks.now c.loop-block.blocks c.loop-block.block-index c.block-item.result
    (omega arith) c.loop-block.invariant c.block-item.is)

pub returns : goal.returns
returns c =
    let xs = c.args.blocks.now in
    let wiped : List (List ℕ) → List (List ℕ) = map (λ b. zero_block) in
    let whole : c.loop-block.block-index ≡ length xs = omega arith in
    c.loop-block.invariant
    ∙ ap (λ n. wiped (take n xs) ++ drop n xs) whole
    ∙ ap (λ l. wiped l ++ drop (length xs) xs) (take-length xs)
    ∙ ap (λ l. wiped xs ++ l) (drop-length xs)
    ∙ append-nil (wiped xs)
    ∙ sym (splat_is_map xs (length xs) zero_block refl)
