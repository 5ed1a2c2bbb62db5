use Rattle.std.proofs.Common.{◌≡◌, ℕ, List, length, arith, ap, ◌∙◌}
use Rattle.std.proofs.lemmas.List.{with_items_is}
use Rattle.argon2_blocks.specs.Standard.Block.{block_bytes}
use Rattle.argon2_blocks.specs.Standard.Hprime.{hprime}
use Rattle.argon2_memory.specs.Views.Jobs.{setting_of_context}
use Rattle.argon2_standard.specs.Standard.Tag.{tag_from, tag_of}
use Rattle.argon2_fill.proofs.Passes.{last_blocks-memory}
use Rattle.argon2_fill.proofs.fill.finalize.Goals as goal

pub returns-clause-hash : goal.returns-clause-hash
unfolding tag_from
returns-clause-hash c =
    let len = c.args.context.now.config.hash_length in
    let n : length c.deref_mut.result.now ≡ len = omega (arith, c.in_ok-tag.ensures) in
    let kept = with_items_is c.in_ok-tag.tag c.write_tag.new.out (omega arith) in
    kept ∙ c.write_tag.ensures.hash ∙ ap (λ (k : ℕ). hprime k (block_bytes c.combine_last_blocks.new.out)) n
    ∙ ap (λ (b : List ℕ). hprime len (block_bytes b)) c.combine_last_blocks.ensures

pub returns-clause-tag : goal.returns-clause-tag
unfolding tag_of
returns-clause-tag c = λ holds.
    let x = c.args.context.now in
    returns-clause-hash c
    ∙ ap (λ (blocks : List (List ℕ)). tag_from blocks x.config.hash_length)
    (last_blocks-memory (setting_of_context x) c.facts_of_context.ensures.setting c.args.memory.now c.requires.shape holds)
