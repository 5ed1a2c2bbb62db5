use Rattle.std.proofs.Common.{ℕ, List, length, ap, ◌∙◌}
use Rattle.argon2_blocks.specs.Standard.Block.{block_bytes}
use Rattle.argon2_blocks.specs.Standard.Hprime.{hprime}
use Rattle.argon2_standard.specs.Standard.Tag.{tag_from}
use Rattle.argon2_memory.specs.Views.Places.{blocks_of_lane}
use Rattle.argon2_fill.proofs.Passes.{last_blocks-held}
use Rattle.argon2_fill.proofs.caller_blocks.finalize_slice.Goals as goal

pub returns-clause-hash : goal.returns-clause-hash
unfolding tag_from
returns-clause-hash c = c.write_tag.ensures.hash ∙ ap (λ (b : List ℕ). hprime (length c.args.out.now) (block_bytes b)) c.combine_last_of_slice.ensures

pub returns-clause-tag : goal.returns-clause-tag
unfolding tag_from
returns-clause-tag c holds =
    let s = c.args.job.now.setting in
    returns-clause-hash c
    ∙ ap (λ (l : List (List ℕ)). tag_from l (length c.args.out.now)) (last_blocks-held s c.facts_of_job.ensures.setting (blocks_of_lane s c.args.slice.now) holds)
