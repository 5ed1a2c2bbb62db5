use Rattle.std.proofs.Common.{◌≡◌, ℕ, length, ap, ◌∙◌}
use Rattle.argon2_standard.specs.Standard.Setting.{Setting}
use Rattle.argon2_standard.specs.Standard.Tag.{last_blocks, tag_from, tag_of}
use Rattle.argon2_memory.specs.Views.Jobs.{Job, setting_of_context}
use Rattle.argon2_fill.proofs.caller_blocks.hash_over.Goals as goal

pub returns : goal.returns
unfolding tag_of
returns g c =
    let s = setting_of_context c.args.context.now in
    let same : c.new.result.setting ≡ s = ap (λ (j : Job). j.setting) c.new.ensures.value in
    c.hash_job_over.ensures
    ∙ ap (λ (x : Setting). tag_from (last_blocks x) (length c.args.out.now)) same
    ∙ ap (λ (n : ℕ). tag_from (last_blocks s) n) c.requires.out_fits
