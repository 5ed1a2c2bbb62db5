use Rattle.std.proofs.Common.{◌≡◌, ℕ, List, ◌∙◌, ap}
use Rattle.std.specs.Prelude.{slice_index}
use Rattle.argon2_memory.specs.Views.Jobs.{position_of}
use Rattle.argon2_memory.specs.Views.Filling.{block_seen}
use Rattle.argon2_standard.specs.Standard.Reference.{previous}
use Rattle.argon2_memory.proofs.Filled.{drawn_from_previous}
use Rattle.argon2_memory.proofs.segment.filling.dependent_word.Goals as goal

pub returns : goal.returns
returns g c snapshot filled =
    let q = c.requires in
    let v = c.args.beside.now in
    let all = (g.O.OwnBlocks.seen c.args.own.now).blocks in
    let before = c.source_before in
    let read = c.named.ensures ∙ before.ensures.value all in
    let word : c.index.result.now ≡ slice_index (block_seen v all c.args.lane (previous v.job.setting
    (position_of v.job c.args.lane c.args.index)).column) 0 =
    c.index.ensures ∙ ap (λ (block : List ℕ). slice_index block 0) read in
    drawn_from_previous v before.ensures.beside.job c.args.lane c.args.index q.lane_fits q.index_fits q.later snapshot all filled
    c.index.result.now q.dependent word
