use Rattle.std.proofs.Common.{◌≡◌, ℕ, true, length, take, replicate, arith, ◌∙◌, ap}
use Rattle.std.proofs.lemmas.List.{length-take}
use Rattle.argon2_memory.specs.Views.Jobs.{first_index, Job}
use Rattle.argon2_standard.specs.Standard.Reference.{is_data_independent}
use Rattle.argon2_memory.proofs.ReferenceSets.{references_known}
use Rattle.argon2_memory.proofs.segment.filling.fill_independent.Goals as goal

pub write_blocks-requires-clause-chosen : goal.write_blocks-requires-clause-chosen
write_blocks-requires-clause-chosen g c =
    let j = c.job.result.now in
    let beside = c.args.beside.now.job in
    let same = c.job.ensures.value in
    let t = length-take {A = ℕ × ℕ} c.args.count (replicate 128 (0, 0)) in
    let n = length (take c.args.count (replicate 128 (0, 0))) in
    let l : j.setting.segment_length ≡ beside.setting.segment_length = ap (λ (x : Job). x.setting.segment_length) same in
    let f : first_index j ≡ first_index beside = ap (λ (x : Job). first_index x) same in
    let i : is_data_independent j.setting.variant j.pass j.slice ≡ true = ap (λ (x : Job). is_data_independent x.setting.variant x.pass x.slice) same
    ∙ c.requires.independent in
    let good = rw (← same) at c.job.ensures.beside.job in
    let known = references_known j good c.args.lane c.args.first n (omega (arith, t, l, c.requires.indexes_fit)) (omega
    (arith, f, c.requires.later)) i c.reference_positions.new.out c.reference_positions.ensures (omega arith) in
    rw same at known
