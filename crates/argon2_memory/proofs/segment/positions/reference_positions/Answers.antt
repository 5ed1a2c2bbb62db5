use Rattle.std.proofs.Common.{◌≡◌, ℕ, ◌+◌, ◌-◌, ◌/◌, ◌%◌, ◌<◌, List, length, take, drop, arith, sym, ◌∙◌, ap, below_more, get_or-set_same, get_or-set_other}
use Rattle.std.specs.Prelude.{slice_index}
use Rattle.argon2_standard.specs.Standard.Recurrence.{addresses}
use Rattle.argon2_memory.specs.Views.References.{independent_reference, pick_of}
use Rattle.argon2_memory.specs.Views.Jobs.{first_index}
use Rattle.argon2_memory.proofs.Entries.{reference_positions_of-setting}
use Rattle.argon2_memory.proofs.ReferenceSets.{address_word-is, positions-all}
use Rattle.argon2_memory.proofs.segment.positions.reference_positions.Goals as goal

pub loop-k-preserved : goal.loop-k-preserved
loop-k-preserved c =
    let j = c.args.job.now in
    let index = c.args.first + c.loop-k.k in
    let fits : index < j.setting.segment_length = omega (arith, c.requires.indexes_fit) in
    let drawn : c.pick.result ≡ independent_reference j c.args.lane index =
    c.pick.ensures ∙ ap (λ (word : ℕ). pick_of j c.args.lane index word)
    (c.index.ensures ∙ ap (λ (words : List ℕ). slice_index words (index % 128)) c.turn_to.ensures
    ∙ sym (address_word-is j c.facts_of_job.ensures c.args.lane index fits)) in
    record {
      words = λ h. c.turn_to.ensures ∙ ap (λ (n : ℕ). addresses j.setting j.pass c.args.lane j.slice (n / 128)) (omega arith);
      done = below_more _ _
          (λ i h. get_or-set_other c.loop-k.out c.loop-k.k i _ _ (λ e. absurd (omega arith)) ∙ c.loop-k.invariant.done i h)
          (get_or-set_same c.loop-k.out c.loop-k.k _ _ (omega arith) ∙ drawn);
    }

pub returns : goal.returns
returns c =
    let j = c.args.job.now in
    let n = length c.args.out.now in
    positions-all j c.args.lane c.args.first n c.requires.indexes_fit c.requires.later c.loop-k.out (omega arith) (λ k h. c.loop-k.invariant.done k
    (omega arith))
    ∙ ap (λ (l : List (ℕ × ℕ)). take n (drop (c.args.first - first_index j) l)) (sym (reference_positions_of-setting j.setting j.pass j.slice c.args.lane))
