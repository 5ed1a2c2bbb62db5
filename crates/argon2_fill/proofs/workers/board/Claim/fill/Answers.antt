use Rattle.std.proofs.Common.{◌∙◌, sym, refl, subst, ap}
use Rattle.argon2_memory.specs.Views.Jobs.{Job}
use Rattle.argon2_memory.specs.Views.Segments.{IsReady, segment_at}
use Rattle.argon2_fill.proofs.Boards.{no_other_job}
use Rattle.argon2_fill.proofs.workers.board.Claim.fill.Goals as goal

pub fill_segment-requires-clause-ready : goal.fill_segment-requires-clause-ready
fill_segment-requires-clause-ready c =
    let same = no_other_job c.args.self.job c.job.result.now c.if-ne.ensures in
    let P : Job → Type 0 = λ j. IsReady j.setting j.pass j.slice c.args.self.lane c.args.self.segment.blocks in
    subst P (same ∙ c.job.ensures.value) c.args.self.ready

pub invariant_of-result : goal.invariant_of-result
invariant_of-result c =
    let same = no_other_job c.args.self.job c.job.result.now c.if-ne.ensures in
    record {
      lane_fits = c.args.self.lane_fits;
      holds = c.fill_segment.ensures.filled ∙ sym (ap (λ (j : Job). segment_at j.setting j.pass j.slice c.args.self.lane) (same ∙ c.job.ensures.value));
    }

pub returns-clause-exact : goal.returns-clause-exact
returns-clause-exact c =
    let same = no_other_job c.args.self.job c.job.result.now c.if-ne.ensures in
    ((λ _. same ∙ c.job.ensures.value), (λ _. refl))
