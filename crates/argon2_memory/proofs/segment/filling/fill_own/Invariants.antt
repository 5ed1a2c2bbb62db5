use Rattle.std.proofs.Common.{◌≡◌, ◌+◌, ◌-◌, ◌%◌, ◌^◌, ◌≤◌, length}
use Rattle.argon2_memory.specs.Views.Filling.{FillsOn}
use Rattle.argon2_memory.specs.Views.Jobs.{first_index}
use Rattle.argon2_memory.proofs.segment.filling.fill_own.Given as goal

abbrev pub invariant-loop-index : goal.invariant-loop-index
invariant-loop-index g l = record {
  filled : FillsOn l.beside l.lane (first_index l.beside.job) l.index (g.O.OwnBlocks.seen l.initial.own) (g.O.OwnBlocks.seen l.own);
  long : length (g.O.OwnBlocks.seen l.own).blocks ≡ l.beside.job.setting.segment_length;
  later : first_index l.beside.job ≤ l.index;
  within : l.index ≤ l.beside.job.setting.segment_length;
  tally : (g.O.OwnBlocks.seen l.own).tally ≡ ((g.O.OwnBlocks.seen l.initial.own).tally + (l.index - first_index l.beside.job)) % 2 ^ 64;
  same : g.O.OwnBlocks.loan l.own ≡ g.O.OwnBlocks.loan l.initial.own;
}

abbrev pub decreases-loop-index : goal.decreases-loop-index
decreases-loop-index g l = l.beside.job.setting.segment_length - l.index
