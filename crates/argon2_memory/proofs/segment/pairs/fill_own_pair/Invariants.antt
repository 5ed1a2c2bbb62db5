use Rattle.std.proofs.Common.{◌≡◌, ◌+◌, ◌-◌, ◌≤◌, length}
use Rattle.argon2_memory.specs.Views.Filling.{FillsOn}
use Rattle.argon2_memory.specs.Views.Jobs.{first_index}
use Rattle.argon2_memory.proofs.segment.pairs.fill_own_pair.Given as goal

abbrev pub invariant-loop-index : goal.invariant-loop-index
invariant-loop-index g l = record {
  filled : FillsOn l.beside l.lane (first_index l.beside.job) l.index (g.O.OwnBlocks.seen l.initial.own) (g.O.OwnBlocks.seen l.own);
  other_filled : FillsOn l.beside (l.lane + 1) (first_index l.beside.job) l.index (g.O.OwnBlocks.seen l.initial.other)
      (g.O.OwnBlocks.seen l.other);
  long : length (g.O.OwnBlocks.seen l.own).blocks ≡ l.beside.job.setting.segment_length;
  other_long : length (g.O.OwnBlocks.seen l.other).blocks ≡ l.beside.job.setting.segment_length;
  later : first_index l.beside.job ≤ l.index;
  within : l.index ≤ l.beside.job.setting.segment_length;
  same : g.O.OwnBlocks.loan l.own ≡ g.O.OwnBlocks.loan l.initial.own;
  other_same : g.O.OwnBlocks.loan l.other ≡ g.O.OwnBlocks.loan l.initial.other;
}

abbrev pub decreases-loop-index : goal.decreases-loop-index
decreases-loop-index g l = l.beside.job.setting.segment_length - l.index
