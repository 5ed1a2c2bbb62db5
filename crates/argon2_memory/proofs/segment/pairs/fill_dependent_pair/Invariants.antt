use Rattle.std.proofs.Common.{◌≡◌, ◌+◌, ◌-◌, ◌≤◌, length}
use Rattle.argon2_memory.specs.Views.Filling.{FillsOn, IsFilledTo, IsSnapshot}
use Rattle.argon2_memory.specs.Views.References.{IsPicked, reference_of}
use Rattle.argon2_memory.proofs.segment.pairs.fill_dependent_pair.Given as goal

abbrev pub invariant-loop-index : goal.invariant-loop-index
invariant-loop-index g l = record {
  filled : FillsOn l.beside l.lane l.first l.index (g.O.OwnBlocks.seen l.initial.own) (g.O.OwnBlocks.seen l.own);
  other_filled : FillsOn l.beside (l.lane + 1) l.first l.index (g.O.OwnBlocks.seen l.initial.other) (g.O.OwnBlocks.seen l.other);
  picked : IsPicked l.beside.job l.lane l.index l.reference;
  other_picked : IsPicked l.beside.job (l.lane + 1) l.index l.other_reference;
  chosen : IsSnapshot l.beside → IsFilledTo l.beside.job l.lane l.index (g.O.OwnBlocks.seen l.own).blocks
      → l.reference ≡ reference_of l.beside.job l.lane l.index;
  other_chosen : IsSnapshot l.beside → IsFilledTo l.beside.job (l.lane + 1) l.index (g.O.OwnBlocks.seen l.other).blocks
      → l.other_reference ≡ reference_of l.beside.job (l.lane + 1) l.index;
  later : l.first ≤ l.index;
  within : l.index + 1 ≤ l.first + l.count;
  long : length (g.O.OwnBlocks.seen l.own).blocks ≡ l.beside.job.setting.segment_length;
  other_long : length (g.O.OwnBlocks.seen l.other).blocks ≡ l.beside.job.setting.segment_length;
  same : g.O.OwnBlocks.loan l.own ≡ g.O.OwnBlocks.loan l.initial.own;
  other_same : g.O.OwnBlocks.loan l.other ≡ g.O.OwnBlocks.loan l.initial.other;
}

abbrev pub decreases-loop-index : goal.decreases-loop-index
decreases-loop-index g l = l.first + l.count - l.index
