use Rattle.std.proofs.Common.{◌≡◌, ◌+◌, ◌%◌, ◌^◌, length}
use Rattle.argon2_memory.specs.Views.Filling.{FillsOn}
use Rattle.argon2_memory.proofs.segment.filling.fill_dependent.Given as goal

abbrev pub invariant-loop-k : goal.invariant-loop-k
invariant-loop-k g l = record {
  filled : FillsOn l.beside l.lane l.first (l.first + l.k) (g.O.OwnBlocks.seen l.initial.own) (g.O.OwnBlocks.seen l.own);
  long : length (g.O.OwnBlocks.seen l.own).blocks ≡ l.beside.job.setting.segment_length;
  tally : (g.O.OwnBlocks.seen l.own).tally ≡ ((g.O.OwnBlocks.seen l.initial.own).tally + l.k) % 2 ^ 64;
  same : g.O.OwnBlocks.loan l.own ≡ g.O.OwnBlocks.loan l.initial.own;
}
