use Rattle.std.proofs.Common.{◌≡◌, ◌+◌, ◌/◌, ◌%◌, ◌^◌}
use Rattle.argon2_memory.specs.Views.Memories.{AreSlices, blocks_written, writes_in, segments_of}
use Rattle.argon2_memory.specs.Views.Places.{places_in, AreFilledBelow}
use Rattle.argon2_fill.proofs.fill.fill_slices.Given as goal

abbrev pub invariant-loop-n : goal.invariant-loop-n
invariant-loop-n l = record {
  slices : AreSlices l.job.setting.lanes l.job.setting.segment_length (segments_of l.slices);
  filled : AreFilledBelow l.job.setting (l.n / 4) (l.n % 4) (places_in (segments_of l.slices));
  writes : writes_in (segments_of l.slices) ≡ (writes_in (segments_of l.initial.slices) + blocks_written l.job.setting l.n) % 2 ^ 64;
}
