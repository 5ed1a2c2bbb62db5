use Rattle.std.proofs.Common.{◌*◌, ◌/◌, ◌%◌}
use Rattle.argon2_memory.specs.Views.Memories.{AreSlices, segments_of}
use Rattle.argon2_memory.specs.Views.Places.{places_in, AreFilledBelow}
use Rattle.argon2_fill.specs.Views.Boards.{PermitsAll}
use Rattle.argon2_fill.proofs.workers.fill_parallel_with.Given as goal

abbrev pub invariant-loop-n : goal.invariant-loop-n
invariant-loop-n g l = record {
  slices : AreSlices l.first_job.setting.lanes l.first_job.setting.segment_length (segments_of l.slices);
  filled : AreFilledBelow l.first_job.setting (l.n / 4) (l.n % 4) (places_in (segments_of l.slices));
  permitted : PermitsAll (g.P.Permit.permits l.permit) 0 (l.n * l.workers);
}
