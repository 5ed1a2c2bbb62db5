use Rattle.std.proofs.Common.{◌≡◌, ℕ, ◌+◌, ◌*◌, ◌%◌, ◌^◌, ◌<◌, ◌≤◌, get_or}
use Rattle.argon2_memory.specs.Views.Segments.{IsReady, segment_at}
use Rattle.argon2_memory.specs.Standard.Kept.{no_segment}
use Rattle.argon2_memory.specs.Views.Memories.{slice_writes}
use Rattle.argon2_memory.specs.Theorems.Schedule.{blocks_in_slice}
use Rattle.argon2_fill.proofs.fill.fill_lanes.Given as goal

abbrev pub invariant-loop-lane : goal.invariant-loop-lane
invariant-loop-lane l = record {
  filled : (k : ℕ) → k < l.lane → (get_or l.segments k no_segment).blocks ≡ segment_at l.snapshot.job.setting l.snapshot.job.pass l.snapshot.job.slice k;
  ready : (k : ℕ) → l.lane ≤ k → k < l.snapshot.job.setting.lanes → IsReady l.snapshot.job.setting l.snapshot.job.pass l.snapshot.job.slice k
      (get_or l.segments k no_segment).blocks;
  writes : slice_writes l.segments % 2 ^ 64 ≡ (slice_writes l.initial.segments + l.lane * blocks_in_slice l.snapshot.job.setting l.snapshot.job.pass
      l.snapshot.job.slice) % 2 ^ 64;
}
