use Rattle.std.proofs.Common.{◌≡◌, ℕ, ◌-◌, ◌*◌, ◌<◌, ◌≤◌, [], ◌∷◌, length}
use Rattle.argon2_memory.specs.Views.Places.{HoldOthers, IsReadySlice, among, blocks_of_lane, places_of_slices}
use Rattle.argon2_memory.specs.Views.Segments.{segment_at}
use Rattle.argon2_fill.proofs.caller_blocks.fill_caller_slice.Given as goal

abbrev pub invariant-loop-lane : goal.invariant-loop-lane
invariant-loop-lane g l = record {
  within : l.lane ≤ l.job.setting.lanes;
  long : length l.slice ≡ l.job.setting.lanes * l.job.setting.segment_length;
  filled : HoldOthers l.job (among l.job (places_of_slices l.job.setting (l.first ∷ l.second ∷ l.third ∷ []))) →
      IsReadySlice l.job.setting l.job.pass l.job.slice (blocks_of_lane l.job.setting l.initial.slice) →
      (k : ℕ) → k < l.lane → blocks_of_lane l.job.setting l.slice k ≡ segment_at l.job.setting l.job.pass l.job.slice k;
  left : (k : ℕ) → l.lane ≤ k → k < l.job.setting.lanes → blocks_of_lane l.job.setting l.slice k ≡ blocks_of_lane l.job.setting l.initial.slice k;
}

abbrev pub decreases-loop-lane : goal.decreases-loop-lane
decreases-loop-lane g l = l.job.setting.lanes - l.lane
