-- The blocks of each slice and lane while they are filled, stored in a memory's segments or in the caller's slices.
use Rattle.std.specs.Prelude.{◌≡◌, ℕ, suc, ◌-◌, ◌*◌, ◌<◌, ◌≤◌, nat_lt, if◌then◌else◌, List, [], map, slice_index_or, take, drop}
use Rattle.std.specs.List.{range_with_len}
use Rattle.argon2_standard.specs.Standard.Setting.{Setting}
use Rattle.argon2_memory.specs.Views.Jobs.{Job}
use Rattle.argon2_memory.specs.Views.Segments.{IsReady, segment_at}
use Rattle.argon2_memory.specs.Standard.Kept.{SegmentValue, no_segment}

-- the blocks of each lane in a slice
abbrev pub Lanes : Type 0
Lanes = ℕ → List (List ℕ)

-- the blocks of each lane in each slice
abbrev pub Places : Type 0
Places = ℕ → Lanes

-- ---- where the blocks are stored

-- the blocks of each lane in a slice of a memory
abbrev pub lanes_in : List SegmentValue → Lanes
lanes_in segments lane = (slice_index_or segments lane no_segment).blocks

-- the blocks of each lane in a memory's slices
abbrev pub places_in : List (List SegmentValue) → Places
places_in slices slice lane = lanes_in (slice_index_or slices slice []) lane

-- the blocks of each lane in a slice of the caller, which stores lane after lane
abbrev pub blocks_of_lane : Setting → List (List ℕ) → Lanes
blocks_of_lane s blocks lane = take s.segment_length (drop (lane * s.segment_length) blocks)

-- the blocks of each lane in slices of the caller
abbrev pub places_of_slices : Setting → List (List (List ℕ)) → Places
places_of_slices s slices slice lane = blocks_of_lane s (slice_index_or slices slice []) lane

-- the index of a slice among the three slices other than the job's
abbrev pub rank_among : Job → ℕ → ℕ
rank_among j slice = if nat_lt slice j.slice then slice else slice - 1

-- the blocks in three slices, which are addressed by their numbers among all four
abbrev pub among : Job → Places → Places
among j three slice lane = three (rank_among j slice) lane

-- ---- which blocks the slices hold

-- each lane is ready for a pass over the slice
abbrev pub IsReadySlice : Setting → ℕ → ℕ → Lanes → Type 0
IsReadySlice s pass slice lanes = (lane : ℕ) → lane < s.lanes → IsReady s pass slice lane (lanes lane)

-- each lane holds the slice's blocks of a pass
abbrev pub HoldsSlice : Setting → ℕ → ℕ → Lanes → Type 0
HoldsSlice s pass slice lanes = (lane : ℕ) → lane < s.lanes → lanes lane ≡ segment_at s pass slice lane

-- in each lane, the slices below `slice` hold the blocks of the pass, and the others are ready for
-- the pass
pub record AreFilledBelow (s : Setting) (pass slice : ℕ) (places : Places) : Type 0 where
  pub below : (k lane : ℕ) → k < slice → lane < s.lanes → places k lane ≡ segment_at s pass k lane
  pub above : (k lane : ℕ) → slice ≤ k → k < 4 → lane < s.lanes → IsReady s pass k lane (places k lane)

-- the slices beside the job's: the lower ones hold this pass's blocks, the upper ones those of the pass before
pub record HoldOthers (j : Job) (places : Places) : Type 0 where
  pub lower : (slice lane : ℕ) → slice < j.slice → lane < j.setting.lanes → places slice lane ≡ segment_at j.setting j.pass slice lane
  pub upper : (slice lane last : ℕ) → j.slice < slice → slice < 4 → lane < j.setting.lanes → suc last ≡ j.pass →
      places slice lane ≡ segment_at j.setting last slice lane

-- a fill of a lane's segment of the job's slice leaves the blocks of the job's pass in the segment, if the
-- other slices hold their blocks and the segment was ready
abbrev pub Fills : Job → ℕ → Places → List (List ℕ) → List (List ℕ) → Type 0
Fills j lane places old new = HoldOthers j places → IsReady j.setting j.pass j.slice lane old → new ≡ segment_at j.setting j.pass j.slice lane

-- `Fills` beside three slices of the caller in rising order
abbrev pub FillsAmong : Job → ℕ → List (List (List ℕ)) → List (List ℕ) → List (List ℕ) → Type 0
FillsAmong j lane others old new = Fills j lane (among j (places_of_slices j.setting others)) old new

-- the last block of each of p lanes in a slice, whose segments have len blocks
abbrev pub last_blocks_in : ℕ → ℕ → Lanes → List (List ℕ)
last_blocks_in p len lanes = map (λ lane. slice_index_or (lanes lane) (len - 1) []) (range_with_len 0 p)
