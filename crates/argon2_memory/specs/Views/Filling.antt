-- A segment while it is filled, from the other slices and from its own blocks so far.
use Rattle.std.specs.Prelude.{◌≡◌, ◌≢◌, ℕ, suc, ◌/◌, ◌%◌, ◌<◌, ◌≤◌, ◌==◌, if◌then◌else◌, List, [], length, map, slice_index_or}
use Rattle.std.specs.Borrow.{Bor}
use Rattle.std.specs.List.{range_with_len, remove}
use Rattle.argon2_standard.specs.Standard.Setting.{Setting}
use Rattle.argon2_memory.specs.Views.Jobs.{Job, IsJob}
use Rattle.argon2_memory.specs.Views.Places.{HoldOthers, among, blocks_of_lane, places_in}
use Rattle.argon2_memory.specs.Views.Segments.{segment_block}
use Rattle.argon2_memory.specs.Standard.Kept.{SegmentValue}

-- ---- the slices beside the one that is filled

-- what a contract sees of a snapshot: the job, and the other slices in rising order
pub record SnapshotValue : Type 0 where
  pub job : Job
  pub others : List (List SegmentValue)

-- the blocks of a lane in one of the other slices
abbrev pub other_blocks : SnapshotValue → ℕ → ℕ → List (List ℕ)
other_blocks v slice lane = among v.job (places_in v.others) slice lane

-- the shape of a job's other slices: three, each with a segment of L blocks for each lane
pub record IsBeside (v : SnapshotValue) : Type 0 where
  pub job : IsJob v.job
  pub slices : length v.others ≡ 3
  pub lanes : (at : ℕ) → at < 3 → length (slice_index_or v.others at []) ≡ v.job.setting.lanes
  pub blocks : (slice lane : ℕ) → slice < 4 → slice ≢ v.job.slice → lane < v.job.setting.lanes →
      length (other_blocks v slice lane) ≡ v.job.setting.segment_length

-- the other slices meet `IsBeside` and hold the blocks that a fill of the job needs
pub record IsSnapshot (v : SnapshotValue) : Type 0 where
  pub beside : IsBeside v
  pub held : HoldOthers v.job (other_blocks v)

-- a list of four slices. At the number of the job's slice, the list has the first of the other three
pub record IsAround (j : Job) (slices : List (List SegmentValue)) : Type 0 where
  pub beside : IsBeside (record { job = j; others = remove slices j.slice })
  pub count : length slices ≡ 4
  pub stand_in : slice_index_or slices j.slice [] ≡ slice_index_or (remove slices j.slice) 0 []

-- the caller's slices, which store lane after lane, as segments: a segment, a slice, and several slices
abbrev pub segment_of_lane : Setting → List (List ℕ) → ℕ → SegmentValue
segment_of_lane s blocks lane = record { blocks = blocks_of_lane s blocks lane; tally = 0 }

abbrev pub slice_of_blocks : Setting → List (List ℕ) → List SegmentValue
slice_of_blocks s blocks = map (segment_of_lane s blocks) (range_with_len 0 s.lanes)

abbrev pub slices_of_blocks : Setting → List (Bor (List (List ℕ))) → List (List SegmentValue)
slices_of_blocks s others = map (λ (o : Bor (List (List ℕ))). slice_of_blocks s o.now) others

-- ---- the segment

-- the block at a lane and column, as a lane that is being filled sees it
abbrev pub block_seen : SnapshotValue → List (List ℕ) → ℕ → ℕ → List ℕ
block_seen v blocks lane column =
    let slice = column / v.job.setting.segment_length in
    let index = column % v.job.setting.segment_length in
    if slice == v.job.slice then slice_index_or blocks index [] else slice_index_or (other_blocks v slice lane) index []

-- a segment that is filled up to `index`: the blocks below `index` are of the job's pass, and the others
-- still of the pass before
pub record IsFilledTo (j : Job) (lane index : ℕ) (blocks : List (List ℕ)) : Type 0 where
  pub count : length blocks ≡ j.setting.segment_length
  pub new : (k : ℕ) → k < index → slice_index_or blocks k [] ≡ segment_block j.setting j.pass j.slice lane k
  pub old : (last k : ℕ) → suc last ≡ j.pass → index ≤ k → k < j.setting.segment_length →
      slice_index_or blocks k [] ≡ segment_block j.setting last j.slice lane k

-- if the other slices hold their blocks, a segment that was filled up to `first` is then filled up to
-- `end`
abbrev pub FillsOn : SnapshotValue → ℕ → ℕ → ℕ → SegmentValue → SegmentValue → Type 0
FillsOn v lane first end old new = IsSnapshot v → IsFilledTo v.job lane first old.blocks → IsFilledTo v.job lane end new.blocks
