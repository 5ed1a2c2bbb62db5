-- Segments of the memory, and where a block is read from.
use Rattle.std.specs.Prelude.{◌≡◌, ℕ, zero, suc, ◌+◌, ◌-◌, ◌*◌, ◌%◌, ◌^◌, ◌<◌, ◌≤◌, List, [], ◌++◌, map, length, replicate, slice_index_or, slice_set}
use Rattle.std.specs.Prelude.{take}
use Rattle.std.specs.List.{range_with_len}
use Rattle.argon2_blocks.specs.Standard.Block.{zero_block}
use Rattle.argon2_standard.specs.Standard.Setting.{Setting}
use Rattle.argon2_standard.specs.Standard.Recurrence.{block_at}
use Rattle.argon2_memory.specs.Standard.Kept.{SegmentValue}
use Rattle.argon2_memory.specs.declared.segment.own_blocks.Source.{Source}
use Rattle.argon2_memory.specs.declared.segment.own_blocks.Source.TheVariants.{Own, Other}

-- ---- what a segment (one lane's part of a slice) holds, and how it keeps its blocks

-- ---- the blocks of a pass

-- the block at an index of a lane's segment, as a pass leaves it
abbrev pub segment_block : Setting → ℕ → ℕ → ℕ → ℕ → List ℕ
segment_block s pass slice lane index =
    block_at s (record { pass = pass; lane = lane; column = slice * s.segment_length + index })

-- the blocks of a lane in a slice, as a pass leaves them
abbrev pub segment_at : Setting → ℕ → ℕ → ℕ → List (List ℕ)
segment_at s pass slice lane = map (segment_block s pass slice lane) (range_with_len 0 s.segment_length)

-- a segment is ready for a pass. In pass 0 a segment of slice 0 holds its lane's first two blocks, and
-- other segments may hold any blocks. In a later pass a segment holds the blocks of the pass before
abbrev pub IsReady : Setting → ℕ → ℕ → ℕ → List (List ℕ) → Type 0
IsReady s zero zero lane blocks = (length blocks ≡ s.segment_length) × (take 2 blocks ≡ take 2 (segment_at s 0 0 lane))
IsReady s zero (suc slice) lane blocks = length blocks ≡ s.segment_length
IsReady s (suc last) slice lane blocks = blocks ≡ segment_at s last slice lane

-- ---- writes

-- the segment with a block written at the index
abbrev pub with_block : SegmentValue → ℕ → List ℕ → SegmentValue
with_block segment index block = record {
  blocks = slice_set segment.blocks index block;
  tally = (segment.tally + 1) % 2 ^ 64;
}

-- a segment of zeros in which nothing was written yet
abbrev pub zero_segment : ℕ → SegmentValue
zero_segment length = record { blocks = replicate length zero_block; tally = 0 }

-- a segment with the same number of blocks, all zeros and none counted as written
abbrev pub wiped_segment : SegmentValue → SegmentValue
wiped_segment s = zero_segment (length s.blocks)

-- ---- blocks of zeros that the segment has not created yet

-- the created blocks, and behind them the blocks of zeros that are not created yet
abbrev pub with_zeros : List (List ℕ) → ℕ → List (List ℕ)
with_zeros made zeros = made ++ replicate zeros zero_block

-- there is capacity for the blocks of zeros that are not created yet. If there are any, the last created
-- block is also zeros, and it is read in place of each of them
pub record IsMadeInPart (made : List (List ℕ)) (count capacity zeros : ℕ) : Type 0 where
  pub room : count + zeros ≤ capacity
  pub some : 0 < zeros → 0 < count
  pub last : 0 < zeros → slice_index_or made (count - 1) [] ≡ zero_block

-- ---- the block that a source names

-- a source names one of the segment's own blocks, or another block
abbrev pub source_block : List (List ℕ) → Source → List ℕ
source_block blocks (Own index) = slice_index_or blocks index []
source_block blocks (Other block) = block.now

-- if a source names an own block, that block is before the index
abbrev pub IsBefore : ℕ → Source → Type 0
IsBefore index (Own at) = at < index
IsBefore index (Other block) = Unit {0}
