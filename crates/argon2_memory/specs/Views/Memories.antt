-- What a contract sees of a memory.
use Rattle.std.specs.Prelude.{◌≡◌, ℕ, ◌*◌, ◌%◌, ◌^◌, ◌<◌, ◌-◌, ◌==◌, if◌then◌else◌, List, [], Vec, length, map, replicate, slice_index_or, slice_set}
use Rattle.std.specs.List.{sum_by}
use Rattle.std.specs.declared.alloc.Global.{Global}
use Rattle.argon2_standard.specs.Standard.Setting.{Setting}
use Rattle.argon2_memory.specs.declared.segment.own_blocks.Segment.{Segment}
use Rattle.argon2_memory.specs.Views.Segments.{wiped_segment, with_block, zero_segment}
use Rattle.argon2_memory.specs.Standard.Kept.{SegmentValue, MemoryValue, segment_in}

-- four slices, each with a segment of len blocks for each of p lanes
pub record AreSlices (p len : ℕ) (slices : List (List SegmentValue)) : Type 0 where
  pub count : length slices ≡ 4
  pub lanes : (slice : ℕ) → slice < 4 → length (slice_index_or slices slice []) ≡ p
  pub blocks : (slice lane : ℕ) → slice < 4 → lane < p → length (segment_in slices slice lane).blocks ≡ len

pub record IsMemory (m : MemoryValue) : Type 0 where
  pub slices : AreSlices m.lanes m.segment_length m.slices
  pub fits : 4 * m.lanes * m.segment_length < 2 ^ 32
  pub lane_fits : 4 * m.segment_length < 2 ^ 32

-- the lists of segments that four vectors hold
abbrev pub segments_of : List (Vec Segment Global) → List (List SegmentValue)
segments_of slices = map (λ (v : Vec Segment Global). v.items) slices

-- the sum of the tallies of a slice
abbrev pub slice_writes : List SegmentValue → ℕ
slice_writes segments = sum_by (λ (segment : SegmentValue). segment.tally) segments

-- how many blocks were written, modulo 2 ^ 64
abbrev pub writes_in : List (List SegmentValue) → ℕ
writes_in slices = sum_by slice_writes slices % 2 ^ 64

abbrev pub writes : MemoryValue → ℕ
writes m = writes_in m.slices

-- how many blocks the first n slices of a fill write: all except the first two of each lane
abbrev pub blocks_written : Setting → ℕ → ℕ
blocks_written s n = s.lanes * (n * s.segment_length - (if n == 0 then 0 else 2))

-- a memory of zeros in which nothing was written yet
abbrev pub zero_memory : ℕ → ℕ → MemoryValue
zero_memory lanes segment_length = record {
  lanes = lanes;
  segment_length = segment_length;
  slices = replicate 4 (replicate lanes (zero_segment segment_length));
}

-- a memory whose segments are wiped
abbrev pub wiped_memory : MemoryValue → MemoryValue
wiped_memory m = record m { slices = map (map wiped_segment) m.slices }

-- the slices after a block is written at a slice, lane and index
abbrev pub set_in : List (List SegmentValue) → ℕ → ℕ → ℕ → List ℕ → List (List SegmentValue)
set_in slices slice lane index block =
    slice_set slices slice (slice_set (slice_index_or slices slice []) lane (with_block (segment_in slices slice lane) index block))
