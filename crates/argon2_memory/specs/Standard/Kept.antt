-- What a call leaves in the memory that its caller keeps. Only the clauses of calls over a memory, and
-- `any_order`, use these definitions. None of them says what a call returns.
use Rattle.std.specs.Prelude.{◌≡◌, ◌⊎◌, ℕ, ◌/◌, ◌%◌, ◌-◌, ◌<◌, Bool, IsTrue, List, [], replicate, slice_index_or}
use Rattle.argon2_standard.specs.Standard.Setting.{Setting, lane_length}
use Rattle.argon2_standard.specs.Standard.Recurrence.{block_at}

-- one lane's part of a slice: its blocks, and how many were written modulo 2 ^ 64
pub record SegmentValue : Type 0 where
  pub blocks : List (List ℕ)
  pub tally : ℕ

-- a memory: the number of lanes, the length of a segment, and the segments, slice by slice and lane by lane within each
-- slice
pub record MemoryValue : Type 0 where
  pub lanes : ℕ
  pub segment_length : ℕ
  pub slices : List (List SegmentValue)

-- a segment without blocks
abbrev pub no_segment : SegmentValue
no_segment = record { blocks = []; tally = 0 }

-- the segment of a lane in a slice
abbrev pub segment_in : List (List SegmentValue) → ℕ → ℕ → SegmentValue
segment_in slices slice lane = slice_index_or (slice_index_or slices slice []) lane no_segment

-- the block at a lane and column
abbrev pub block_of : MemoryValue → ℕ → ℕ → List ℕ
block_of m lane column =
    slice_index_or (segment_in m.slices (column / m.segment_length) lane).blocks (column % m.segment_length) []

-- a memory without lanes
abbrev pub no_memory : MemoryValue
no_memory = record { lanes = 0; segment_length = 0; slices = replicate 4 [] }

-- a memory of the setting's lanes and segments
pub record HasShape (s : Setting) (m : MemoryValue) : Type 0 where
  pub lanes : m.lanes ≡ s.lanes
  pub segment_length : m.segment_length ≡ s.segment_length

-- each lane and column holds its block of the last pass
abbrev pub HoldsLastPass : Setting → (ℕ → ℕ → List ℕ) → Type 0
HoldsLastPass s matrix = (lane column : ℕ) → lane < s.lanes → column < lane_length s →
    matrix lane column ≡ block_at s (record { pass = s.passes - 1; lane = lane; column = column })

-- a memory after a computation: it has the setting's lanes and segments, and each place of it holds its
-- block of the last pass
abbrev pub HoldsFill : Setting → MemoryValue → Type 0
HoldsFill s m = HasShape s m × HoldsLastPass s (block_of m)

-- a memory after a resource error: filled as above, or without lanes. A memory of the setting's
-- shape loses its lanes only if workers are started
abbrev pub IsLeft : Bool → Setting → MemoryValue → MemoryValue → Type 0
IsLeft workers s before after =
    HoldsFill s after ⊎ ((after ≡ no_memory) × (HasShape s before → IsTrue workers))
