-- What all blocks depend on (RFC 9106, 3.2), and the positions of blocks.
use Rattle.std.specs.Prelude.{ℕ, ◌*◌, ◌/◌, ◌%◌, List}
use Rattle.argon2_standard.specs.declared.variant.Variant.{Variant}
use Rattle.argon2_standard.specs.declared.version.Version.{Version}

-- what all blocks depend on: H0, the variant y and the version v, the number p of lanes, the length
-- of a segment in blocks, and the number t of passes (RFC 9106, 3.2)
pub record Setting : Type 0 where
  pub prehash : List ℕ
  pub variant : Variant
  pub version : Version
  pub lanes : ℕ
  pub segment_length : ℕ
  pub passes : ℕ

-- SL: the slices of a pass, and so the segments of a lane (RFC 9106, 3.4)
abbrev pub slices_in_lane : ℕ
slices_in_lane = 4

-- q: the blocks of a lane (RFC 9106, 3.2)
abbrev pub lane_length : Setting → ℕ
lane_length s = slices_in_lane * s.segment_length

-- m': the blocks of the whole memory (RFC 9106, 3.2)
abbrev pub memory_blocks : Setting → ℕ
memory_blocks s = slices_in_lane * s.lanes * s.segment_length

-- the position of a block: its pass, its lane and its column (RFC 9106, 3.2)
pub record Position : Type 0 where
  pub pass : ℕ
  pub lane : ℕ
  pub column : ℕ

-- the slice of a column (RFC 9106, 3.4)
abbrev pub slice_of : Setting → ℕ → ℕ
slice_of s column = column / s.segment_length

-- the index of a column in its segment (RFC 9106, 3.4)
abbrev pub index_of : Setting → ℕ → ℕ
index_of s column = column % s.segment_length
