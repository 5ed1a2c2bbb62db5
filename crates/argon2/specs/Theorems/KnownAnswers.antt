-- What the definitions give where the answer is known from outside. The contract of `known_answers` states these
-- equations, and the checker computes both sides. The reference sets are written out by hand from RFC 9106, 3.4.2. The
-- data-independent word comes from a Python program that follows RFC 9106 line by line and reproduces the three tags of
-- its section 5.
use Rattle.std.specs.Prelude.{◌≡◌, ◌+◌, ◌^◌, ℕ, List, [], ◌∷◌}
use Rattle.argon2_standard.specs.declared.variant.Variant.TheVariants.{Argon2i}
use Rattle.argon2_standard.specs.declared.version.Version.TheVariants.{Version13}
use Rattle.argon2_standard.specs.Standard.Setting.{Position, Setting}
use Rattle.argon2_standard.specs.Standard.Reference.{pick, reference_set}
use Rattle.argon2_standard.specs.Standard.Recurrence.{address_word}

-- two passes of Argon2i over two lanes with segments of this many blocks
abbrev pub two_lanes_of : ℕ → Setting
two_lanes_of length = record {
  prehash = [];
  variant = Argon2i;
  version = Version13;
  lanes = 2;
  segment_length = length;
  passes = 2;
}

-- the position of lane 0 at a pass and column
abbrev pub in_lane_0 : ℕ → ℕ → Position
in_lane_0 pass column = record { pass = pass; lane = 0; column = column }

-- the reference set in a lane for the block at this pass and column of lane 0. A segment has two blocks, so a lane has
-- the columns 0 to 7 in each pass
abbrev pub reference_set_in : ℕ → ℕ → ℕ → List (ℕ × ℕ)
reference_set_in pass column lane = reference_set (two_lanes_of 2) (in_lane_0 pass column) lane

-- in the first slice: the segment so far, without the previous block
abbrev pub FirstSlice : Type 0
FirstSlice = reference_set (two_lanes_of 4) (in_lane_0 0 3) 0 ≡ (0, 0) ∷ (0, 1) ∷ []

-- in the first pass, own lane: the slices before, and the segment so far without the previous block
abbrev pub FirstPass : Type 0
FirstPass = reference_set_in 0 5 0 ≡ (0, 0) ∷ (0, 1) ∷ (0, 2) ∷ (0, 3) ∷ []

-- another lane: the slices before
abbrev pub FirstPassOtherLane : Type 0
FirstPassOtherLane = reference_set_in 0 5 1 ≡ (0, 0) ∷ (0, 1) ∷ (0, 2) ∷ (0, 3) ∷ []

-- at the first index of a segment, in both lanes: the slices before without their last block
abbrev pub FirstPassFirstIndex : Type 0
FirstPassFirstIndex = (reference_set_in 0 4 0 ≡ (0, 0) ∷ (0, 1) ∷ (0, 2) ∷ []) × (reference_set_in 0 4 1 ≡ (0, 0) ∷ (0, 1) ∷ (0, 2) ∷ [])

-- in a later pass, own lane: the last three segments, of this pass and the pass before, and the segment
-- so far without the previous block
abbrev pub LaterPass : Type 0
LaterPass = reference_set_in 1 5 0 ≡ (0, 6) ∷ (0, 7) ∷ (1, 0) ∷ (1, 1) ∷ (1, 2) ∷ (1, 3) ∷ []

-- in the last slice of a later pass: the last three segments, all of this pass
abbrev pub LaterPassLastSlice : Type 0
LaterPassLastSlice = reference_set_in 1 7 0 ≡ (1, 0) ∷ (1, 1) ∷ (1, 2) ∷ (1, 3) ∷ (1, 4) ∷ (1, 5) ∷ []

-- another lane: the last three segments
abbrev pub LaterPassOtherLane : Type 0
LaterPassOtherLane = reference_set_in 1 5 1 ≡ (0, 6) ∷ (0, 7) ∷ (1, 0) ∷ (1, 1) ∷ (1, 2) ∷ (1, 3) ∷ []

-- in a later pass, at the first index: the last three segments without their last block
abbrev pub LaterPassFirstIndex : Type 0
LaterPassFirstIndex = reference_set_in 1 4 1 ≡ (0, 6) ∷ (0, 7) ∷ (1, 0) ∷ (1, 1) ∷ (1, 2) ∷ []

-- a word with the least lower half picks the last of these five places, and a word with the greatest lower
-- half picks the first. The upper half picks the lane
abbrev pub PicksEnds : Type 0
PicksEnds =
    (pick (two_lanes_of 2) (2 ^ 32) (in_lane_0 1 4) ≡ record { pass = 1; lane = 1; column = 2 })
    × (pick (two_lanes_of 2) (2 ^ 32 + 4294967295) (in_lane_0 1 4) ≡ record { pass = 0; lane = 1; column = 6 })

-- the first data-independent word of lane 1 in pass 1 and slice 2 (3.4.1.2)
abbrev pub DrawsWord : Type 0
DrawsWord = address_word (two_lanes_of 2) (record { pass = 1; lane = 1; column = 4 }) ≡ 0xbd535ffac09cd66c
