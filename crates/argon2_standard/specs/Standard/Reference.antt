-- Which block a new block refers to (RFC 9106, 3.4).
use Rattle.std.specs.Prelude.{ℕ, zero, suc, ◌+◌, ◌-◌, ◌*◌, ◌/◌, ◌%◌, ◌^◌, Bool, true, false, ◌==◌, ◌&&◌, ◌||◌, nat_lt, if◌then◌else◌, List, [], ◌++◌}
use Rattle.std.specs.Prelude.{map, length, take, slice_index_or}
use Rattle.std.specs.List.{range_with_len}
use Rattle.argon2_blocks.specs.Standard.Word.{low_half, high_half}
use Rattle.argon2_standard.specs.declared.variant.Variant.{Variant}
use Rattle.argon2_standard.specs.declared.variant.Variant.TheVariants.{Argon2d, Argon2i, Argon2id}
use Rattle.argon2_standard.specs.Standard.Setting.{Setting, Position, lane_length, slice_of, index_of}

-- whether the words of a segment are data-independent (3.4.1)
abbrev pub is_data_independent : Variant → ℕ → ℕ → Bool
is_data_independent Argon2d pass slice = false
is_data_independent Argon2i pass slice = true
is_data_independent Argon2id pass slice = (pass == 0) && nat_lt slice 2

-- the previous block of the lane: for column 0, the lane's last block of the pass before. A lane's
-- first two blocks have no use for it (3.2).
abbrev pub previous : Setting → Position → Position
previous s at =
    if at.column == 0 then record at { pass = at.pass - 1; column = lane_length s - 1 }
    else record at { column = at.column - 1 }

-- the columns of a pass from `first` up to, but without, `end`, each paired with the pass
abbrev pub columns_between : ℕ → ℕ → ℕ → List (ℕ × ℕ)
columns_between pass first end = map (λ column. (pass, column)) (range_with_len first (end - first))

-- the columns that are as the pass before left them: those after the slice
abbrev pub columns_of_last_pass : Setting → ℕ → ℕ → List (ℕ × ℕ)
columns_of_last_pass s zero slice = []
columns_of_last_pass s (suc last) slice = columns_between last ((slice + 1) * s.segment_length) (lane_length s)

-- the list without its last element
abbrev pub without_last : List (ℕ × ℕ) → List (ℕ × ℕ)
without_last xs = take (length xs - 1) xs

-- W: the reference set. It lists, in order, the passes and columns of a lane that the block at a place may refer to:
-- the columns that still hold blocks of the pass before, the earlier slices of this pass, and in the block's own lane
-- the segment so far. The last element is left out in the block's own lane, and for the first block of a segment also
-- in the other lanes (3.4.2).
unfoldable pub reference_set : Setting → Position → ℕ → List (ℕ × ℕ)
reference_set s at lane =
    let slice = slice_of s at.column in
    let start = slice * s.segment_length in
    let is_own = lane == at.lane in
    let all = columns_of_last_pass s at.pass slice
    ++ columns_between at.pass 0 start
    ++ (if is_own then columns_between at.pass start at.column else []) in
    if is_own || index_of s at.column == 0 then without_last all else all

-- zz: the relative position that the lower half of a word draws in a reference set of n elements (3.4.2)
abbrev pub relative_position : ℕ → ℕ → ℕ
relative_position n word =
    let x = low_half word * low_half word / 2 ^ 32 in
    let y = n * x / 2 ^ 32 in
    n - 1 - y

-- the lane that the upper half of a word draws; in the first slice of pass 0 it is the own lane
-- (3.4.2)
abbrev pub drawn_lane : Setting → ℕ → Position → ℕ
drawn_lane s word at =
    if (at.pass == 0) && (slice_of s at.column == 0) then at.lane else high_half word % s.lanes

-- the place of the reference block that a drawn word picks for the block at the place `at`
unfoldable pub pick : Setting → ℕ → Position → Position
pick s word at =
    let lane = drawn_lane s word at in
    let references = reference_set s at lane in
    let chosen = slice_index_or references (relative_position (length references) word) (0, 0) in
    record { pass = chosen.0; lane = lane; column = chosen.1 }
