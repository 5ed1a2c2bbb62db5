-- The references of blocks. Those of a data-independent segment depend only on its place, the variant, the shape
-- of the memory and the number of passes, not on a password, salt or block (RFC 9106, 3.4.1.2).
use Rattle.std.specs.Prelude.{◌≡◌, ℕ, ◌+◌, ◌-◌, ◌*◌, Bool, ◌==◌, nat_lt, if◌then◌else◌, List, [], map}
use Rattle.std.specs.List.{range_with_len}
use Rattle.argon2_standard.specs.declared.variant.Variant.{Variant}
use Rattle.argon2_standard.specs.declared.version.Version.TheVariants.{Version13}
use Rattle.argon2_standard.specs.Standard.Setting.{Setting, Position, lane_length}
use Rattle.argon2_standard.specs.Standard.Reference.{pick}
use Rattle.argon2_standard.specs.Standard.Recurrence.{address_word, block_at, drawn_word}
use Rattle.argon2_memory.specs.Views.Jobs.{Job, first_written, position_of}

-- ---- references of one block

-- the lane and column that a word picks for a block
abbrev pub pick_of : Job → ℕ → ℕ → ℕ → ℕ × ℕ
pick_of j lane index word =
    let chosen = pick j.setting word (position_of j lane index) in (chosen.lane, chosen.column)

-- the lane and column that some word picks for the block at an index
abbrev pub IsPicked : Job → ℕ → ℕ → ℕ × ℕ → Type 0
IsPicked j lane index reference = (word : ℕ) × (reference ≡ pick_of j lane index word)

-- the lane and column that the block at an index refers to
abbrev pub reference_of : Job → ℕ → ℕ → ℕ × ℕ
reference_of j lane index = pick_of j lane index (drawn_word j.setting (block_at j.setting) (position_of j lane index))

-- the lane and column that the block at an index of an independent segment refers to
abbrev pub independent_reference : Job → ℕ → ℕ → ℕ × ℕ
independent_reference j lane index = pick_of j lane index (address_word j.setting (position_of j lane index))

-- how many columns of a lane still hold blocks of the pass before. `reference_set_size` below is the number of blocks
-- in the reference set
abbrev pub left_columns : Job → ℕ
left_columns j =
    if j.pass == 0 then 0 else lane_length j.setting - (j.slice * j.setting.segment_length + j.setting.segment_length)

abbrev pub reference_set_size : Job → Bool → ℕ → ℕ
reference_set_size j is_own index =
    let elsewhere = left_columns j + j.slice * j.setting.segment_length in
    if is_own then elsewhere + index - 1 else if index == 0 then elsewhere - 1 else elsewhere

-- the column at a relative position in the reference set
abbrev pub reference_set_column : Job → ℕ → ℕ
reference_set_column j position =
    if nat_lt position (left_columns j) then j.slice * j.setting.segment_length + j.setting.segment_length + position
    else position - left_columns j

-- ---- references of a segment

-- the lane and column of each reference of a segment, by index. In the first slice of pass 0 the indexes begin at 2
abbrev pub positions_in : Setting → ℕ → ℕ → ℕ → List (ℕ × ℕ)
positions_in s pass slice lane =
    let first = first_written pass slice in
    map (λ index.
    let at : Position = record { pass = pass; lane = lane; column = slice * s.segment_length + index } in
    let chosen = pick s (address_word s at) at in
    (chosen.lane, chosen.column)) (range_with_len first (s.segment_length - first))

-- `positions_in` without a prehash and with any version, since the references depend on neither
abbrev pub reference_positions_of : Variant → ℕ → ℕ → ℕ → ℕ → ℕ → ℕ → List (ℕ × ℕ)
reference_positions_of variant lanes segment_length passes pass slice lane =
    let s : Setting = record {
      prehash = [];
      variant = variant;
      version = Version13;
      lanes = lanes;
      segment_length = segment_length;
      passes = passes;
    } in positions_in s pass slice lane
