-- What a memory holds, and schedules that fill it.
use Rattle.std.specs.Prelude.{◌≡◌, ℕ, ◌<◌, ◌==◌, ◌&&◌, if◌then◌else◌, List, zero, suc, ◌+◌, ◌-◌, ◌*◌, ◌/◌, ◌%◌, ◌≤◌, nat_lt, [], ◌∷◌, slice_index}
use Rattle.argon2_standard.specs.Standard.Setting.{Setting, Position, slice_of}
use Rattle.argon2_standard.specs.Standard.Recurrence.{first_block, address_word, combines, made_block}
use Rattle.std.specs.List.{fold, count_by, AllByRecursion}
use Rattle.argon2_memory.specs.Views.Jobs.{first_written}
use Rattle.argon2_standard.specs.Standard.Reference.{is_data_independent, previous, pick}

-- ---- what a memory holds at each lane and column, whatever the pass

abbrev pub Matrix : Type 0
Matrix = ℕ → ℕ → List ℕ

-- the matrix with one block written
abbrev pub matrix_with : Matrix → ℕ → ℕ → List ℕ → Matrix
matrix_with matrix lane column block = λ l c. if (l == lane) && (c == column) then block else matrix l c

-- the first two blocks of each lane are in the matrix
abbrev pub IsBegun : Setting → Matrix → Type 0
IsBegun s matrix = (lane column : ℕ) → lane < s.lanes → column < 2 →
    matrix lane column ≡ first_block s (record { pass = 0; lane = lane; column = column })

-- ---- filling one shared matrix, block by block, in the order of a schedule

-- how many blocks each lane writes in a slice
abbrev pub blocks_in_slice : Setting → ℕ → ℕ → ℕ
blocks_in_slice s pass slice = if (pass == 0) && (slice == 0) then s.segment_length - 2 else s.segment_length

-- a schedule of a slice: lane numbers, each as often as its lane has blocks to write
pub record IsSchedule (s : Setting) (pass slice : ℕ) (order : List ℕ) : Type 0 where
  pub lanes_fit : AllByRecursion (λ lane. lane < s.lanes) order
  pub each_often : (lane : ℕ) → lane < s.lanes → count_by (λ l. l == lane) order ≡ blocks_in_slice s pass slice

-- the word that the block at a place draws, read from the matrix
abbrev pub word_from : Setting → Matrix → Position → ℕ
word_from s matrix at =
    if is_data_independent s.variant at.pass (slice_of s at.column) then address_word s at
    else slice_index (matrix (previous s at).lane (previous s at).column) 0

-- the place that the block at a place refers to
abbrev pub pick_from : Setting → Matrix → Position → Position
pick_from s matrix at = pick s (word_from s matrix at) at

-- the block that is written at a place, from what the matrix holds
abbrev pub block_from : Setting → Matrix → Position → List ℕ
block_from s matrix at =
    let chosen = pick_from s matrix at in
    made_block (matrix (previous s at).lane (previous s at).column) (matrix chosen.lane chosen.column)
    (matrix at.lane at.column) (combines s.version && nat_lt 0 at.pass)

-- the lanes and columns that are read to write the block at a place: those of the block before it, of
-- the block that it refers to, and of the old block
abbrev pub reads_from : Setting → Matrix → Position → List (ℕ × ℕ)
reads_from s matrix at =
    let before = previous s at in
    let chosen = pick_from s matrix at in
    (before.lane, before.column) ∷ (chosen.lane, chosen.column) ∷ (at.lane, at.column) ∷ []

-- a matrix, and how many blocks each lane has written in the slice
pub record Progress : Type 0 where
  pub matrix : Matrix
  pub done : ℕ → ℕ

-- the column of the lane's next block
abbrev pub next_column : Setting → ℕ → ℕ → ℕ → ℕ
next_column s pass slice done =
    slice * s.segment_length + first_written pass slice + done

-- a column that each lane writes in the slice
abbrev pub IsWrittenIn : Setting → ℕ → ℕ → ℕ → Type 0
IsWrittenIn s pass slice column = (next_column s pass slice 0 ≤ column) × (column < (slice + 1) * s.segment_length)

-- the place of the lane's next block
abbrev pub next_position : Setting → ℕ → ℕ → Progress → ℕ → Position
next_position s pass slice p lane = record { pass = pass; lane = lane; column = next_column s pass slice (p.done lane) }

-- one entry of a schedule: the lane writes its next block
unfoldable pub step : Setting → ℕ → ℕ → Progress → ℕ → Progress
step s pass slice p lane =
    let at = next_position s pass slice p lane in
    record {
      matrix = matrix_with p.matrix lane at.column (block_from s p.matrix at);
      done = λ l. if l == lane then p.done l + 1 else p.done l;
    }

-- the progress of a slice after some entries
abbrev pub progress : Setting → ℕ → ℕ → Matrix → List ℕ → Progress
progress s pass slice matrix entries = fold (step s pass slice) (record { matrix = matrix; done = λ _. 0 }) entries

-- the matrix after a slice
unfoldable pub after_slice : Setting → ℕ → ℕ → List ℕ → Matrix → Matrix
after_slice s pass slice order matrix = (progress s pass slice matrix order).matrix

-- the matrix after the first n slices, where a schedule is chosen for each
unfoldable pub after_slices : Setting → (ℕ → List ℕ) → ℕ → Matrix → Matrix
after_slices s order zero matrix = matrix
after_slices s order (suc n) matrix = after_slice s (n / 4) (n % 4) (order n) (after_slices s order n matrix)
