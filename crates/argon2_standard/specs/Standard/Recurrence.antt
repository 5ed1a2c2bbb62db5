-- The blocks of Argon2 as a recurrence over passes, lanes and columns (RFC 9106, 3.2 and 3.4). It has
-- neither a memory nor an order of work.
use Rattle.std.specs.Prelude.{ℕ, zero, suc, ◌+◌, ◌-◌, ◌*◌, ◌/◌, ◌%◌, Bool, true, false, ◌==◌, ◌&&◌, nat_lt, if◌then◌else◌, List, ◌∷◌, ◌++◌, replicate}
use Rattle.std.specs.Prelude.{slice_index}
use Rattle.std.specs.Int.{w32, to_le_bytes}
use Rattle.argon2_blocks.specs.Standard.Block.{xor, zero_block, block_of_bytes, block_size}
use Rattle.argon2_blocks.specs.Standard.Compression.{compress_g}
use Rattle.argon2_blocks.specs.Standard.Hprime.{hprime}
use Rattle.argon2_standard.specs.declared.version.Version.{Version}
use Rattle.argon2_standard.specs.declared.version.Version.TheVariants.{Version10, Version13}
use Rattle.argon2_standard.specs.Standard.Variant.{variant_number}
use Rattle.argon2_standard.specs.Standard.Setting.{Setting, Position, lane_length, memory_blocks, slice_of, index_of}
use Rattle.argon2_standard.specs.Standard.Reference.{is_data_independent, previous, pick}

-- a block at each place
abbrev pub Blocks : Type 0
Blocks = Position → List ℕ

-- whether the version combines a new block with the old one of the pass before
abbrev pub combines : Version → Bool
combines Version10 = false
combines Version13 = true

-- the first two blocks of each lane (3.2, steps 3 and 4)
unfoldable pub first_block : Setting → Position → List ℕ
first_block s at =
    block_of_bytes (hprime block_size (s.prehash ++ to_le_bytes w32 at.column ++ to_le_bytes w32 at.lane))

-- how many indexes of a segment share a block of addresses (3.4.1.2)
abbrev pub addresses_in_block : ℕ
addresses_in_block = 128

-- how many zero words pad the seven numbers to a block (3.4.1.2)
abbrev pub address_padding : ℕ
address_padding = 121

-- the data-independent words of 128 indexes of a segment, from index 128 * number on (3.4.1.2)
abbrev pub addresses : Setting → ℕ → ℕ → ℕ → ℕ → List ℕ
addresses s pass lane slice number =
    let input = pass ∷ lane ∷ slice ∷ memory_blocks s ∷ s.passes ∷ variant_number s.variant ∷ (number + 1) ∷ replicate address_padding 0 in
    compress_g zero_block (compress_g zero_block input)

-- the data-independent word of a place (3.4.1.2)
unfoldable pub address_word : Setting → Position → ℕ
address_word s at =
    let index = index_of s at.column in
    slice_index (addresses s at.pass at.lane (slice_of s at.column) (index / addresses_in_block)) (index % addresses_in_block)

-- the word that chooses the reference of the block at a place (3.4.1)
abbrev pub drawn_word : Setting → Blocks → Position → ℕ
drawn_word s block at =
    if is_data_independent s.variant at.pass (slice_of s at.column) then address_word s at
    else slice_index (block (previous s at)) 0

-- the new block made from two blocks: their compression or, with_xor, the XOR of that and the old
-- block (3.2, step 6)
abbrev pub made_block : List ℕ → List ℕ → List ℕ → Bool → List ℕ
made_block prev reference old with_xor =
    let new = compress_g prev reference in if with_xor then xor new old else new

-- the recurrence: the block at a place, where `block` gives the blocks at the earlier ones (3.2,
-- steps 5 and 6)
abbrev pub next_block : Setting → Blocks → Position → List ℕ
next_block s block at =
    made_block (block (previous s at)) (block (pick s (drawn_word s block at) at))
    (block (record at { pass = at.pass - 1 })) (combines s.version && nat_lt 0 at.pass)

-- the recurrence of all blocks: the first two of each lane, and the others (RFC 9106, 3.2)
abbrev pub recurrence : Setting → Blocks → Position → List ℕ
recurrence s block at =
    if (at.pass == 0) && nat_lt at.column 2 then first_block s at else next_block s block at

-- the recurrence applied n times, starting with blocks of zeros. The recursion needs a number that decreases.
-- The theorem `recurrence_law` says that the blocks at the start do not matter.
unfoldable pub unroll : Setting → ℕ → Blocks
unroll s zero at = zero_block
unroll s (suc n) at = recurrence s (unroll s n) at

-- how many places of a lane come before a place
abbrev pub rank : Setting → Position → ℕ
rank s at = at.pass * lane_length s + at.column

-- B: the block at a place, by `rank` + 1 applications of the recurrence. B meets the recurrence, and no other
-- function does (`recurrence_law`), so you need not trust `unroll` and `rank`.
unfoldable pub block_at : Setting → Blocks
block_at s at = unroll s (suc (rank s at)) at
