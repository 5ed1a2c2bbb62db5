-- The compression function G of Argon2 (RFC 9106, 3.5 and 3.6). The letters in comments are the
-- standard's.
use Rattle.std.specs.Prelude.{ℕ, ◌+◌, ◌*◌, ◌%◌, ◌^◌, List, [], ◌∷◌, map, bit_xor, slice_index, slice_index_or}
use Rattle.std.specs.List.{fold, range_with_len, flat_map}
use Rattle.std.specs.Int.{w64, rotate_right}
use Rattle.argon2_blocks.specs.Standard.Word.{low_half}
use Rattle.argon2_blocks.specs.Standard.Blake2b.{Four, words_at, put_at, mix_places, r1, r2, r3, r4}
use Rattle.argon2_blocks.specs.Standard.Block.{xor}

-- ---- the permutation P (3.6)

-- the sum of two words and twice the product of their lower halves, modulo 2 ^ 64 (3.6)
unfoldable pub add_product : ℕ → ℕ → ℕ
add_product x y = (x + y + 2 * (low_half x * low_half y)) % 2 ^ 64

-- one of the two halves of GB, which differ in the two rotations (3.6)
unfoldable pub half_gb : ℕ → ℕ → Four → Four
half_gb far near w =
    let a = add_product w.a w.b in
    let d = rotate_right w64 (bit_xor w.d a) far in
    let c = add_product w.c d in
    let b = rotate_right w64 (bit_xor w.b c) near in
    record { a = a; b = b; c = c; d = d }

-- GB on four words: BLAKE2b's G without message words and with these sums (3.6)
unfoldable pub mix_gb : Four → Four
mix_gb w = half_gb r3 r4 (half_gb r1 r2 w)

-- P on sixteen words: GB at the places of BLAKE2b's round (3.6)
unfoldable pub permute_p : List ℕ → List ℕ
permute_p v = fold (λ v at. put_at v at (mix_gb (words_at v at))) v mix_places

-- ---- a block as registers (3.5)

-- sixteen words as a row of eight registers of two words (3.6)
abbrev pub row_registers : List ℕ → List (ℕ × ℕ)
row_registers words =
    map (λ k. (slice_index words (2 * k), slice_index words (2 * k + 1))) (range_with_len 0 8)

-- the sixteen words of a row of registers (3.6)
abbrev pub row_words : List (ℕ × ℕ) → List ℕ
row_words registers = flat_map (λ (x, y). x ∷ y ∷ []) registers

-- a block as eight rows of eight registers of two words (3.5)
abbrev pub Registers : Type 0
Registers = List (List (ℕ × ℕ))

-- the eight rows, with `register` j k in row j and column k (3.5)
abbrev pub registers_by : (ℕ → ℕ → ℕ × ℕ) → Registers
registers_by register = map (λ j. map (register j) (range_with_len 0 8)) (range_with_len 0 8)

-- the register in row j and column k (3.5)
abbrev pub register_at : Registers → ℕ → ℕ → ℕ × ℕ
register_at registers j k = slice_index_or (slice_index_or registers j []) k (0, 0)

-- the registers of a block, row by row: R 0 to R 63 (3.5)
unfoldable pub registers_of : List ℕ → Registers
registers_of block =
    registers_by
    (λ j k. (slice_index block (16 * j + 2 * k), slice_index block (16 * j + 2 * k + 1)))

-- the block of these registers (3.5)
unfoldable pub block_of_registers : Registers → List ℕ
block_of_registers registers = flat_map row_words registers

-- ---- the compression function G (3.5)

-- P on each row (3.5)
unfoldable pub permute_rows : Registers → Registers
permute_rows registers = map (λ row. row_registers (permute_p (row_words row))) registers

-- the columns as rows (3.5)
unfoldable pub transpose : Registers → Registers
transpose registers = registers_by (λ j k. register_at registers k j)

-- P on each column (3.5)
abbrev pub permute_columns : Registers → Registers
permute_columns registers = transpose (permute_rows (transpose registers))

-- G on the blocks x and y: R is their exclusive or, Q is P on each row of R, Z is P on each column
-- of Q, and the result is the exclusive or of R and Z (3.5)
unfoldable pub compress_g : List ℕ → List ℕ → List ℕ
compress_g x y =
    let r = xor x y in
    let q = permute_rows (registers_of r) in
    let z = permute_columns q in
    xor r (block_of_registers z)
