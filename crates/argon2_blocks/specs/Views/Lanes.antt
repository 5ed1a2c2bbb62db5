-- The vectors of the compression: lane by lane, and as rows and columns that are spread over them.
use Rattle.std.specs.Prelude.{ℕ, ◌+◌, ◌*◌, List, [], ◌∷◌, ◌++◌, map, slice_index, slice_index_or, take, ◌-◌, ◌/◌, ◌%◌, if◌then◌else◌, nat_lt}
use Rattle.std.specs.List.{fold, flat_map, range_with_len}
use Rattle.argon2_blocks.specs.Standard.Blake2b.{words_at, put_at, mix_places}
use Rattle.argon2_blocks.specs.Standard.Compression.{mix_gb}
use Rattle.std.specs.Simd.Lanes.{pick_l}

-- ---- a vector is the list of its lanes

-- the words in lane i of the vectors, one for each vector
abbrev pub lane : ℕ → List (List ℕ) → List ℕ
lane i vectors = map (λ vector. slice_index vector i) vectors

-- the first four mixes of the permutation
abbrev pub half_round : List ℕ → List ℕ
half_round v = fold (λ v at. put_at v at (mix_gb (words_at v at))) v (take 4 mix_places)

-- the words 2 * i and 2 * i + 1 of each of eight lists
abbrev pub column : (ℕ → List ℕ) → ℕ → List ℕ
column row i =
    flat_map (λ n. slice_index (row n) (2 * i) ∷ slice_index (row n) (2 * i + 1) ∷ [])
    (range_with_len 0 8)

-- vectors 2 * n and 2 * n + 1, joined
abbrev pub vector_pair : List (List ℕ) → ℕ → List ℕ
vector_pair vectors n = slice_index_or vectors (2 * n) [] ++ slice_index_or vectors (2 * n + 1) []

-- the words of the vectors, joined
abbrev pub vector_words : List (List ℕ) → List ℕ
vector_words vectors = flat_map (λ vector. vector) vectors

-- ---- rows and columns of a block that are spread over eight vectors of eight words: four rows, or four
-- columns, at a time. Vectors 0 and 1 hold the words 0 to 3 of each, vectors 2 and 3 the words 4 to 7,
-- and so on, so that the four words of a mix stand in one lane

-- vector number k
abbrev pub nth_vector : List (List ℕ) → ℕ → List ℕ
nth_vector vectors k = slice_index_or vectors k []

-- row j of four: two rows share a vector, with four lanes each
abbrev pub spread_row : List (List ℕ) → ℕ → List ℕ
spread_row vectors j =
    map (λ w. slice_index (nth_vector vectors (2 * (w / 4) + j / 2)) (4 * (j % 2) + w % 4))
    (range_with_len 0 16)

-- list number k of eight: the first four come from `first`, the others from `last`
abbrev pub four_and_four : (ℕ → List ℕ) → (ℕ → List ℕ) → ℕ → List ℕ
four_and_four first last k = if nat_lt k 4 then first k else last (k - 4)

-- a mix of the words 0, 2, 4 and 6, and then a mix of the words 1, 3, 5 and 7
abbrev pub two_mixes : List ℕ → List ℕ
two_mixes words =
    fold (λ v at. put_at v at (mix_gb (words_at v at))) words
    (record { a = 0; b = 2; c = 4; d = 6 } ∷ record { a = 1; b = 3; c = 5; d = 7 } ∷ [])

-- the diagonals of sixteen words as columns, in an order that leaves the words 4 to 7 in their places
abbrev pub diagonals : List ℕ → List ℕ
diagonals words = pick_l 0 words (3 ∷ 0 ∷ 1 ∷ 2 ∷ 4 ∷ 5 ∷ 6 ∷ 7 ∷ 9 ∷ 10 ∷ 11 ∷ 8 ∷ 14 ∷ 15 ∷ 12 ∷ 13 ∷ [])

-- the columns as diagonals again
abbrev pub undo_diagonals : List ℕ → List ℕ
undo_diagonals words =
    pick_l 0 words (1 ∷ 2 ∷ 3 ∷ 0 ∷ 4 ∷ 5 ∷ 6 ∷ 7 ∷ 11 ∷ 8 ∷ 9 ∷ 10 ∷ 14 ∷ 15 ∷ 12 ∷ 13 ∷ [])

-- a vector with each half rotated by this many lanes
abbrev pub rotated_halves : ℕ → List ℕ → List ℕ
rotated_halves by a = map (λ i. slice_index a (4 * (i / 4) + (i + by) % 4)) (range_with_len 0 8)

-- the first, and the last, four lanes of each of two vectors
abbrev pub low_halves : List ℕ → List ℕ → List ℕ
low_halves a b =
    slice_index a 0 ∷ slice_index a 1 ∷ slice_index a 2 ∷ slice_index a 3
    ∷ slice_index b 0 ∷ slice_index b 1 ∷ slice_index b 2 ∷ slice_index b 3 ∷ []

abbrev pub high_halves : List ℕ → List ℕ → List ℕ
high_halves a b =
    slice_index a 4 ∷ slice_index a 5 ∷ slice_index a 6 ∷ slice_index a 7
    ∷ slice_index b 4 ∷ slice_index b 5 ∷ slice_index b 6 ∷ slice_index b 7 ∷ []

-- the odd lanes of one vector and the even lanes of another, by turns
abbrev pub odd_and_even : List ℕ → List ℕ → List ℕ
odd_and_even a b =
    slice_index a 1 ∷ slice_index b 0 ∷ slice_index a 3 ∷ slice_index b 2
    ∷ slice_index a 5 ∷ slice_index b 4 ∷ slice_index a 7 ∷ slice_index b 6 ∷ []
