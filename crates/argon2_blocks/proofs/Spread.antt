-- Rows and columns that are spread over vectors.
use Rattle.std.proofs.Common.{◌≡◌, ℕ, ◌<◌, ◌+◌, List, [], ◌∷◌, ◌++◌, length, refl, arith, sym, zero, suc, ◌*◌, ◌/◌, ◌%◌, map, ap, ◌∙◌}
use Rattle.std.specs.List.{range_with_len, flat_map}
use Rattle.std.specs.Simd.Lanes.{Each1, pick_l}
use Rattle.std.proofs.lemmas.Simd.{Each1-from_get_or, Each1-get_or}
use Rattle.argon2_blocks.specs.Views.Lanes.{column, vector_pair, lane, half_round, four_and_four, high_halves, low_halves, nth_vector, spread_row, diagonals, two_mixes, undo_diagonals}
use Rattle.argon2_blocks.proofs.Stores.{Long, flat_map_same}
use Rattle.argon2_blocks.proofs.Lanes.{each_of_4, each_of_8, each_of_16, two_eights, get_lane, by_elements}
use Rattle.std.specs.Prelude.{slice_index}
use Rattle.argon2_blocks.specs.Standard.Compression.{permute_p}

-- ---- rows and columns that move between vectors

-- ---- from vectors to rows, from rows to columns, and back to vectors

-- the first halves, and (`high`) the second halves, of the vectors i and k
abbrev pub low : List (List ℕ) → ℕ → ℕ → List ℕ
low v i k = low_halves (nth_vector v i) (nth_vector v k)

abbrev pub high : List (List ℕ) → ℕ → ℕ → List ℕ
high v i k = high_halves (nth_vector v i) (nth_vector v k)

abbrev pub rows_of : List (List ℕ) → List (List ℕ)
rows_of v = low v 0 2 ∷ low v 4 6 ∷ high v 0 2 ∷ high v 4 6 ∷ low v 1 3 ∷ low v 5 7 ∷ high v 1 3 ∷ high v 5 7 ∷ []

-- row j of the four rows that are spread over the vectors `rows_of v` is vectors 2 * j and 2 * j + 1 of v, joined
pub rows_spread : (v : List (List ℕ)) →
    length (nth_vector v 0) ≡ 8 → length (nth_vector v 1) ≡ 8 → length (nth_vector v 2) ≡ 8 → length (nth_vector v 3) ≡ 8 →
    length (nth_vector v 4) ≡ 8 → length (nth_vector v 5) ≡ 8 → length (nth_vector v 6) ≡ 8 → length (nth_vector v 7) ≡ 8 →
    (j : ℕ) → j < 4 → spread_row (rows_of v) j ≡ vector_pair v j
rows_spread v l0 l1 l2 l3 l4 l5 l6 l7 j h =
    each_of_4 (λ j. spread_row (rows_of v) j ≡ vector_pair v j)
    (two_eights (nth_vector v 0) (nth_vector v 1) l0 l1) (two_eights (nth_vector v 2) (nth_vector v 3) l2 l3)
    (two_eights (nth_vector v 4) (nth_vector v 5) l4 l5) (two_eights (nth_vector v 6) (nth_vector v 7) l6 l7) j h

abbrev pub left_of : List (List ℕ) → List (List ℕ) → List (List ℕ)
left_of u v = low u 0 2 ∷ high u 0 2 ∷ low u 1 3 ∷ high u 1 3 ∷ low v 0 2 ∷ high v 0 2 ∷ low v 1 3 ∷ high v 1 3 ∷ []

abbrev pub right_of : List (List ℕ) → List (List ℕ) → List (List ℕ)
right_of u v = low u 4 6 ∷ high u 4 6 ∷ low u 5 7 ∷ high u 5 7 ∷ low v 4 6 ∷ high v 4 6 ∷ low v 5 7 ∷ high v 5 7 ∷ []

-- eight rows: the first four are spread over the vectors u, the last four over the vectors v
abbrev pub eight_rows : List (List ℕ) → List (List ℕ) → ℕ → List ℕ
eight_rows u v = four_and_four (spread_row u) (spread_row v)

-- the vectors of the left halves of eight rows hold the columns 0 to 3 of those rows
pub left_columns : (u v : List (List ℕ)) (k : ℕ) → k < 4 → column (nth_vector (left_of u v)) k ≡ column (eight_rows u v) k
left_columns u v k h = each_of_4 (λ k. column (nth_vector (left_of u v)) k ≡ column (eight_rows u v) k) refl refl refl refl k h

-- the vectors of the right halves of eight rows hold the columns 4 to 7 of those rows
pub right_columns : (u v : List (List ℕ)) (k : ℕ) → k < 4 → column (nth_vector (right_of u v)) k ≡ column (eight_rows u v) (k + 4)
right_columns u v k h = each_of_4 (λ k. column (nth_vector (right_of u v)) k ≡ column (eight_rows u v) (k + 4)) refl refl refl refl k h

-- the vectors of two lists of eight, by turns: one of each list at a time
abbrev pub halves_joined : List (List ℕ) → List (List ℕ) → List (List ℕ)
halves_joined u v =
    nth_vector u 0 ∷ nth_vector v 0 ∷ nth_vector u 1 ∷ nth_vector v 1 ∷ nth_vector u 2 ∷ nth_vector v 2 ∷ nth_vector u 3 ∷ nth_vector v 3
    ∷ nth_vector u 4 ∷ nth_vector v 4 ∷ nth_vector u 5 ∷ nth_vector v 5 ∷ nth_vector u 6 ∷ nth_vector v 6 ∷ nth_vector u 7 ∷ nth_vector v 7 ∷ []

-- eight columns: four in the vectors u, and then four in the vectors v
abbrev pub eight_columns : List (List ℕ) → List (List ℕ) → ℕ → List ℕ
eight_columns u v = four_and_four (column (nth_vector u)) (column (nth_vector v))

-- vector j of u and vector j of v, joined, are the eight words of vector j of u and then the eight of vector j of v
joined_row : (u v : List (List ℕ)) → length u ≡ 8 → length v ≡ 8 → Each1 Long u → Each1 Long v → (j : ℕ) → j < 8 →
    nth_vector u j ++ nth_vector v j ≡ pick_l 0 (nth_vector u j) (range_with_len 0 8) ++ pick_l 0 (nth_vector v j) (range_with_len 0 8)
joined_row u v lu lv eu ev j h =
    sym (two_eights (nth_vector u j) (nth_vector v j) (Each1-get_or Long u j [] (omega arith) eu) (Each1-get_or Long v j [] (omega arith) ev))

-- in the vectors of u and v by turns, row j is row j of the eight columns that u and v hold
pub rows_joined : (u v : List (List ℕ)) → length u ≡ 8 → length v ≡ 8 → Each1 Long u → Each1 Long v →
    (j : ℕ) → j < 8 → vector_pair (halves_joined u v) j ≡ column (eight_columns u v) j
rows_joined u v lu lv eu ev j h =
    let row = λ (j : ℕ) (h : j < 8). joined_row u v lu lv eu ev j h in
    each_of_8 (λ j. vector_pair (halves_joined u v) j ≡ column (eight_columns u v) j)
    (row 0 (omega arith)) (row 1 (omega arith)) (row 2 (omega arith)) (row 3 (omega arith))
    (row 4 (omega arith)) (row 5 (omega arith)) (row 6 (omega arith)) (row 7 (omega arith)) j h

-- vectors of eight words each, taken from two lists by turns, have eight words each
pub halves_long : (u v : List (List ℕ)) → length u ≡ 8 → length v ≡ 8 → Each1 Long u → Each1 Long v → Each1 Long (halves_joined u v)
halves_long u v lu lv eu ev =
    let a = λ (k : ℕ) (h : k < 8). Each1-get_or Long u k [] (omega arith) eu in
    let b = λ (k : ℕ) (h : k < 8). Each1-get_or Long v k [] (omega arith) ev in
    Each1-from_get_or Long (halves_joined u v) []
    (each_of_16 (λ k. Long (nth_vector (halves_joined u v) k))
    (a 0 (omega arith)) (b 0 (omega arith)) (a 1 (omega arith)) (b 1 (omega arith)) (a 2 (omega arith)) (b 2 (omega arith))
    (a 3 (omega arith)) (b 3 (omega arith)) (a 4 (omega arith)) (b 4 (omega arith)) (a 5 (omega arith)) (b 5 (omega arith))
    (a 6 (omega arith)) (b 6 (omega arith)) (a 7 (omega arith)) (b 7 (omega arith)))

-- ---- eight rows, or columns, four by four

-- if f gives the lists 0 to 3 of q and g gives the lists 4 to 7, `four_and_four f g` gives all eight lists of q
pub eight_by_fours : (f g q : ℕ → List ℕ) → ((k : ℕ) → k < 4 → f k ≡ q k) → ((k : ℕ) → k < 4 → g k ≡ q (k + 4)) →
    (k : ℕ) → k < 8 → four_and_four f g k ≡ q k
eight_by_fours f g q ef eg k h =
    each_of_8 (λ k. four_and_four f g k ≡ q k)
    (ef 0 (omega arith)) (ef 1 (omega arith)) (ef 2 (omega arith)) (ef 3 (omega arith))
    (eg 0 (omega arith)) (eg 1 (omega arith)) (eg 2 (omega arith)) (eg 3 (omega arith)) k h

-- eight vectors from the i-th on
abbrev pub eight_from : ℕ → List (List ℕ) → List (List ℕ)
eight_from i v =
    nth_vector v i ∷ nth_vector v (i + 1) ∷ nth_vector v (i + 2) ∷ nth_vector v (i + 3)
    ∷ nth_vector v (i + 4) ∷ nth_vector v (i + 5) ∷ nth_vector v (i + 6) ∷ nth_vector v (i + 7) ∷ []

-- rows 0 to 3 of a block are the rows of its first eight vectors
pub upper_pairs : (v : List (List ℕ)) (j : ℕ) → j < 4 → vector_pair (eight_from 0 v) j ≡ vector_pair v j
upper_pairs v j h = each_of_4 (λ j. vector_pair (eight_from 0 v) j ≡ vector_pair v j) refl refl refl refl j h

-- rows 4 to 7 of a block are the rows of its last eight vectors
pub lower_pairs : (v : List (List ℕ)) (j : ℕ) → j < 4 → vector_pair (eight_from 8 v) j ≡ vector_pair v (j + 4)
lower_pairs v j h = each_of_4 (λ j. vector_pair (eight_from 8 v) j ≡ vector_pair v (j + 4)) refl refl refl refl j h

-- ---- half a round and a whole one of four rows, or columns, that are spread over eight vectors

-- ---- two mixes in each lane are half a round of each row and of each column

-- each lane of r is two mixes of that lane of v
abbrev pub IsMixed : List (List ℕ) → List (List ℕ) → Type 0
IsMixed v r = (i : ℕ) → i < 8 → lane i r ≡ two_mixes (lane i v)

-- the word in lane i of vector k after two mixes
abbrev pub word_after : List (List ℕ) → ℕ → ℕ → ℕ
word_after v k i = slice_index (two_mixes (lane i v)) k

-- if r is v after two GB in each lane, word i of vector k of r is word k of the two GB on lane i of v
word_by_lane : (v r : List (List ℕ)) → IsMixed v r → (k i : ℕ) → i < 8 → slice_index (nth_vector r k) i ≡ word_after v k i
word_by_lane v r e k i h = get_lane i k r ∙ ap (λ l. slice_index l k) (e i h)

-- two functions that agree below a + n have the same values at the n numbers from a on
map_same : (f g : ℕ → ℕ) (a n : ℕ) → ((w : ℕ) → w < a + n → f w ≡ g w) → map f (range_with_len a n) ≡ map g (range_with_len a n)
map_same f g a zero e = refl
map_same f g a (suc n) e =
    ap (λ x. x ∷ map f (range_with_len (a + 1) n)) (e a (omega arith))
    ∙ ap (λ l. g a ∷ l) (map_same f g (a + 1) n (λ w h. e w (omega arith)))

-- row j, and column k, after two mixes
abbrev pub row_after : List (List ℕ) → ℕ → List ℕ
row_after v j = map (λ w. word_after v (2 * (w / 4) + j / 2) (4 * (j % 2) + w % 4)) (range_with_len 0 16)

abbrev pub column_after : List (List ℕ) → ℕ → List ℕ
column_after v k = flat_map (λ n. word_after v n (2 * k) ∷ word_after v n (2 * k + 1) ∷ []) (range_with_len 0 8)

-- two GB in each lane are half a round of each of four spread rows
half_row : (v r : List (List ℕ)) → length v ≡ 8 → IsMixed v r → (j : ℕ) → j < 4 → spread_row r j ≡ half_round (spread_row v j)
half_row v r l e j h =
    map_same (λ w. slice_index (nth_vector r (2 * (w / 4) + j / 2)) (4 * (j % 2) + w % 4)) (λ w. word_after v (2 * (w / 4) + j / 2) (4 * (j % 2) + w % 4)) 0 16
    (λ w m. word_by_lane v r e (2 * (w / 4) + j / 2) (4 * (j % 2) + w % 4) (omega arith))
    ∙ by_elements [] 8 (λ v. row_after v j ≡ half_round (spread_row v j)) v l
    (each_of_4 (λ j. row_after (pick_l [] v (range_with_len 0 8)) j ≡ half_round (spread_row (pick_l [] v (range_with_len 0 8)) j)) refl refl refl refl j h)

-- two GB in each lane are half a round of each of four spread columns of the block
half_column : (v r : List (List ℕ)) → length v ≡ 8 → IsMixed v r → (k : ℕ) → k < 4 → column (nth_vector r) k ≡ half_round (column (nth_vector v) k)
half_column v r l e k h =
    flat_map_same (λ n. slice_index (nth_vector r n) (2 * k) ∷ slice_index (nth_vector r n) (2 * k + 1) ∷ []) (λ n. word_after v n
    (2 * k) ∷ word_after v n (2 * k + 1) ∷ []) 0 8
    (λ n m. ap (λ x. x ∷ slice_index (nth_vector r n) (2 * k + 1) ∷ []) (word_by_lane v r e n (2 * k) (omega arith))
    ∙ ap (λ x. word_after v n (2 * k) ∷ x ∷ []) (word_by_lane v r e n (2 * k + 1) (omega arith)))
    ∙ by_elements [] 8 (λ v. column_after v k ≡ half_round (column (nth_vector v) k)) v l
    (each_of_4 (λ k. column_after (pick_l [] v (range_with_len 0 8)) k ≡ half_round (column (nth_vector (pick_l [] v
    (range_with_len 0 8))) k)) refl refl refl refl k h)

-- ---- a round: half of it on columns, and half on diagonals that stand as columns

-- P is half a round, and then half a round on the diagonals as columns, which then become diagonals again
permute_halves : (w : List ℕ) → length w ≡ 16 → permute_p w ≡ undo_diagonals (half_round (diagonals (half_round w)))
unfolding permute_p
permute_halves w l = by_elements 0 16 (λ w. permute_p w ≡ undo_diagonals (half_round (diagonals (half_round w)))) w l refl

-- if a is half a round of w, b the diagonals of a, c half a round of b, and d undoes the diagonals in c, d is P of w
round_of_words : (w a b c d : List ℕ) → length w ≡ 16 →
    a ≡ half_round w → b ≡ diagonals a → c ≡ half_round b → d ≡ undo_diagonals c → d ≡ permute_p w
round_of_words w a b c d l ea eb ec ed = rw (ed, ec, eb, ea) (sym (permute_halves w l))

-- two GB in each lane, on columns and then on diagonals, are P on each of four spread rows
pub row_at : (v a b c d : List (List ℕ)) → length v ≡ 8 → length b ≡ 8 → IsMixed v a →
    ((j : ℕ) → j < 4 → spread_row b j ≡ diagonals (spread_row a j)) → IsMixed b c →
    ((j : ℕ) → j < 4 → spread_row d j ≡ undo_diagonals (spread_row c j)) →
    (j : ℕ) → j < 4 → spread_row d j ≡ permute_p (spread_row v j)
row_at v a b c d lv lb ha hb hc hd j h =
    round_of_words (spread_row v j) (spread_row a j) (spread_row b j) (spread_row c j) (spread_row d j) refl
    (half_row v a lv ha j h) (hb j h) (half_row b c lb hc j h) (hd j h)

-- two GB in each lane, on columns and then on diagonals, are P on each of four spread columns
pub column_at : (v a b c d : List (List ℕ)) → length v ≡ 8 → length b ≡ 8 → IsMixed v a →
    ((k : ℕ) → k < 4 → column (nth_vector b) k ≡ diagonals (column (nth_vector a) k)) → IsMixed b c →
    ((k : ℕ) → k < 4 → column (nth_vector d) k ≡ undo_diagonals (column (nth_vector c) k)) →
    (k : ℕ) → k < 4 → column (nth_vector d) k ≡ permute_p (column (nth_vector v) k)
column_at v a b c d lv lb ha hb hc hd k h =
    round_of_words (column (nth_vector v) k) (column (nth_vector a) k) (column (nth_vector b) k) (column (nth_vector c) k) (column (nth_vector d) k) refl
    (half_column v a lv ha k h) (hb k h) (half_column b c lb hc k h) (hd k h)
