-- Blocks that are loaded, permuted and stored as vectors of eight words.
use Rattle.std.proofs.Common.{◌≡◌, ℕ, zero, suc, ◌<◌, ◌≤◌, ◌+◌, ◌*◌, List, [], ◌∷◌, ◌++◌, length, take, drop, refl, ap, arith, sym, ◌∙◌, bit_xor}
use Rattle.std.proofs.Common.{length-append, map, append_assoc}
use Rattle.std.proofs.Math.Seq.{drop-append-add, take-add}
use Rattle.std.proofs.lemmas.List.{take_at, append-nil, drop_all, take_all, take-take, drop-drop}
use Rattle.std.specs.Prelude.{slice_index_or, slice_index}
use Rattle.std.specs.Simd.Lanes.{zip2, Each1, chunk, put_chunk, pick_l}
use Rattle.argon2_blocks.specs.Standard.Block.{xor}
use Rattle.argon2_blocks.specs.Views.Lanes.{vector_words, column, vector_pair}
use Rattle.std.proofs.lemmas.Simd.{Each1-from_get_or, chunk-drop, length-chunk, length-zip2, put_chunk_is, put_chunk_whole, pick_l-range_with_len}
use Rattle.std.specs.List.{flat_map, range_with_len}
use Rattle.argon2_blocks.specs.Standard.Compression.{Registers, permute_p, row_registers, permute_rows, transpose, registers_of, block_of_registers}
use Rattle.argon2_blocks.specs.Standard.Compression.{compress_g}
use Rattle.argon2_blocks.proofs.Lanes.{by_elements}

-- ---- a block as sixteen vectors

-- ---- the XOR of lists
-- the XOR of two lists is the two lists combined word by word with `bit_xor`
xor_zip2 : (xs ys : List ℕ) → xor xs ys ≡ zip2 bit_xor xs ys
unfolding xor
xor_zip2 [] ys = refl
xor_zip2 (x ∷ xs) [] = refl
xor_zip2 (x ∷ xs) (y ∷ ys) = ap (λ l. bit_xor x y ∷ l) (xor_zip2 xs ys)

-- a list combined word by word with the empty list is empty
zip2_none : (f : ℕ → ℕ → ℕ) (xs : List ℕ) → zip2 f xs [] ≡ []
zip2_none f [] = refl
zip2_none f (x ∷ xs) = refl

-- dropping i words of two combined lists equals dropping i words of each list and then combining the lists
drop_zip2 : (f : ℕ → ℕ → ℕ) (i : ℕ) (xs ys : List ℕ) → drop i (zip2 f xs ys) ≡ zip2 f (drop i xs) (drop i ys)
drop_zip2 f zero xs ys = refl
drop_zip2 f (suc i) [] ys = refl
drop_zip2 f (suc i) (x ∷ xs) [] = sym (zip2_none f (drop i xs))
drop_zip2 f (suc i) (x ∷ xs) (y ∷ ys) = drop_zip2 f i xs ys

-- the first i words of two lists combined word by word are their first i words combined
take_zip2 : (f : ℕ → ℕ → ℕ) (i : ℕ) (xs ys : List ℕ) → take i (zip2 f xs ys) ≡ zip2 f (take i xs) (take i ys)
take_zip2 f zero xs ys = refl
take_zip2 f (suc i) [] ys = refl
take_zip2 f (suc i) (x ∷ xs) [] = refl
take_zip2 f (suc i) (x ∷ xs) (y ∷ ys) = ap (λ l. f x y ∷ l) (take_zip2 f i xs ys)

-- the n words from index i on of the XOR of two lists are the XOR of the n words from index i on of each list
pub chunk_xor : (i n : ℕ) (xs ys : List ℕ) → chunk i n (xor xs ys) ≡ zip2 bit_xor (chunk i n xs) (chunk i n ys)
chunk_xor i n xs ys =
    ap (λ l. chunk i n l) (xor_zip2 xs ys)
    ∙ (ap (λ l. take n l) (drop_zip2 bit_xor i xs ys) ∙ take_zip2 bit_xor n (drop i xs) (drop i ys))

-- the XOR of two lists of the same length has that length
pub length_xor : (xs ys : List ℕ) → length xs ≡ length ys → length (xor xs ys) ≡ length xs
unfolding xor
length_xor [] ys e = refl
length_xor (x ∷ xs) [] e = absurd (omega arith)
length_xor (x ∷ xs) (y ∷ ys) e = ap suc (length_xor xs ys (omega arith))

-- ---- vectors, joined
abbrev pub Long : List ℕ → Type 0
Long a = length a ≡ 8

-- if xs has n words, dropping n + m words of xs ++ ys is dropping m words of ys
pub drop_front : (xs ys : List ℕ) (n m k : ℕ) → length xs ≡ n → k ≡ n + m → drop k (xs ++ ys) ≡ drop m ys
drop_front xs ys n m k e f = ap (λ k. drop k (xs ++ ys)) (f ∙ ap (λ n. n + m) (sym e)) ∙ drop-append-add xs ys m

-- if each vector has eight words, vector k is the eight words from index 8 * k on of the joined vectors
pub vector_at : (v : List (List ℕ)) (k : ℕ) → Each1 Long v → k < length v → slice_index_or v k [] ≡ chunk (8 * k) 8 (vector_words v)
vector_at [] k e h = absurd (omega arith)
vector_at (x ∷ v) zero e h = sym (take_at x (vector_words v) 8 e.0)
vector_at (x ∷ v) (suc k) e h =
    vector_at v k e.1 (omega arith)
    ∙ sym (ap (λ l. take 8 l) (drop_front x (vector_words v) 8 (8 * k) (8 * suc k) e.0 (omega arith)))

-- vectors of eight words each, joined, have eight times as many words as there are vectors
pub length_joined : (v : List (List ℕ)) → Each1 Long v → length (vector_words v) ≡ 8 * length v
length_joined [] e = refl
length_joined (x ∷ v) e =
    let r : length (vector_words v) ≡ 8 * length v = length_joined v e.1 in
    let s : length (x ++ vector_words v) ≡ length x + length (vector_words v) = length-append x (vector_words v) in
    let l : length x ≡ 8 = e.0 in
    omega arith

-- ---- one more vector is put
-- putting the first n words of t over the first n words of o gives the n words of t and then the rest of o
put_front : (n : ℕ) (t o : List ℕ) → n ≤ length t → n ≤ length o → put_chunk zero o (take n t) ≡ take n t ++ drop n o
put_front zero t [] h k = refl
put_front zero t (y ∷ o) h k = refl
put_front (suc n) [] o h k = absurd (omega arith)
put_front (suc n) (x ∷ t) [] h k = absurd (omega arith)
put_front (suc n) (x ∷ t) (y ∷ o) h k = ap (λ l. x ∷ l) (put_front n t o (omega arith) (omega arith))

-- if the next n words of t are put behind i words of t into o, the result is i + n words of t and the rest of o
pub put_next : (i n m : ℕ) (t o : List ℕ) → m ≡ i + n → m ≤ length t → m ≤ length o →
    put_chunk i (take i t ++ drop i o) (chunk i n t) ≡ take m t ++ drop m o
put_next zero n m t o e h k = let z : m ≡ n = omega arith in rw z (put_front n t o (omega arith) (omega arith))
put_next (suc i) n zero t o e h k = absurd (omega arith)
put_next (suc i) n (suc m) [] o e h k = absurd (omega arith)
put_next (suc i) n (suc m) (x ∷ t) [] e h k = absurd (omega arith)
put_next (suc i) n (suc m) (x ∷ t) (y ∷ o) e h k = ap (λ l. x ∷ l) (put_next i n m t o (omega arith) (omega arith) (omega arith))

-- ---- sixteen vectors that are a block

-- ---- vectors that are made one by one

-- for n = 8, the first eight of n words from index 8 * k on of w are the chunk of eight words of w at 8 * k
pub part_read : (k n : ℕ) (w : List ℕ) → n ≡ 8 → take 8 (take n (drop (8 * k) w)) ≡ chunk (8 * k) 8 w
part_read k n w hn = ap (λ q. take 8 (take q (drop (8 * k) w))) hn ∙ take-take 8 8 (drop (8 * k) w) (omega arith)

-- if r is the XOR of the eight words at 8 * k of x and of y, r is the eight words at 8 * k of the XOR of x and y
pub chunk_made : (x y r : List ℕ) (k n m : ℕ) → n ≡ 8 → m ≡ 8 →
    r ≡ zip2 bit_xor (take 8 (take n (drop (8 * k) x))) (take 8 (take m (drop (8 * k) y))) → r ≡ chunk (8 * k) 8 (xor x y)
chunk_made x y r k n m hn hm e = rw (e, part_read k n x hn, part_read k m y hm) (sym (chunk_xor (8 * k) 8 x y))

-- if v are the parts of eight words of w from part i to the last, v joined is w without the first 8 * i words
chunks_joined : (v : List (List ℕ)) (i : ℕ) (w : List ℕ) → length w ≡ 8 * (i + length v) →
    ((k : ℕ) → k < length v → slice_index_or v k [] ≡ chunk (8 * (i + k)) 8 w) → vector_words v ≡ drop (8 * i) w
chunks_joined [] i w l e = sym (drop_all (8 * i) w (omega arith))
chunks_joined (x ∷ v) i w l e =
    let here : i + 0 ≡ i = omega arith in
    let next : 8 * (i + 1) ≡ 8 * i + 8 = omega arith in
    let first : x ≡ chunk (8 * i) 8 w = rw here at (e zero (omega arith)) in
    let rest : vector_words v ≡ drop (8 * (i + 1)) w =
    chunks_joined v (i + 1) w (omega arith)
    (λ k h. let same : i + 1 + k ≡ i + suc k = omega arith in rw same (e (suc k) (omega arith))) in
    rw (first, rest, next) (sym (chunk-drop (8 * i) 8 w))

-- sixteen vectors, each the next eight words of a block, are the block when joined
pub all_chunks : (v : List (List ℕ)) (w : List ℕ) → length v ≡ 16 → length w ≡ 128 →
    ((k : ℕ) → k < 16 → slice_index_or v k [] ≡ chunk (8 * k) 8 w) → vector_words v ≡ w
all_chunks v w lv lw e = chunks_joined v 0 w (omega arith) (λ k h. let same : 0 + k ≡ k = omega arith in rw same (e k (omega arith)))

-- sixteen vectors, each the next eight words of a block, have eight words each
pub all_long : (v : List (List ℕ)) (w : List ℕ) → length v ≡ 16 → length w ≡ 128 →
    ((k : ℕ) → k < 16 → slice_index_or v k [] ≡ chunk (8 * k) 8 w) → Each1 Long v
all_long v w lv lw e =
    Each1-from_get_or Long v [] (λ k h. ap length (e k (omega arith)) ∙ length-chunk (8 * k) 8 w (omega arith))

-- ---- vectors that are put one by one

-- the XOR of two blocks of sixteen vectors has 128 words
pub length_128 : (x y : List (List ℕ)) → length x ≡ 16 → length y ≡ 16 → Each1 Long x → Each1 Long y → length (xor (vector_words x) (vector_words y)) ≡ 128
length_128 x y lx ly ex ey =
    let a : length (vector_words x) ≡ 8 * length x = length_joined x ex in
    let b : length (vector_words y) ≡ 8 * length y = length_joined y ey in
    let s : length (vector_words x) ≡ length (vector_words y) = omega arith in
    let t : length (xor (vector_words x) (vector_words y)) ≡ length (vector_words x) = length_xor (vector_words x) (vector_words y) s in
    omega arith

-- the XOR of vectors k of two blocks is the eight words from 8 * k on of the blocks' XOR
chunk_at : (x y : List (List ℕ)) (k : ℕ) → length x ≡ 16 → length y ≡ 16 → Each1 Long x → Each1 Long y → k < 16 →
    zip2 bit_xor (slice_index_or x k []) (slice_index_or y k []) ≡ chunk (8 * k) 8 (xor (vector_words x) (vector_words y))
chunk_at x y k lx ly ex ey h =
    let a : slice_index_or x k [] ≡ chunk (8 * k) 8 (vector_words x) = vector_at x k ex (omega arith) in
    let b : slice_index_or y k [] ≡ chunk (8 * k) 8 (vector_words y) = vector_at y k ey (omega arith) in
    rw (a, b) (sym (chunk_xor (8 * k) 8 (vector_words x) (vector_words y)))

-- if w is k vectors of t and then the rest of o, putting vector k of t gives k + 1 vectors of t and then the rest of o
put_step : (k : ℕ) (t o w u : List ℕ) → length t ≡ 128 → length o ≡ 128 → k < 16 →
    w ≡ take (8 * k) t ++ drop (8 * k) o → u ≡ chunk (8 * k) 8 t →
    put_chunk (8 * k) w u ≡ take (8 * suc k) t ++ drop (8 * suc k) o
put_step k t o w u lt lo h e f = rw (e, f) (put_next (8 * k) 8 (8 * suc k) t o (omega arith) (omega arith) (omega arith))

-- if t and o have 128 words, the first 128 words of t and then o without the first 128 words are t
put_done : (t o : List ℕ) → length t ≡ 128 → length o ≡ 128 → take 128 t ++ drop 128 o ≡ t
put_done t o lt lo = rw (take_all 128 t (omega arith), drop_all 128 o (omega arith), append-nil) refl

-- for n = 8, w with the eight words u put into the borrowed part of n words at 8 * k is w with u put at 8 * k
pub put_part : (k n : ℕ) (w u : List ℕ) → n ≡ 8 → length w ≡ 128 → k < 16 → length u ≡ 8 →
    take (8 * k) w ++ (put_chunk zero (take n (drop (8 * k) w)) u ++ drop n (drop (8 * k) w)) ≡ put_chunk (8 * k) w u
put_part k n w u hn lw h lu =
    let d : length (chunk (8 * k) n w) ≡ n = length-chunk (8 * k) n w (omega arith) in
    let z : length (chunk (8 * k) n w) ≡ length u = omega arith in
    let p : put_chunk zero (chunk (8 * k) n w) u ≡ u = put_chunk_whole (chunk (8 * k) n w) u z in
    let m : n ≡ length u = omega arith in
    ap (λ l. take (8 * k) w ++ (l ++ drop n (drop (8 * k) w))) p
    ∙ (ap (λ q. take (8 * k) w ++ (u ++ drop q (drop (8 * k) w))) m
    ∙ sym (put_chunk_is (8 * k) w u (omega arith)))

-- the XOR of two vectors of eight words has eight words
pub long_sum : (x y r : List ℕ) → r ≡ zip2 bit_xor x y → length x ≡ 8 → length y ≡ 8 → length r ≡ 8
long_sum x y r e lx ly = ap length e ∙ (length-zip2 bit_xor x y (omega arith) ∙ lx)

-- o after the XORs of the first k vectors of the blocks x and y were put into o
abbrev puts : ℕ → List (List ℕ) → List (List ℕ) → List ℕ → List ℕ
puts zero x y o = o
puts (suc k) x y o = put_chunk (8 * k) (puts k x y o) (zip2 bit_xor (slice_index_or x k []) (slice_index_or y k []))

puts_are : (k : ℕ) (x y : List (List ℕ)) (o : List ℕ) → length x ≡ 16 → length y ≡ 16 → Each1 Long x → Each1 Long y → length o ≡ 128 → k ≤ 16 →
    puts k x y o ≡ take (8 * k) (xor (vector_words x) (vector_words y)) ++ drop (8 * k) o
puts_are zero x y o lx ly ex ey lo h = refl
puts_are (suc k) x y o lx ly ex ey lo h =
    put_step k (xor (vector_words x) (vector_words y)) o (puts k x y o) _ (length_128 x y lx ly ex ey) lo (omega arith)
    (puts_are k x y o lx ly ex ey lo (omega arith)) (chunk_at x y k lx ly ex ey (omega arith))

-- putting the XORs of all sixteen vectors of x and y into o gives the XOR of the blocks x and y
pub all_puts : (x y : List (List ℕ)) (o : List ℕ) → length x ≡ 16 → length y ≡ 16 → Each1 Long x → Each1 Long y → length o ≡ 128 →
    puts 16 x y o ≡ xor (vector_words x) (vector_words y)
all_puts x y o lx ly ex ey lo =
    puts_are 16 x y o lx ly ex ey lo (omega arith)
    ∙ put_done (xor (vector_words x) (vector_words y)) o (length_128 x y lx ly ex ey) lo

-- the XOR of two blocks of sixteen vectors and of a third block has 128 words
length_256 : (x y : List (List ℕ)) (o : List ℕ) → length x ≡ 16 → length y ≡ 16 → Each1 Long x → Each1 Long y → length o ≡ 128 →
    length (xor (xor (vector_words x) (vector_words y)) o) ≡ 128
length_256 x y o lx ly ex ey lo =
    let t : length (xor (vector_words x) (vector_words y)) ≡ 128 = length_128 x y lx ly ex ey in
    let s : length (xor (xor (vector_words x) (vector_words y)) o) ≡ length (xor (vector_words x) (vector_words y)) = length_xor (xor (vector_words x)
    (vector_words y)) o (omega arith) in
    omega arith

-- if w is k vectors of t and then the rest of o, the eight words of w at 8 * k are the eight words of o at 8 * k
chunk_left : (k : ℕ) (t o w : List ℕ) → length t ≡ 128 → k < 16 → w ≡ take (8 * k) t ++ drop (8 * k) o → chunk (8 * k) 8 w ≡ chunk (8 * k) 8 o
chunk_left k t o w lt h e =
    let l : length (take (8 * k) t) ≡ 8 * k = length-chunk 0 (8 * k) t (omega arith) in
    ap (λ l. chunk (8 * k) 8 l) e ∙ ap (λ l. take 8 l) (drop_front (take (8 * k) t) (drop (8 * k) o) (8 * k) 0 (8 * k) l (omega arith))

-- if w has k vectors of the XOR of x, y and o and then the rest of o, putting the XOR of vectors k of x and y and of
-- the words of w at 8 * k gives k + 1 vectors of the XOR of x, y and o and then the rest of o
pub onto_step : (x y : List (List ℕ)) (o : List ℕ) → length x ≡ 16 → length y ≡ 16 → Each1 Long x → Each1 Long y → length o ≡ 128 →
    (k : ℕ) (w v : List ℕ) → k < 16 →
    w ≡ take (8 * k) (xor (xor (vector_words x) (vector_words y)) o) ++ drop (8 * k) o →
    v ≡ put_chunk (8 * k) w (zip2 bit_xor (zip2 bit_xor (slice_index_or x k []) (slice_index_or y k [])) (chunk (8 * k) 8 w)) →
    v ≡ take (8 * suc k) (xor (xor (vector_words x) (vector_words y)) o) ++ drop (8 * suc k) o
onto_step x y o lx ly ex ey lo k w v h e f =
    let both = xor (vector_words x) (vector_words y) in
    let lt = length_256 x y o lx ly ex ey lo in
    f ∙ put_step k (xor both o) o w _ lt lo h e
    (rw (chunk_at x y k lx ly ex ey h, chunk_left k (xor both o) o w lt h e) (sym (chunk_xor (8 * k) 8 both o)))

-- if w is the first 128 words of the XOR of x, y and o and then o without 128 words, w is the XOR of x, y and o
pub onto_done : (x y : List (List ℕ)) (o w : List ℕ) → length x ≡ 16 → length y ≡ 16 → Each1 Long x → Each1 Long y → length o ≡ 128 →
    w ≡ take 128 (xor (xor (vector_words x) (vector_words y)) o) ++ drop 128 o → w ≡ xor (xor (vector_words x) (vector_words y)) o
onto_done x y o w lx ly ex ey lo e =
    e ∙ put_done (xor (xor (vector_words x) (vector_words y)) o) o (length_256 x y o lx ly ex ey lo) lo

-- ---- from the steps over vectors to the compression

-- ---- the definition, row by row

-- the sixteen words of row j
abbrev pub row : List ℕ → ℕ → List ℕ
row b j = pick_l 0 b (range_with_len (16 * j) 16)

abbrev pub table_with : (ℕ → List ℕ) → Registers
table_with p = map (λ j. row_registers (p j)) (range_with_len 0 8)

-- P on the rows of a block's registers gives the registers of P on each row of its words
first_rows : (b : List ℕ) → permute_rows (registers_of b) ≡ table_with (λ j. permute_p (row b j))
unfolding permute_rows registers_of
first_rows b = refl

-- P on the rows of transposed registers gives the registers of P on each column of the words
next_rows : (p : ℕ → List ℕ) → permute_rows (transpose (table_with p)) ≡ table_with (λ i. permute_p (column p i))
unfolding permute_rows transpose
next_rows p = refl

-- transposed registers make the block of the columns of their words, one after another
last_turn : (q : ℕ → List ℕ) → block_of_registers (transpose (table_with q)) ≡ flat_map (λ n. column q n) (range_with_len 0 8)
unfolding block_of_registers transpose
last_turn q = refl

-- the words of the block b after P on each row and then P on each column
abbrev pub mixed : List ℕ → List ℕ
mixed b = flat_map (λ n. column (λ i. permute_p (column (λ j. permute_p (row b j)) i)) n) (range_with_len 0 8)

-- P on each row and then on each column of the registers of b gives the block `mixed b`
both_steps : (b : List ℕ) → block_of_registers (transpose (permute_rows (transpose (permute_rows (registers_of b))))) ≡ mixed b
both_steps b =
    ap (λ (t : Registers). block_of_registers (transpose (permute_rows (transpose t)))) (first_rows b)
    ∙ (ap (λ (t : Registers). block_of_registers (transpose t)) (next_rows (λ j. permute_p (row b j)))
    ∙ last_turn (λ i. permute_p (column (λ j. permute_p (row b j)) i)))

-- ---- the vectors of a block, two by two

-- the eight words of b at i and then the eight words at i + 8 are the sixteen words at i
two_chunks : (i k : ℕ) (b : List ℕ) → k ≡ i + 8 → chunk i 8 b ++ chunk k 8 b ≡ chunk i 16 b
two_chunks i k b e = ap (λ l. chunk i 8 b ++ take 8 l) (ap (λ m. drop m b) e ∙ sym (drop-drop 8 i b)) ∙ sym (take-add 8 8 (drop i b))

-- vectors 2 * j and 2 * j + 1 are row j of the words of all vectors
pub row_of_vectors : (v : List (List ℕ)) → length v ≡ 16 → Each1 Long v → (j : ℕ) → j < 8 → vector_pair v j ≡ row (vector_words v) j
row_of_vectors v l e j h =
    let n : length (vector_words v) ≡ 8 * length v = length_joined v e in
    let i : 8 * (2 * j) ≡ 16 * j = omega arith in
    let first : slice_index_or v (2 * j) [] ≡ chunk (16 * j) 8 (vector_words v) = rw i at (vector_at v (2 * j) e (omega arith)) in
    let second : slice_index_or v (2 * j + 1) [] ≡ chunk (8 * (2 * j + 1)) 8 (vector_words v) = vector_at v (2 * j + 1) e (omega arith) in
    rw (first, second) (two_chunks (16 * j) (8 * (2 * j + 1)) (vector_words v) (omega arith)
    ∙ sym (pick_l-range_with_len 0 (vector_words v) (16 * j) 16 (omega arith)))

-- ---- lists that functions give by number

-- functions that agree below a + n give the same lists, joined over the n numbers from a on
pub flat_map_same : (f g : ℕ → List ℕ) (a n : ℕ) → ((k : ℕ) → k < a + n → f k ≡ g k) → flat_map f (range_with_len a n) ≡ flat_map g (range_with_len a n)
flat_map_same f g a zero e = refl
flat_map_same f g a (suc n) e =
    let rest : flat_map f (range_with_len (a + 1) n) ≡ flat_map g (range_with_len (a + 1) n) = flat_map_same f g (a + 1) n (λ k h. e k (omega arith)) in
    ap (λ l. l ++ flat_map f (range_with_len (a + 1) n)) (e a (omega arith)) ∙ ap (λ l. g a ++ l) rest

-- if f n and g n are equal for each n below 8, column i of f is column i of g
column_same : (f g : ℕ → List ℕ) → ((n : ℕ) → n < 8 → f n ≡ g n) → (i : ℕ) → column f i ≡ column g i
column_same f g e i =
    flat_map_same (λ n. slice_index (f n) (2 * i) ∷ slice_index (f n) (2 * i + 1) ∷ []) (λ n. slice_index (g n) (2 * i) ∷ slice_index (g n)
    (2 * i + 1) ∷ []) 0 8
    (λ n h. ap (λ (l : List ℕ). slice_index l (2 * i) ∷ slice_index l (2 * i + 1) ∷ []) (e n (omega arith)))

-- the words of sixteen vectors are the eight pairs of vectors, joined
joined_pairs : (v : List (List ℕ)) → length v ≡ 16 → vector_words v ≡ flat_map (vector_pair v) (range_with_len 0 8)
joined_pairs v l = by_elements [] 16 (λ v. vector_words v ≡ flat_map (vector_pair v) (range_with_len 0 8)) v l (simp append_assoc)

-- ---- the whole compression function

-- if p j is P on row j of the vectors r, d k is P on column k of p, and row j of the vectors o is column j of d,
-- then the words of o are the block of r after P on each row and then P on each column
pub whole : (r o : List (List ℕ)) (p d : ℕ → List ℕ) → length r ≡ 16 → Each1 Long r → length o ≡ 16 →
    ((j : ℕ) → j < 8 → p j ≡ permute_p (vector_pair r j)) →
    ((k : ℕ) → k < 8 → d k ≡ permute_p (column p k)) →
    ((j : ℕ) → j < 8 → vector_pair o j ≡ column d j) →
    vector_words o ≡ block_of_registers (transpose (permute_rows (transpose (permute_rows (registers_of (vector_words r))))))
whole r o p d lr long lo hp hd ho =
    let row_of = λ (j : ℕ). permute_p (row (vector_words r) j) in
    let column_of = λ (k : ℕ). permute_p (column row_of k) in
    let rows_p : (j : ℕ) → j < 8 → p j ≡ row_of j =
    λ j h. hp j h ∙ ap permute_p (row_of_vectors r lr long j h) in
    let columns_d : (k : ℕ) → k < 8 → d k ≡ column_of k =
    λ k h. hd k h ∙ ap permute_p (column_same p row_of rows_p k) in
    let row_o : (j : ℕ) → j < 8 → vector_pair o j ≡ column column_of j =
    λ j h. ho j h ∙ column_same d column_of columns_d j in
    joined_pairs o lo
    ∙ (flat_map_same (vector_pair o) (λ j. column column_of j) 0 8 (λ j h. row_o j (omega arith))
    ∙ sym (both_steps (vector_words r)))

-- if r is the XOR of x and y, and `made` is r after P on rows and columns, xor r made is Argon2's G of x and y
pub compressed : (x y r made : List ℕ) → r ≡ xor x y
    → made ≡ block_of_registers (transpose (permute_rows (transpose (permute_rows (registers_of r))))) →
    xor r made ≡ compress_g x y
unfolding compress_g
compressed x y r made er em = rw (em, er) refl
