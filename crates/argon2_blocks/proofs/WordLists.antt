-- Lists of words: their bytes, and their XOR.
use Rattle.std.proofs.Common.{◌≡◌, ℕ, zero, suc, ◌+◌, ◌-◌, ◌*◌, ◌^◌, ◌<◌, ◌≤◌, List, [], ◌∷◌, ◌++◌, length, take, drop, get_or, set, map, refl, sym}
use Rattle.std.proofs.Common.{ap, ◌∙◌, arith, length-append, length-drop, lit<, bit_xor, add-one}
use Rattle.std.proofs.lemmas.List.{append-nil, take_all, take_more, take_more_set, drop-drop, length-take-le, get_or-drop}
use Rattle.std.proofs.lemmas.List.{get_or_default, same_lists, drop_all}
use Rattle.std.proofs.lemmas.List.Concat.{flat_map-append}
use Rattle.std.proofs.lemmas.List.FromFn.{length-map-range_with_len, get_or-map-range_with_len, map-range_with_len_more}
use Rattle.std.proofs.lemmas.Nat.{le_bytes_8, from_le_bytes-to_le_bytes_8}
use Rattle.std.proofs.lemmas.Slice.{take-put_mid}
use Rattle.std.proofs.Math.Seq.{take-add}
use Rattle.std.specs.Prelude.{slice_range, slice_index}
use Rattle.std.specs.List.{range_with_len, flat_map}
use Rattle.std.specs.Int.{w64, from_le_bytes, to_le_bytes}
use Rattle.argon2_blocks.specs.Standard.Word.{words_of, bytes_of}
use borrow.Rule.Slice.PartMut.{put_mid}
use Rattle.std.proofs.lemmas.Simd.{pick_l_whole}
use Rattle.std.specs.Int.Bits.{xor_assoc, xor_self, xor_zero_r}
use Rattle.argon2_blocks.specs.Standard.Block.{xor}

-- ---- words and their bytes

-- ---- one word

-- the slice of bytes from `at` to at + 8 is the first eight bytes after the first `at` are dropped
slice_range_8 : (bytes : List ℕ) (at : ℕ) → slice_range bytes at (at + 8) ≡ take 8 (drop at bytes)
slice_range_8 bytes at = let e : at + 8 - at ≡ 8 = omega arith in rw e refl

-- ---- the steps of the loops that read and write words

-- reading 0 words gives the empty list
pub words_of_none : (bytes : List ℕ) → words_of 0 bytes ≡ []
unfolding words_of
words_of_none bytes = refl

-- if `words` begins with i words of `bytes`, setting entry i to word i makes `words` begin with i + 1 words of `bytes`
pub words_of_more : (bytes words : List ℕ) (i x : ℕ) → i < length words → take i words ≡ words_of i bytes
    → x ≡ from_le_bytes w64 (slice_range bytes (8 * i) (8 * i + 8)) → take (i + 1) (set words i x) ≡ words_of (i + 1) bytes
unfolding words_of
words_of_more bytes words i x lt held e =
    let f = λ (i : ℕ). from_le_bytes w64 (slice_range bytes (8 * i) (8 * i + 8)) in
    rw (take_more_set words i x lt, held, e) (sym (map-range_with_len_more f 0 i i (omega arith)))

-- the bytes of no words are the empty list
pub bytes_of_none : bytes_of [] ≡ []
unfolding bytes_of
bytes_of_none = refl

-- if `bytes` begins with the bytes of i words, writing word i at 8 * i gives the bytes of i + 1 words at the front
pub bytes_of_more : (bytes words ys : List ℕ) (i k : ℕ) → i < length words → 8 * i ≤ length bytes
    → take (8 * i) bytes ≡ bytes_of (take i words) → ys ≡ to_le_bytes w64 (get_or words i 0)
    → take (8 * (i + 1)) (put_mid (8 * i) k bytes ys) ≡ bytes_of (take (i + 1) words)
unfolding bytes_of
bytes_of_more bytes words ys i k lt fits held e =
    let ly : length ys ≡ 8 = rw e refl in
    let x = get_or words i 0 in
    take-put_mid (8 * i) k bytes ys (8 * (i + 1)) (omega arith) fits
    ∙ rw (held, e, take_more words i 0 lt) (sym (flat_map-append (to_le_bytes w64) (take i words) (x ∷ [])))

-- if `bytes` has 8 bytes per word and begins with the bytes of all words, `bytes` is the bytes of the words
pub bytes_of_all : (bytes words : List ℕ) (i : ℕ) → take (8 * i) bytes ≡ bytes_of (take i words) → length words ≤ i
    → length bytes ≡ 8 * length words → bytes ≡ bytes_of words
bytes_of_all bytes words i held all len =
    sym (take_all (8 * i) bytes (omega arith)) ∙ held ∙ ap bytes_of (take_all i words all)

-- ---- from words to bytes and back

-- the bytes of n words are 8 * n bytes
pub length-bytes_of : (words : List ℕ) → length (bytes_of words) ≡ 8 * length words
unfolding bytes_of
length-bytes_of [] = refl
length-bytes_of (x ∷ xs) =
    let h = length-bytes_of xs in omega (arith, length-append (to_le_bytes w64 x) (flat_map (to_le_bytes w64) xs), h)

-- the eight bytes at 8 * i in the bytes of `words` are the bytes of word i
bytes_of_at : (words : List ℕ) (i : ℕ) → i < length words → take 8 (drop (8 * i) (bytes_of words)) ≡ to_le_bytes w64 (get_or words i 0)
unfolding bytes_of
bytes_of_at [] i lt = absurd (omega arith)
bytes_of_at (x ∷ xs) zero lt = refl
bytes_of_at (x ∷ xs) (suc i) lt =
    let e : 8 * suc i ≡ 8 + 8 * i = omega arith in
    rw (e, ← drop-drop) (bytes_of_at xs i (omega arith))

-- if all words are below 2 ^ 64, reading n words from the bytes of n words gives the n words
pub words_of-bytes_of : (words : List ℕ) → ((i : ℕ) → get_or words i 0 < 2 ^ 64) → words_of (length words) (bytes_of words) ≡ words
unfolding words_of
words_of-bytes_of words small =
    let f = λ (i : ℕ). from_le_bytes w64 (slice_range (bytes_of words) (8 * i) (8 * i + 8)) in
    same_lists _ _ (length-map-range_with_len f 0 (length words)) (λ k d lt.
    let within : k < length words = omega (arith, length-map-range_with_len f 0 (length words)) in
    get_or-map-range_with_len f 0 (length words) k k d within (omega arith)
    ∙ ap (from_le_bytes w64) (slice_range_8 (bytes_of words) (8 * k) ∙ bytes_of_at words k within)
    ∙ from_le_bytes-to_le_bytes_8 (get_or words k 0) (small k)
    ∙ get_or_default words k 0 d within)

-- if all elements of l are below 256, all elements of the first n are below 256
get_or-take_fits : (l : List ℕ) (n i : ℕ) → ((k : ℕ) → get_or l k 0 < 256) → get_or (take n l) i 0 < 256
get_or-take_fits [] zero i small = lit< tt
get_or-take_fits [] (suc n) i small = lit< tt
get_or-take_fits (x ∷ xs) zero i small = lit< tt
get_or-take_fits (x ∷ xs) (suc n) zero small = small 0
get_or-take_fits (x ∷ xs) (suc n) (suc i) small = get_or-take_fits xs n i (λ k. small (suc k))

-- the values of f at 0 to n are the values of f at 0 to n - 1 and then f n
map-range_with_len_suc : (f : ℕ → ℕ) (n : ℕ) → map f (range_with_len 0 (suc n)) ≡ map f (range_with_len 0 n) ++ f n ∷ []
map-range_with_len_suc f n =
    let e : suc n ≡ n + 1 = omega arith in
    ap (λ (k : ℕ). map f (range_with_len 0 k)) e ∙ map-range_with_len_more f 0 n n (omega arith)

-- the first 8 * (n + 1) bytes are the first 8 * n bytes and then the next eight
take_8_more : (bytes : List ℕ) (n : ℕ) → take (8 * suc n) bytes ≡ take (8 * n) bytes ++ take 8 (drop (8 * n) bytes)
take_8_more bytes n = let e : 8 * suc n ≡ 8 * n + 8 = omega arith in rw e (take-add (8 * n) 8 bytes)

-- if `bytes` has 8 * n or more bytes, all below 256, the bytes of the first n words are the first 8 * n bytes
bytes_of-words_of_front : (bytes : List ℕ) (n : ℕ) → ((i : ℕ) → get_or bytes i 0 < 256) → 8 * n ≤ length bytes
    → bytes_of (words_of n bytes) ≡ take (8 * n) bytes
unfolding words_of bytes_of
bytes_of-words_of_front bytes zero small fits = refl
bytes_of-words_of_front bytes (suc n) small fits =
    let f = λ (i : ℕ). from_le_bytes w64 (slice_range bytes (8 * i) (8 * i + 8)) in
    let rest : List ℕ = drop (8 * n) bytes in
    let part : List ℕ = take 8 rest in
    let ln : length part ≡ 8 = length-take-le 8 rest (omega (arith, length-drop (8 * n) bytes)) in
    let low : (i : ℕ) → get_or part i 0 < 256 =
    λ i. get_or-take_fits rest 8 i (λ k. rw (get_or-drop (8 * n) bytes k 0) (small (8 * n + k))) in
    let whole : to_le_bytes w64 (f n) ≡ part = le_bytes_8 part (f n) ln low (ap (from_le_bytes w64) (slice_range_8 bytes (8 * n))) in
    let split : take (8 * suc n) bytes ≡ take (8 * n) bytes ++ part = take_8_more bytes n in
    let last : map f (range_with_len 0 (suc n)) ≡ map f (range_with_len 0 n) ++ f n ∷ [] = map-range_with_len_suc f n in
    ap (flat_map (to_le_bytes w64)) last
    ∙ flat_map-append (to_le_bytes w64) (map f (range_with_len 0 n)) (f n ∷ [])
    ∙ rw (split, bytes_of-words_of_front bytes n small (omega arith), append-nil, whole) refl

-- if 8 * n bytes, all below 256, are read as n words, the bytes of the n words are the 8 * n bytes
pub bytes_of-words_of : (bytes : List ℕ) (n : ℕ) → ((i : ℕ) → get_or bytes i 0 < 256) → length bytes ≡ 8 * n
    → bytes_of (words_of n bytes) ≡ bytes
bytes_of-words_of bytes n small e = bytes_of-words_of_front bytes n small (omega arith) ∙ take_all (8 * n) bytes (omega arith)

-- ---- the XOR of lists, word by word

-- in xs with the first i words XORed with ys, XORing word i with word i of ys gives xs with i + 1 words XORed with ys
pub xor-step : (i : ℕ) (xs ys : List ℕ) → i < length xs → i < length ys →
    set (xor (take i xs) ys ++ drop i xs) i (bit_xor (get_or (xor (take i xs) ys ++ drop i xs) i 0) (get_or ys i 0))
    ≡ xor (take (suc i) xs) ys ++ drop (suc i) xs
unfolding xor
xor-step i [] ys h k = absurd (omega arith)
xor-step i (x ∷ xs) [] h k = absurd (omega arith)
xor-step zero (x ∷ xs) (y ∷ ys) h k = refl
xor-step (suc i) (x ∷ xs) (y ∷ ys) h k = ap (λ l. bit_xor x y ∷ l) (xor-step i xs ys (omega arith) (omega arith))

-- if zs is xs with the first i words XORed with ys, XORing word i of zs with word i of ys gives xs with
-- the first i + 1 words XORed with ys
pub xor-step_at : (i : ℕ) (xs ys zs : List ℕ) → i < length xs → i < length ys → zs ≡ xor (take i xs) ys ++ drop i xs →
    set zs i (bit_xor (get_or zs i 0) (get_or ys i 0)) ≡ xor (take (i + 1) xs) ys ++ drop (i + 1) xs
xor-step_at i xs ys zs h k e = rw (add-one, e) (xor-step i xs ys h k)

-- XOR with y twice gives x back
bit_xor-twice : (x y : ℕ) → bit_xor (bit_xor x y) y ≡ x
bit_xor-twice x y = xor_assoc x y y ∙ ap (bit_xor x) (xor_self y) ∙ xor_zero_r x

-- if xs and ys have the same length, the XOR of xs and ys, XORed with ys again, is xs
pub xor-twice : (xs ys : List ℕ) → length xs ≡ length ys → xor (xor xs ys) ys ≡ xs
unfolding xor
xor-twice [] [] e = refl
xor-twice [] (y ∷ ys) e = absurd (omega arith)
xor-twice (x ∷ xs) [] e = absurd (omega arith)
xor-twice (x ∷ xs) (y ∷ ys) e = rw (bit_xor-twice x y) (ap (λ l. x ∷ l) (xor-twice xs ys (omega arith)))

-- if zs is xs, of n words, with the first n words XORed with ys, the XOR of zs and ys is xs
pub xor-undone : (n : ℕ) (xs ys zs : List ℕ) → length xs ≡ n → length ys ≡ n → zs ≡ xor (take n xs) ys ++ drop n xs → xor zs ys ≡ xs
xor-undone n xs ys zs lx ly e =
    rw (e, take_all n xs (omega arith), drop_all n xs (omega arith), append-nil) (xor-twice xs ys (omega arith))

-- a list of eight words is the list of its words 0 to 7
pub eight_words : (h : List ℕ) → length h ≡ 8 →
    h ≡ slice_index h 0 ∷ slice_index h 1 ∷ slice_index h 2 ∷ slice_index h 3
    ∷ slice_index h 4 ∷ slice_index h 5 ∷ slice_index h 6 ∷ slice_index h 7 ∷ []
eight_words h n = sym (pick_l_whole 0 h 8 n)
