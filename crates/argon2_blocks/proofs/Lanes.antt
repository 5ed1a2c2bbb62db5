-- Rounds of the compression, lane by lane of its vectors.
use Rattle.std.proofs.Common.{◌≡◌, ℕ, zero, suc, ◌+◌, ◌*◌, ◌%◌, ◌-◌, ◌^◌, List, [], ◌∷◌, length, refl, arith, bit_and, replicate, ◌<◌, ◌++◌, ap, ◌∙◌}
use Rattle.std.proofs.Common.{subst, inl, inr, ◌/◌, map, bit_or, sym, bit_xor}
use Rattle.std.proofs.lemmas.Nat.{and_mask}
use Rattle.std.specs.Simd.Lanes.{zip2, pick_l, number_l, digits_l, Each1}
use Rattle.argon2_blocks.specs.Standard.Compression.{add_product, half_gb, mix_gb, permute_p}
use Rattle.std.proofs.lemmas.Bool.Decides.{leb_tells}
use Rattle.std.proofs.lemmas.Simd.{pick_l_whole}
use Rattle.std.specs.List.{range_with_len, flat_map}
use Rattle.std.specs.Int.{w64, rotate_right}
use Rattle.std.specs.Int.Bits.{or_shifted_r}
use Rattle.std.proofs.Math.Nat.{pow-succ'}
use Rattle.std.specs.Prelude.{slice_index, slice_index_or}
use Rattle.argon2_blocks.specs.Standard.Blake2b.{Four}
use Rattle.argon2_blocks.specs.Views.Lanes.{lane, half_round, two_mixes}

-- ---- the sum of two vectors and twice the product of their lower halves

abbrev pub plus : ℕ → ℕ → ℕ
plus x y = (x + y) % 2 ^ 64

abbrev pub times : ℕ → ℕ → ℕ
times x y = (x * y) % 2 ^ 64

-- lists with the same first word and the same rest are the same
pub cons_same : (x y : ℕ) (xs ys : List ℕ) → x ≡ y → xs ≡ ys → x ∷ xs ≡ y ∷ ys
cons_same x y xs ys e f = cc

-- x + y and p + p, summed with each step modulo 2 ^ 64, are x + y + 2 * p modulo 2 ^ 64
pub sum_mod : (x y p : ℕ) → ((x + y) % 2 ^ 64 + (p % 2 ^ 64 + p % 2 ^ 64) % 2 ^ 64) % 2 ^ 64 ≡ (x + y + 2 * p) % 2 ^ 64
sum_mod x y p = omega arith

-- x + y and twice the product of the lower halves, step by step modulo 2 ^ 64, are the sum of GB
pub one_lane : (x y : ℕ) → plus (plus x y) (plus (times (bit_and x (2 ^ 32 - 1)) (bit_and y (2 ^ 32 - 1))) (times (bit_and x (2 ^ 32 - 1)) (bit_and y
    (2 ^ 32 - 1)))) ≡ add_product x y
unfolding add_product
one_lane x y =
    let e : bit_and x (2 ^ 32 - 1) ≡ x % 2 ^ 32 = and_mask x 32 in
    let f : bit_and y (2 ^ 32 - 1) ≡ y % 2 ^ 32 = and_mask y 32 in
    rw (e, f) (sum_mod x y ((x % 2 ^ 32) * (y % 2 ^ 32)))

-- the sum of GB of two vectors of n words, computed step by step on vectors, is the sum of GB in each lane
pub all_lanes : (n : ℕ) (xs ys : List ℕ) → length xs ≡ n → length ys ≡ n →
    zip2 plus (zip2 plus xs ys)
    (zip2 plus (zip2 times (zip2 bit_and xs (replicate n (2 ^ 32 - 1))) (zip2 bit_and ys (replicate n (2 ^ 32 - 1))))
    (zip2 times (zip2 bit_and xs (replicate n (2 ^ 32 - 1))) (zip2 bit_and ys (replicate n (2 ^ 32 - 1)))))
    ≡ zip2 add_product xs ys
all_lanes n [] ys h k = refl
all_lanes n (x ∷ xs) [] h k = absurd (omega arith)
all_lanes zero (x ∷ xs) (y ∷ ys) h k = absurd (omega arith)
all_lanes (suc n) (x ∷ xs) (y ∷ ys) h k = cons_same _ _ _ _ (one_lane x y) (all_lanes n xs ys (omega arith) (omega arith))

-- ---- words that move between vectors

-- ---- lists of a known length, element by element

-- if xs has n elements and P holds of the list of elements 0 to n - 1 of xs, P holds of xs
pub by_elements : {A : Type 0} (d : A) (n : ℕ) (P : List A → Type 0) (xs : List A) → length xs ≡ n → P (pick_l d xs (range_with_len 0 n)) → P xs
by_elements d n P xs l p = subst P (pick_l_whole d xs n l) p

-- if P holds of 0, 1, 2 and 3, P holds of each number below 4
pub each_of_4 : (P : ℕ → Type 0) → P 0 → P 1 → P 2 → P 3 → (i : ℕ) → i < 4 → P i
each_of_4 P p0 p1 p2 p3 zero h = p0
each_of_4 P p0 p1 p2 p3 (suc zero) h = p1
each_of_4 P p0 p1 p2 p3 (suc (suc zero)) h = p2
each_of_4 P p0 p1 p2 p3 (suc (suc (suc zero))) h = p3
each_of_4 P p0 p1 p2 p3 (suc (suc (suc (suc i)))) h = absurd (omega arith)

-- if P holds of i and of i + n for each i below n, P holds of each number below 2 * n
by_halves : (P : ℕ → Type 0) (n : ℕ) → ((i : ℕ) → i < n → P i) → ((i : ℕ) → i < n → P (i + n)) → (i : ℕ) → i < n + n → P i
by_halves P n low high i h =
    elim (leb_tells (suc i) n) [
      | inl w ↦ low i (omega arith)
      | inr w ↦ let e : i - n + n ≡ i = omega arith in subst P e (high (i - n) (omega arith))
    ]

-- if P holds of 0, 1, .., 7, P holds of each number below 8
pub each_of_8 : (P : ℕ → Type 0) → P 0 → P 1 → P 2 → P 3 → P 4 → P 5 → P 6 → P 7 → (i : ℕ) → i < 8 → P i
each_of_8 P p0 p1 p2 p3 p4 p5 p6 p7 = by_halves P 4 (each_of_4 P p0 p1 p2 p3) (each_of_4 (λ i. P (i + 4)) p4 p5 p6 p7)

-- if P holds of 0, 1, .., 15, P holds of each number below 16
pub each_of_16 : (P : ℕ → Type 0) → P 0 → P 1 → P 2 → P 3 → P 4 → P 5 → P 6 → P 7 → P 8 → P 9 → P 10 → P 11 → P 12 → P 13 → P 14 → P 15 → (i : ℕ) → i < 16 → P i
each_of_16 P p0 p1 p2 p3 p4 p5 p6 p7 p8 p9 p10 p11 p12 p13 p14 p15 =
    by_halves P 8 (each_of_8 P p0 p1 p2 p3 p4 p5 p6 p7) (each_of_8 (λ i. P (i + 8)) p8 p9 p10 p11 p12 p13 p14 p15)

-- the eight elements of x and then the eight elements of y are x ++ y
pub two_eights : (x y : List ℕ) → length x ≡ 8 → length y ≡ 8 → pick_l 0 x (range_with_len 0 8) ++ pick_l 0 y (range_with_len 0 8) ≡ x ++ y
two_eights x y l m = ap (λ t. t ++ pick_l 0 y (range_with_len 0 8)) (pick_l_whole 0 x 8 l) ∙ ap (λ t. x ++ t) (pick_l_whole 0 y 8 m)

-- ---- right rotations of the words of a vector

-- the OR of a right shift by `bits` and a left shift by 64 - bits is the right rotation by `bits`, for each of n words
pub by_shifts : (bits n : ℕ) (xs : List ℕ) → 0 < bits → bits < 64 → length xs ≡ n →
    zip2 bit_or (zip2 (λ x k. x / 2 ^ k) xs (replicate n bits)) (zip2 (λ x k. x * 2 ^ k % 2 ^ 64) xs (replicate n (64 - bits)))
    ≡ map (λ x. rotate_right w64 x bits) xs
by_shifts bits n [] some lt l = refl
by_shifts bits zero (x ∷ xs) some lt l = absurd (omega arith)
by_shifts bits (suc n) (x ∷ xs) some lt l =
    let e : bits % 64 ≡ bits = omega arith in
    let f : (64 - bits) % 64 ≡ 64 - bits = omega arith in
    cons_same _ _ _ _ (rw (e, f) refl) (by_shifts bits n xs some lt (omega arith))

-- ---- a rotation as a sum

-- if x * 2 ^ m modulo 2 ^ 64 is low * 2 ^ m, and x / 2 ^ r is below 2 ^ m, the OR of the two is their sum
or_is_sum : (r m x low : ℕ) → x * 2 ^ m % 2 ^ 64 ≡ low * 2 ^ m → x / 2 ^ r < 2 ^ m →
    bit_or (x / 2 ^ r) (x * 2 ^ m % 2 ^ 64) ≡ low * 2 ^ m + x / 2 ^ r
or_is_sum r m x low up fits = ap (λ v. bit_or (x / 2 ^ r) v) up ∙ or_shifted_r low m (x / 2 ^ r) fits

rotation32 : (x : ℕ) → x < 2 ^ 64 → rotate_right w64 x 32 ≡ (x % 2 ^ 32) * 2 ^ 32 + x / 2 ^ 32
rotation32 x h = or_is_sum 32 32 x (x % 2 ^ 32) (omega arith) (omega arith)

-- a rotation by 32 bits and then a rotation by 56 bits are a rotation by 24 bits
pub rotations24 : (x : ℕ) → x < 2 ^ 64 → rotate_right w64 (rotate_right w64 x 32) 56 ≡ rotate_right w64 x 24
rotations24 x h =
    let y = (x % 2 ^ 32) * 2 ^ 32 + x / 2 ^ 32 in
    let e : (y % 2 ^ 56) * 2 ^ 8 + y / 2 ^ 56 ≡ (x % 2 ^ 24) * 2 ^ 40 + x / 2 ^ 24 = omega arith in
    ap (λ v. rotate_right w64 v 56) (rotation32 x h)
    ∙ (or_is_sum 56 8 y (y % 2 ^ 56) (omega arith) (omega arith) ∙ (e ∙ sym (or_is_sum 24 40 x (x % 2 ^ 24) (omega arith) (omega arith))))

-- a rotation by 32 bits and then a rotation by 48 bits are a rotation by 16 bits
pub rotations16 : (x : ℕ) → x < 2 ^ 64 → rotate_right w64 (rotate_right w64 x 32) 48 ≡ rotate_right w64 x 16
rotations16 x h =
    let y = (x % 2 ^ 32) * 2 ^ 32 + x / 2 ^ 32 in
    let e : (y % 2 ^ 48) * 2 ^ 16 + y / 2 ^ 48 ≡ (x % 2 ^ 16) * 2 ^ 48 + x / 2 ^ 16 = omega arith in
    ap (λ v. rotate_right w64 v 48) (rotation32 x h)
    ∙ (or_is_sum 48 16 y (y % 2 ^ 48) (omega arith) (omega arith) ∙ (e ∙ sym (or_is_sum 16 48 x (x % 2 ^ 16) (omega arith) (omega arith))))

-- if rotations by 32 and then `next` bits rotate every word by `all` bits, the two rotations rotate xs by `all` bits
pub by_two : (next all : ℕ) → ((x : ℕ) → x < 2 ^ 64 → rotate_right w64 (rotate_right w64 x 32) next ≡ rotate_right w64 x all) →
    (xs ys zs : List ℕ) → Each1 (λ a. a < 2 ^ 64) xs → ys ≡ map (λ x. rotate_right w64 x 32) xs →
    zs ≡ map (λ x. rotate_right w64 x next) ys → zs ≡ map (λ x. rotate_right w64 x all) xs
by_two next all e [] ys zs h a b = rw (b, a) refl
by_two next all e (x ∷ xs) ys zs h a b = rw (b, a) (cons_same _ _ _ _ (e x h.0) (by_two next all e xs _ _ h.1 refl refl))

-- ---- swapping the halves of words

-- if x is below 256 ^ n, the number that the n bytes of x make is x
number_of_bytes : (n x : ℕ) → x < 256 ^ n → number_l 256 (digits_l 256 n x) ≡ x
number_of_bytes zero x h = omega arith
number_of_bytes (suc n) x h =
    let p : 256 ^ suc n ≡ 256 * 256 ^ n = pow-succ' 256 n in
    let r : number_l 256 (digits_l 256 n (x / 256)) ≡ x / 256 = number_of_bytes n (x / 256) (omega arith) in
    rw r (omega arith)

-- the halves of a word: the lower first, and (`swapped`) the upper first
abbrev halves : ℕ → List ℕ
halves x = x % 2 ^ 32 ∷ x / 2 ^ 32 ∷ []

abbrev swapped : ℕ → List ℕ
swapped x = x / 2 ^ 32 ∷ x % 2 ^ 32 ∷ []

abbrev twos : ℕ → ℕ
twos zero = zero
twos (suc n) = suc (suc (twos n))

-- if a word in front makes f less than 2 ^ 64 + 2 ^ 64 times f of the others, and f of none is 0, f of n words below
-- 2 ^ 64 is below (2 ^ 64) ^ n
fits_words : (f : List ℕ → ℕ) → f [] ≡ 0 → ((x : ℕ) (xs : List ℕ) → x < 2 ^ 64 → f (x ∷ xs) < 2 ^ 64 + 2 ^ 64 * f xs) →
    (xs : List ℕ) → Each1 (λ a. a < 2 ^ 64) xs → f xs < (2 ^ 64) ^ length xs
fits_words f none more [] h = rw none (omega arith)
fits_words f none more (x ∷ xs) h =
    let p : (2 ^ 64) ^ length (x ∷ xs) ≡ 2 ^ 64 * (2 ^ 64) ^ length xs = pow-succ' (2 ^ 64) (length xs) in
    let r = fits_words f none more xs h.1 in
    let s = more x xs h.0 in
    omega arith

-- the 32-bit digits of the number that 64-bit words make are the halves of the words, one word after another
halves_n : (xs : List ℕ) → Each1 (λ a. a < 2 ^ 64) xs → digits_l (2 ^ 32) (twos (length xs)) (number_l (2 ^ 64) xs) ≡ flat_map halves xs
halves_n [] h = refl
halves_n (x ∷ xs) h =
    let m = number_l (2 ^ 64) xs in
    let s : x < 2 ^ 64 = h.0 in
    let low : (x + 2 ^ 64 * m) % 2 ^ 32 ≡ x % 2 ^ 32 = omega arith in
    let high : (x + 2 ^ 64 * m) / 2 ^ 32 % 2 ^ 32 ≡ x / 2 ^ 32 = omega arith in
    let rest : (x + 2 ^ 64 * m) / 2 ^ 32 / 2 ^ 32 ≡ m = omega arith in
    cons_same _ _ _ _ low (cons_same _ _ _ _ high (ap (λ v. digits_l (2 ^ 32) (twos (length xs)) v) rest ∙ halves_n xs h.1))

-- the 64-bit digits of the number that the words' swapped halves make are the words rotated right by 32 bits
rotated_n : (xs : List ℕ) → Each1 (λ a. a < 2 ^ 64) xs → digits_l (2 ^ 64) (length xs) (number_l (2 ^ 32) (flat_map swapped xs)) ≡ map (λ x. rotate_right w64 x 32) xs
rotated_n [] h = refl
rotated_n (x ∷ xs) h =
    let m = number_l (2 ^ 32) (flat_map swapped xs) in
    let s : x < 2 ^ 64 = h.0 in
    let low : (x / 2 ^ 32 + 2 ^ 32 * (x % 2 ^ 32 + 2 ^ 32 * m)) % 2 ^ 64 ≡ (x % 2 ^ 32) * 2 ^ 32 + x / 2 ^ 32 = omega arith in
    let rest : (x / 2 ^ 32 + 2 ^ 32 * (x % 2 ^ 32 + 2 ^ 32 * m)) / 2 ^ 64 ≡ m = omega arith in
    cons_same _ _ _ _ (low ∙ sym (rotation32 x s)) (ap (λ v. digits_l (2 ^ 64) (length xs) v) rest ∙ rotated_n xs h.1)

abbrev swapped_places : List ℕ
swapped_places = 1 ∷ 0 ∷ 3 ∷ 2 ∷ 5 ∷ 4 ∷ 7 ∷ 6 ∷ 9 ∷ 8 ∷ 11 ∷ 10 ∷ 13 ∷ 12 ∷ 15 ∷ 14 ∷ []

-- swapping the halves of each of eight words rotates the words right by 32 bits
pub by32 : (xs : List ℕ) → length xs ≡ 8 → Each1 (λ a. a < 2 ^ 64) xs →
    digits_l (2 ^ 64) 8 (number_l 256 (digits_l 256 64 (number_l (2 ^ 32) (pick_l 0 (digits_l (2 ^ 32) 16 (number_l 256 (digits_l 256 64 (number_l (2 ^ 64) xs)))) swapped_places))))
    ≡ map (λ x. rotate_right w64 x 32) xs
by32 xs l h =
    let words : number_l 256 (digits_l 256 64 (number_l (2 ^ 64) xs)) ≡ number_l (2 ^ 64) xs = number_of_bytes 64 _ (rw l at (fits_words (number_l (2 ^ 64)) refl (λ x xs h. omega arith) xs h)) in
    let picks : pick_l 0 (flat_map halves xs) swapped_places ≡ flat_map swapped xs =
    by_elements 0 8 (λ xs. pick_l 0 (flat_map halves xs) swapped_places ≡ flat_map swapped xs) xs l refl in
    let all : pick_l 0 (digits_l (2 ^ 32) 16 (number_l 256 (digits_l 256 64 (number_l (2 ^ 64) xs)))) swapped_places ≡ flat_map swapped xs =
    ap (λ v. pick_l 0 (digits_l (2 ^ 32) 16 v) swapped_places) words
    ∙ (ap (λ v. pick_l 0 v swapped_places) (rw l at (halves_n xs h)) ∙ picks) in
    let fit = rw l at (fits_words (λ xs. number_l (2 ^ 32) (flat_map swapped xs)) refl (λ x xs h. omega arith) xs h) in
    ap (λ v. digits_l (2 ^ 64) 8 (number_l 256 (digits_l 256 64 (number_l (2 ^ 32) v)))) all
    ∙ (ap (λ v. digits_l (2 ^ 64) 8 v) (number_of_bytes 64 _ fit) ∙ rw l at (rotated_n xs h))

-- ---- a mix of four vectors is the mix of the four words in each lane

-- the words in lane i of four vectors
abbrev pub words : ℕ → List ℕ → List ℕ → List ℕ → List ℕ → Four
words i a b c d = record { a = slice_index a i; b = slice_index b i; c = slice_index c i; d = slice_index d i }

-- the two steps of half a mix: a sum, and an XOR with a rotation
abbrev pub next_a : List ℕ → List ℕ → List ℕ
next_a a b = zip2 add_product a b

abbrev pub next_d : ℕ → List ℕ → List ℕ → List ℕ
next_d far d a1 = map (λ x. rotate_right w64 x far) (zip2 bit_xor d a1)

-- half of GB on the words in lane i of four vectors is the words in lane i of the vectors after half a mix
pub half_lane : (far near i : ℕ) (a b c d : List ℕ) → i < length a → i < length b → i < length c → i < length (next_d far d (next_a a b)) →
    half_gb far near (words i a b c d)
    ≡ words i (next_a a b) (next_d near b (next_a c (next_d far d (next_a a b)))) (next_a c (next_d far d (next_a a b))) (next_d far d (next_a a b))
unfolding half_gb
half_lane far near i [] b c d ha hb hc hd = absurd (omega arith)
half_lane far near i (x ∷ a) [] c d ha hb hc hd = absurd (omega arith)
half_lane far near i (x ∷ a) (y ∷ b) [] d ha hb hc hd = absurd (omega arith)
half_lane far near i (x ∷ a) (y ∷ b) (z ∷ c) [] ha hb hc hd = absurd (omega arith)
half_lane far near zero (x ∷ a) (y ∷ b) (z ∷ c) (w ∷ d) ha hb hc hd = refl
half_lane far near (suc i) (x ∷ a) (y ∷ b) (z ∷ c) (w ∷ d) ha hb hc hd =
    half_lane far near i a b c d (omega arith) (omega arith) (omega arith) (omega arith)

-- if a1, b1, c1, d1 are a, b, c, d after half a mix, half of GB on lane i of a, b, c, d is lane i of a1, b1, c1, d1
pub half_at : (far near i : ℕ) (a b c d a1 b1 c1 d1 : List ℕ) →
    a1 ≡ next_a a b → d1 ≡ next_d far d a1 → c1 ≡ next_a c d1 → b1 ≡ next_d near b c1 →
    i < 8 → length a ≡ 8 → length b ≡ 8 → length c ≡ 8 → length d1 ≡ 8 →
    half_gb far near (words i a b c d) ≡ words i a1 b1 c1 d1
half_at far near i a b c d a1 b1 c1 d1 ea ed ec eb h la lb lc ld =
    let ld' : length (next_d far d (next_a a b)) ≡ 8 = rw (ed, ea) at ld in
    rw (eb, ec, ed, ea) (half_lane far near i a b c d (omega arith) (omega arith) (omega arith) (omega arith))

-- GB on the words in lane i of four vectors is what lane i holds after both halves of GB
pub mix_at : (i : ℕ) (a b c d a1 b1 c1 d1 a2 b2 c2 d2 : List ℕ) →
    a1 ≡ next_a a b → d1 ≡ next_d 32 d a1 → c1 ≡ next_a c d1 → b1 ≡ next_d 24 b c1 →
    a2 ≡ next_a a1 b1 → d2 ≡ next_d 16 d1 a2 → c2 ≡ next_a c1 d2 → b2 ≡ next_d 63 b1 c2 →
    i < 8 → length a ≡ 8 → length b ≡ 8 → length c ≡ 8 → length d1 ≡ 8 → length a1 ≡ 8 → length b1 ≡ 8 → length c1 ≡ 8 → length d2 ≡ 8 →
    mix_gb (words i a b c d) ≡ words i a2 b2 c2 d2
unfolding mix_gb
mix_at i a b c d a1 b1 c1 d1 a2 b2 c2 d2 ea ed ec eb ea2 ed2 ec2 eb2 h la lb lc ld1 la1 lb1 lc1 ld2 =
    ap (half_gb 16 63) (half_at 32 24 i a b c d a1 b1 c1 d1 ea ed ec eb h la lb lc ld1)
    ∙ half_at 16 63 i a1 b1 c1 d1 a2 b2 c2 d2 ea2 ed2 ec2 eb2 h la1 lb1 lc1 ld2

-- ---- half a round and a whole one, in each lane

-- the words in lane i of the vectors of v with the numbers a, b, c and d
abbrev pub column_in_lane : ℕ → List (List ℕ) → ℕ → ℕ → ℕ → ℕ → Four
column_in_lane i v a b c d = words i (slice_index_or v a []) (slice_index_or v b []) (slice_index_or v c []) (slice_index_or v d [])

-- if lane i of a0 to d0 and of a1 to d1 is GB on the even and on the odd vectors of v, lane i of all eight is
-- `two_mixes` of lane i of v
pub two_mixes_at : (i : ℕ) (v : List (List ℕ)) (a0 a1 b0 b1 c0 c1 d0 d1 : List ℕ) → length v ≡ 8 →
    mix_gb (column_in_lane i v 0 2 4 6) ≡ words i a0 b0 c0 d0 →
    mix_gb (column_in_lane i v 1 3 5 7) ≡ words i a1 b1 c1 d1 →
    lane i (a0 ∷ a1 ∷ b0 ∷ b1 ∷ c0 ∷ c1 ∷ d0 ∷ d1 ∷ []) ≡ two_mixes (lane i v)
two_mixes_at i v a0 a1 b0 b1 c0 c1 d0 d1 l m0 m1 =
    rw (ap (λ (u : List (List ℕ)). two_mixes (lane i u)) (sym (pick_l_whole [] v 8 l)), m0, m1) refl

-- ---- half a round is two mixes of the vectors `firsts`, and two of the vectors `seconds`

abbrev pub firsts : List (List ℕ) → List (List ℕ)
firsts v = pick_l [] v (0 ∷ 1 ∷ 4 ∷ 5 ∷ 8 ∷ 9 ∷ 12 ∷ 13 ∷ [])

abbrev pub seconds : List (List ℕ) → List (List ℕ)
seconds v = pick_l [] v (2 ∷ 3 ∷ 6 ∷ 7 ∷ 10 ∷ 11 ∷ 14 ∷ 15 ∷ [])

-- pairs from two lists of eight, by turns
abbrev pub by_twos : {A : Type 0} → A → List A → List A → List A
by_twos d p q = pick_l d (pick_l d p (range_with_len 0 8) ++ pick_l d q (range_with_len 0 8))
    (0 ∷ 1 ∷ 8 ∷ 9 ∷ 2 ∷ 3 ∷ 10 ∷ 11 ∷ 4 ∷ 5 ∷ 12 ∷ 13 ∷ 6 ∷ 7 ∷ 14 ∷ 15 ∷ [])

-- lane i of `by_twos` of p and q is `by_twos` of lane i of p and lane i of q
lane_by_twos : (i : ℕ) (p q : List (List ℕ)) → length p ≡ 8 → length q ≡ 8 → lane i (by_twos [] p q) ≡ by_twos 0 (lane i p) (lane i q)
lane_by_twos i p q lp lq =
    by_elements [] 8 (λ p. lane i (by_twos [] p q) ≡ by_twos 0 (lane i p) (lane i q)) p lp
    (by_elements [] 8 (λ q. lane i (by_twos [] (pick_l [] p (range_with_len 0 8)) q) ≡ by_twos 0 (lane i (pick_l [] p (range_with_len 0 8)))
    (lane i q)) q lq refl)

-- GB on columns 0 and 1 of a lane's words, and on columns 2 and 3, is half a round of the lane
half_round_by_twos : (i : ℕ) (v : List (List ℕ)) → length v ≡ 16 →
    by_twos 0 (two_mixes (lane i (firsts v))) (two_mixes (lane i (seconds v))) ≡ half_round (lane i v)
half_round_by_twos i v l =
    by_elements [] 16 (λ v. by_twos 0 (two_mixes (lane i (firsts v))) (two_mixes (lane i (seconds v))) ≡ half_round (lane i v)) v l refl

-- if lane i of p is GB on columns 0 and 1, and lane i of q is GB on columns 2 and 3, then lane i of `by_twos`
-- of p and q is half a round of lane i
pub half_round_at : (i : ℕ) (v p q : List (List ℕ)) → length v ≡ 16 → length p ≡ 8 → length q ≡ 8 →
    lane i p ≡ two_mixes (lane i (firsts v)) → lane i q ≡ two_mixes (lane i (seconds v)) →
    lane i (by_twos [] p q) ≡ half_round (lane i v)
half_round_at i v p q lv lp lq ep eq =
    lane_by_twos i p q lp lq ∙ (ap (λ w. by_twos 0 w (lane i q)) ep
    ∙ (ap (λ w. by_twos 0 (two_mixes (lane i (firsts v))) w) eq ∙ half_round_by_twos i v lv))

-- ---- a round: the second half is the first half on words that are moved before, and moved back after

-- the indices that words come from: where diagonals become columns, and where these columns become diagonals again
abbrev pub places_across : List ℕ
places_across = 0 ∷ 1 ∷ 2 ∷ 3 ∷ 5 ∷ 6 ∷ 7 ∷ 4 ∷ 10 ∷ 11 ∷ 8 ∷ 9 ∷ 15 ∷ 12 ∷ 13 ∷ 14 ∷ []

abbrev pub places_back : List ℕ
places_back = 0 ∷ 1 ∷ 2 ∷ 3 ∷ 7 ∷ 4 ∷ 5 ∷ 6 ∷ 10 ∷ 11 ∷ 8 ∷ 9 ∷ 13 ∷ 14 ∷ 15 ∷ 12 ∷ []

-- P is half a round, and then half a round on the diagonals, which stand as columns and are then moved back
permute_halves : (w : List ℕ) → length w ≡ 16 → permute_p w ≡ pick_l 0 (half_round (pick_l 0 (half_round w) places_across)) places_back
unfolding permute_p
permute_halves w l = by_elements 0 16 (λ w. permute_p w ≡ pick_l 0 (half_round (pick_l 0 (half_round w) places_across)) places_back) w l refl

-- word i of vector k is word k of lane i
pub get_lane : (i k : ℕ) (v : List (List ℕ)) → slice_index (slice_index_or v k []) i ≡ slice_index (lane i v) k
get_lane zero k [] = refl
get_lane (suc i) k [] = refl
get_lane i zero (x ∷ v) = refl
get_lane i (suc k) (x ∷ v) = get_lane i k v

-- lane i of the vectors with the numbers ks is the words of lane i with the numbers ks
lane_picked : (i : ℕ) (v : List (List ℕ)) (ks : List ℕ) → lane i (pick_l [] v ks) ≡ pick_l 0 (lane i v) ks
lane_picked i v [] = refl
lane_picked i v (k ∷ ks) = rw (get_lane i k v) (ap (λ t. slice_index (lane i v) k ∷ t) (lane_picked i v ks))

-- a lane has one word of each vector
length_lane : (i : ℕ) (v : List (List ℕ)) → length (lane i v) ≡ length v
length_lane i [] = refl
length_lane i (x ∷ v) = ap suc (length_lane i v)

-- half a round of lane i, and half a round on its diagonals, moved back, are P on the lane
pub round_at : (i : ℕ) (v r q : List (List ℕ)) → length v ≡ 16 →
    lane i r ≡ half_round (lane i v) → lane i q ≡ half_round (lane i (pick_l [] r places_across)) →
    lane i (pick_l [] q places_back) ≡ permute_p (lane i v)
round_at i v r q l e f =
    lane_picked i q places_back
    ∙ (ap (λ t. pick_l 0 t places_back) (f ∙ ap half_round (lane_picked i r places_across ∙ ap (λ t. pick_l 0 t places_across) e))
    ∙ sym (permute_halves (lane i v) (length_lane i v ∙ l)))
