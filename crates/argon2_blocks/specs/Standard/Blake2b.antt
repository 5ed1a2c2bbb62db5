-- BLAKE2b without a key (RFC 7693): the hash of a message, which is a list of bytes. Section
-- numbers and the letters in comments are the standard's.
use Rattle.std.specs.Prelude.{ℕ, zero, suc, ◌+◌, ◌-◌, ◌*◌, ◌/◌, ◌%◌, ◌^◌, Bool, true, false, if◌then◌else◌, List, [], ◌∷◌, ◌++◌, length, take, map}
use Rattle.std.specs.Prelude.{max, replicate, bit_xor, slice_index, slice_index_or, slice_set, slice_range}
use Rattle.std.specs.List.{fold, range_with_len, enumerate_from}
use Rattle.std.specs.Int.{w64, bit_not, div_ceil, rotate_right}
use Rattle.argon2_blocks.specs.Standard.Word.{add, words_of, bytes_of}

-- ---- constants

-- r: how many rounds F has (2.1)
abbrev pub round_count : ℕ
round_count = 12

-- bb: the bytes of a message block (2.1)
abbrev pub block_length : ℕ
block_length = 128

-- R1: by how many bits G rotates first (2.1)
abbrev pub r1 : ℕ
r1 = 32

-- R2: by how many it rotates second (2.1)
abbrev pub r2 : ℕ
r2 = 24

-- R3: by how many it rotates third (2.1)
abbrev pub r3 : ℕ
r3 = 16

-- R4: by how many it rotates last (2.1)
abbrev pub r4 : ℕ
r4 = 63

-- the parameter word without the hash length: no key, fanout 1 and depth 1 (2.5)
abbrev pub parameters : ℕ
parameters = 0x01010000

-- IV: the initialization vector (2.6)
abbrev pub iv : List ℕ
iv =
    0x6a09e667f3bcc908 ∷ 0xbb67ae8584caa73b ∷ 0x3c6ef372fe94f82b ∷ 0xa54ff53a5f1d36f1
    ∷ 0x510e527fade682d1 ∷ 0x9b05688c2b3e6c1f ∷ 0x1f83d9abfb41bd6b ∷ 0x5be0cd19137e2179 ∷ []

-- SIGMA: ten orders of the sixteen message words (2.7)
abbrev pub sigma : List (List ℕ)
sigma =
    (0 ∷ 1 ∷ 2 ∷ 3 ∷ 4 ∷ 5 ∷ 6 ∷ 7 ∷ 8 ∷ 9 ∷ 10 ∷ 11 ∷ 12 ∷ 13 ∷ 14 ∷ 15 ∷ [])
    ∷ (14 ∷ 10 ∷ 4 ∷ 8 ∷ 9 ∷ 15 ∷ 13 ∷ 6 ∷ 1 ∷ 12 ∷ 0 ∷ 2 ∷ 11 ∷ 7 ∷ 5 ∷ 3 ∷ [])
    ∷ (11 ∷ 8 ∷ 12 ∷ 0 ∷ 5 ∷ 2 ∷ 15 ∷ 13 ∷ 10 ∷ 14 ∷ 3 ∷ 6 ∷ 7 ∷ 1 ∷ 9 ∷ 4 ∷ [])
    ∷ (7 ∷ 9 ∷ 3 ∷ 1 ∷ 13 ∷ 12 ∷ 11 ∷ 14 ∷ 2 ∷ 6 ∷ 5 ∷ 10 ∷ 4 ∷ 0 ∷ 15 ∷ 8 ∷ [])
    ∷ (9 ∷ 0 ∷ 5 ∷ 7 ∷ 2 ∷ 4 ∷ 10 ∷ 15 ∷ 14 ∷ 1 ∷ 11 ∷ 12 ∷ 6 ∷ 8 ∷ 3 ∷ 13 ∷ [])
    ∷ (2 ∷ 12 ∷ 6 ∷ 10 ∷ 0 ∷ 11 ∷ 8 ∷ 3 ∷ 4 ∷ 13 ∷ 7 ∷ 5 ∷ 15 ∷ 14 ∷ 1 ∷ 9 ∷ [])
    ∷ (12 ∷ 5 ∷ 1 ∷ 15 ∷ 14 ∷ 13 ∷ 4 ∷ 10 ∷ 0 ∷ 7 ∷ 6 ∷ 3 ∷ 9 ∷ 2 ∷ 8 ∷ 11 ∷ [])
    ∷ (13 ∷ 11 ∷ 7 ∷ 14 ∷ 12 ∷ 1 ∷ 3 ∷ 9 ∷ 5 ∷ 0 ∷ 15 ∷ 4 ∷ 8 ∷ 6 ∷ 2 ∷ 10 ∷ [])
    ∷ (6 ∷ 15 ∷ 14 ∷ 9 ∷ 11 ∷ 3 ∷ 0 ∷ 8 ∷ 12 ∷ 2 ∷ 13 ∷ 7 ∷ 1 ∷ 4 ∷ 10 ∷ 5 ∷ [])
    ∷ (10 ∷ 2 ∷ 8 ∷ 4 ∷ 7 ∷ 6 ∷ 1 ∷ 5 ∷ 15 ∷ 11 ∷ 9 ∷ 14 ∷ 3 ∷ 12 ∷ 13 ∷ 0 ∷ []) ∷ []

-- ---- the mixing function G (3.1)

-- four words, or their places in a list (3.1)
pub record Four : Type 0 where
  pub a : ℕ
  pub b : ℕ
  pub c : ℕ
  pub d : ℕ

-- v[a], v[b], v[c] and v[d] (3.1)
abbrev pub words_at : List ℕ → Four → Four
words_at v at = record {
  a = slice_index v at.a;
  b = slice_index v at.b;
  c = slice_index v at.c;
  d = slice_index v at.d;
}

-- v with four words put at four places (3.1)
abbrev pub put_at : List ℕ → Four → Four → List ℕ
put_at v at w = slice_set (slice_set (slice_set (slice_set v at.a w.a) at.b w.b) at.c w.c) at.d w.d

-- one of the two halves of G, which differ in the message word and in the two rotations (3.1)
unfoldable pub half_g : ℕ → ℕ → ℕ → Four → Four
half_g far near x w =
    let a = add (add w.a w.b) x in
    let d = rotate_right w64 (bit_xor w.d a) far in
    let c = add w.c d in
    let b = rotate_right w64 (bit_xor w.b c) near in
    record { a = a; b = b; c = c; d = d }

-- G on four words, with the message words x and y (3.1)
unfoldable pub mix_g : ℕ → ℕ → Four → Four
mix_g x y w = half_g r3 r4 y (half_g r1 r2 x w)

-- ---- the compression function F (3.2)

-- the places a, b, c, d of the eight G of a round: four columns, and then four diagonals (3.2)
abbrev pub mix_places : List Four
mix_places =
    record { a = 0; b = 4; c = 8; d = 12 } ∷ record { a = 1; b = 5; c = 9; d = 13 }
    ∷ record { a = 2; b = 6; c = 10; d = 14 } ∷ record { a = 3; b = 7; c = 11; d = 15 }
    ∷ record { a = 0; b = 5; c = 10; d = 15 } ∷ record { a = 1; b = 6; c = 11; d = 12 }
    ∷ record { a = 2; b = 7; c = 8; d = 13 } ∷ record { a = 3; b = 4; c = 9; d = 14 } ∷ []

-- s: the order of the message words in round number i, SIGMA[i mod 10] (3.2)
abbrev pub sigma_row : ℕ → List ℕ
sigma_row i = slice_index_or sigma (i % 10) []

-- a round on v with the message words m in the order s: G number k, from 0, has m[s[2 k]] and
-- m[s[2 k + 1]] (3.2)
unfoldable pub round : List ℕ → List ℕ → List ℕ → List ℕ
round m v s =
    fold (λ v (k, at). put_at v at (mix_g
    (slice_index m (slice_index s (2 * k)))
    (slice_index m (slice_index s (2 * k + 1)))
    (words_at v at))) v (enumerate_from 0 mix_places)

-- v before the first round: h and IV. The count t of bytes goes into v[12] and v[13], low word
-- first, and for the last block all bits of v[14] are inverted (3.2).
unfoldable pub working_vector : List ℕ → ℕ → Bool → List ℕ
working_vector h t is_last =
    let v = h ++ iv in
    let v12 = slice_set v 12 (bit_xor (slice_index v 12) (t % 2 ^ 64)) in
    let v13 = slice_set v12 13 (bit_xor (slice_index v 13) (t / 2 ^ 64 % 2 ^ 64)) in
    if is_last then slice_set v13 14 (bit_not w64 (slice_index v 14)) else v13

-- F: the state h after a block of sixteen words m, where t is the number of message bytes so far, with
-- those of this block (3.2)
unfoldable pub compress_f : List ℕ → List ℕ → ℕ → Bool → List ℕ
compress_f h m t is_last =
    let start = working_vector h t is_last in
    let v = fold (λ v i. round m v (sigma_row i)) start (range_with_len 0 round_count) in
    map (λ i. bit_xor (bit_xor (slice_index h i) (slice_index v i)) (slice_index v (i + 8)))
    (range_with_len 0 8)

-- ---- the hash (3.3)

-- dd: how many blocks a message fills. The empty message fills one (3.3).
abbrev pub block_count : List ℕ → ℕ
block_count message = max 1 (div_ceil (length message) block_length)

-- d[i]: block number i, from 0, of the message, padded with zeros (3.3)
abbrev pub message_block : List ℕ → ℕ → List ℕ
message_block message i =
    slice_range (message ++ replicate block_length 0)
    (block_length * i) (block_length * i + block_length)

-- m: the sixteen words of block number i (3.2)
abbrev pub message_words : List ℕ → ℕ → List ℕ
message_words message i = words_of 16 (message_block message i)

-- h before the first block, for a hash of nn bytes (3.3)
abbrev pub initial_state : ℕ → List ℕ
initial_state nn = slice_set iv 0 (bit_xor (bit_xor (slice_index iv 0) parameters) nn)

-- h after the first n blocks, where more blocks follow (3.3)
unfoldable pub state_after : ℕ → List ℕ → ℕ → List ℕ
state_after nn message zero = initial_state nn
state_after nn message (suc n) =
    compress_f (state_after nn message n) (message_words message n) (block_length * (n + 1)) false

-- the number of the last block, dd - 1: there is always one (3.3)
abbrev pub last_block : List ℕ → ℕ
last_block message = block_count message - 1

-- the hash of nn bytes: the first nn bytes of h after the last block (3.3)
unfoldable pub blake2b : ℕ → List ℕ → List ℕ
blake2b nn message =
    let before = state_after nn message (last_block message) in
    let words = message_words message (last_block message) in
    take nn (bytes_of (compress_f before words (length message) true))
