-- A round of BLAKE2b in two halves, as the code goes through it, and the end of F.
use Rattle.std.specs.Prelude.{ℕ, ◌+◌, ◌*◌, List, map, take, drop, bit_xor, slice_index}
use Rattle.std.specs.List.{fold, enumerate_from, range_with_len}
use Rattle.argon2_blocks.specs.Standard.Blake2b.{mix_g, mix_places, put_at, words_at}

-- four G of a round in turn, from number `first` on: 0 for the columns, 4 for the diagonals
abbrev pub half_of_round : List ℕ → List ℕ → List ℕ → ℕ → List ℕ
half_of_round m v s first =
    fold (λ v (k, at). put_at v at (mix_g
    (slice_index m (slice_index s (2 * k)))
    (slice_index m (slice_index s (2 * k + 1)))
    (words_at v at))) v (take 4 (drop first (enumerate_from 0 mix_places)))

-- the state after the rounds: each word of h is combined by XOR with two words of v
abbrev pub next_state : List ℕ → List ℕ → List ℕ
next_state h v =
    map (λ i. bit_xor (bit_xor (slice_index h i) (slice_index v i)) (slice_index v (i + 8)))
    (range_with_len 0 8)
