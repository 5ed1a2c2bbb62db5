-- Words of 64 bits and their bytes (RFC 7693, 2.1 to 2.4). A word is a number below 2 ^ 64, a byte
-- is one below 256. The standards' ^ is `bit_xor`, and their >>> is `rotate_right w64`.
use Rattle.std.specs.Prelude.{ℕ, ◌+◌, ◌*◌, ◌/◌, ◌%◌, ◌^◌, List, map, slice_range}
use Rattle.std.specs.List.{range_with_len, flat_map}
use Rattle.std.specs.Int.{w64, from_le_bytes, to_le_bytes}

-- how many bytes a word has (RFC 7693, 2.1)
abbrev pub word_size : ℕ
word_size = 8

-- the sum of two words, modulo 2 ^ 64 (RFC 7693, 2.3)
abbrev pub add : ℕ → ℕ → ℕ
add x y = (x + y) % 2 ^ 64

-- trunc: the 32 lower bits of a word (RFC 9106, 3.6)
abbrev pub low_half : ℕ → ℕ
low_half x = x % 2 ^ 32

-- the 32 upper bits of a word (RFC 9106, 3.4.1)
abbrev pub high_half : ℕ → ℕ
high_half x = x / 2 ^ 32

-- the first n words in a list of bytes, each with its lowest byte first (RFC 7693, 2.4)
unfoldable pub words_of : ℕ → List ℕ → List ℕ
words_of n bytes =
    map (λ i. from_le_bytes w64 (slice_range bytes (word_size * i) (word_size * i + word_size)))
    (range_with_len 0 n)

-- the bytes of all words in order, the lowest byte of each first (RFC 7693, 2.4)
unfoldable pub bytes_of : List ℕ → List ℕ
bytes_of words = flat_map (to_le_bytes w64) words
