-- A block of Argon2's memory: 1024 bytes, as the list of its 128 words (RFC 9106, 3.2).
use Rattle.std.specs.Prelude.{ℕ, ◌/◌, List, map, replicate, bit_xor}
use Rattle.std.specs.List.{zip}
use Rattle.argon2_blocks.specs.Standard.Word.{word_size, words_of, bytes_of}

-- how many bytes a block has (RFC 9106, 3.2)
abbrev pub block_size : ℕ
block_size = 1024

-- how many words a block has (RFC 9106, 3.2)
abbrev pub words_in_block : ℕ
words_in_block = block_size / word_size

-- the block of zeros (RFC 9106, 3.4.1.2)
abbrev pub zero_block : List ℕ
zero_block = replicate words_in_block 0

-- XOR of two blocks, word by word (RFC 9106, 3.2)
unfoldable pub xor : List ℕ → List ℕ → List ℕ
xor x y = map (λ (a, b). bit_xor a b) (zip x y)

-- the block with these 1024 bytes (RFC 9106, 3.2)
abbrev pub block_of_bytes : List ℕ → List ℕ
block_of_bytes bytes = words_of words_in_block bytes

-- the 1024 bytes of a block (RFC 9106, 3.2)
abbrev pub block_bytes : List ℕ → List ℕ
block_bytes block = bytes_of block
