-- The definitions give the answers that are known from outside (`specs/Theorems/KnownAnswers`).
use Rattle.std.proofs.Common.{refl}
use Rattle.argon2_blocks.specs.Standard.Word.{words_of, bytes_of}
use Rattle.argon2_blocks.specs.Standard.Blake2b.{blake2b, compress_f, half_g, mix_g, round, state_after, working_vector}
use Rattle.argon2_blocks.specs.Standard.Hprime.{hash_chain, hprime}
use Rattle.argon2_blocks.specs.Standard.Block.{xor}
use Rattle.argon2_blocks.specs.Standard.Compression.{add_product, block_of_registers, compress_g, half_gb, mix_gb, permute_p, permute_rows}
use Rattle.argon2_blocks.specs.Standard.Compression.{registers_of, transpose}
use Rattle.argon2_blocks.specs.Theorems.KnownAnswers.{CompressesOneBit, CompressesZeros, HashesAbc, HashesNothing, HashesTo100Bytes, HashesTo16Bytes}
use Rattle.argon2_blocks.specs.Theorems.KnownAnswers.{HashesTwoBlocks}

-- BLAKE2b of `abc` is the hash in RFC 7693, appendix A
pub hashes_abc : HashesAbc
unfolding blake2b state_after compress_f working_vector round mix_g half_g words_of bytes_of
hashes_abc = refl

-- BLAKE2b of the empty message is the hash that Python's hashlib gives
pub hashes_nothing : HashesNothing
unfolding blake2b state_after compress_f working_vector round mix_g half_g words_of bytes_of
hashes_nothing = refl

-- BLAKE2b of the 129 bytes 0, 1, .., 128 is the hash that Python's hashlib gives
pub hashes_two_blocks : HashesTwoBlocks
unfolding blake2b state_after compress_f working_vector round mix_g half_g words_of bytes_of
hashes_two_blocks = refl

-- H' of `abc` to 16 bytes is the hash that a Python program over hashlib gives
pub hashes_to_16_bytes : HashesTo16Bytes
unfolding hprime hash_chain blake2b state_after compress_f working_vector round mix_g half_g words_of bytes_of
hashes_to_16_bytes = refl

-- H' of `abc` to 100 bytes is the hash that a Python program over hashlib gives
pub hashes_to_100_bytes : HashesTo100Bytes
unfolding hprime hash_chain blake2b state_after compress_f working_vector round mix_g half_g words_of bytes_of
hashes_to_100_bytes = refl

-- Argon2's G of two blocks of zeros is a block of zeros
pub compresses_zeros : CompressesZeros
unfolding compress_g permute_rows transpose registers_of block_of_registers permute_p mix_gb half_gb add_product xor
compresses_zeros = refl

-- Argon2's G of a block with one bit set and a block of zeros is the block that a Python program gives
pub compresses_one_bit : CompressesOneBit
unfolding compress_g permute_rows transpose registers_of block_of_registers permute_p mix_gb half_gb add_product xor
compresses_one_bit = refl
