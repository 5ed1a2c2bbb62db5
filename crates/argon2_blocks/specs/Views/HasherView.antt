-- What a hasher keeps of a message that comes in pieces.
use Rattle.std.specs.Prelude.{◌≡◌, ℕ, ◌+◌, ◌*◌, ◌%◌, ◌^◌, List, length, take, drop}
use Rattle.argon2_blocks.specs.Standard.Blake2b.{block_length, last_block, state_after}
use Rattle.argon2_blocks.specs.declared.blake2b.Hasher.{Hasher}

-- the hasher has taken in this message, for a hash of nn bytes: its state is that before the last
-- block, and its buffer has the bytes of the last block
pub record Holds (nn : ℕ) (message : List ℕ) (hasher : Hasher) : Type 0 where
  pub used_is : block_length * last_block message + hasher.used ≡ length message
  pub count_is : hasher.count ≡ length message % 2 ^ 128
  pub state_is : hasher.state ≡ state_after nn message (last_block message)
  pub rest_is : take hasher.used hasher.buffer ≡ drop (block_length * last_block message) message
