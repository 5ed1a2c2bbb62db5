use Rattle.argon2_blocks.proofs.KnownAnswers.{compresses_one_bit, compresses_zeros, hashes_abc, hashes_nothing, hashes_to_100_bytes, hashes_to_16_bytes, hashes_two_blocks}
use Rattle.argon2_blocks.proofs.theorems.known_answers.Goals as goal

pub returns : goal.returns
returns c = record {
  abc = hashes_abc;
  nothing = hashes_nothing;
  two_blocks = hashes_two_blocks;
  short = hashes_to_16_bytes;
  long = hashes_to_100_bytes;
  zeros = compresses_zeros;
  one_bit = compresses_one_bit;
}
