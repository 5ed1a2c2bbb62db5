-- Both sides of each equation compute to the same value.
use Rattle.std.proofs.Common.{refl}
use Rattle.argon2_blocks.specs.Standard.Block.{xor}
use Rattle.argon2_blocks.specs.Standard.Compression.{add_product, block_of_registers, compress_g, half_gb, mix_gb, permute_p, permute_rows}
use Rattle.argon2_blocks.specs.Standard.Compression.{registers_of, transpose}
use Rattle.argon2_standard.specs.Standard.Reference.{pick, reference_set}
use Rattle.argon2_standard.specs.Standard.Recurrence.{address_word}
use Rattle.argon2.proofs.theorems.known_answers.Goals as goal

pub returns : goal.returns
unfolding reference_set pick address_word compress_g permute_rows transpose registers_of block_of_registers permute_p mix_gb half_gb add_product xor
returns c = record {
  first_slice = refl;
  first_pass = refl;
  first_pass_other_lane = refl;
  first_pass_first_index = (refl, refl);
  later_pass = refl;
  later_pass_last_slice = refl;
  later_pass_other_lane = refl;
  later_pass_first_index = refl;
  picks_ends = (refl, refl);
  draws_word = refl;
}
