use Rattle.argon2.proofs.Texts.{head_has_items, spells_one, is_joined_items, spells_example, spells_own_value, writes_example}
use Rattle.argon2.proofs.Verdicts.{hashed_text_verifies, length_is_the_hash, own_tag_verifies, tag_forgets_mode}
use Rattle.argon2.proofs.theorems.laws.Goals as goal

pub returns : goal.returns
returns c = record {
  mode = tag_forgets_mode;
  length = length_is_the_hash;
  own_tag = own_tag_verifies;
  one_value = spells_one;
  own_value = spells_own_value;
  own_text = hashed_text_verifies;
  items = is_joined_items;
  marks = head_has_items;
  written = writes_example;
  spelled = spells_example;
}
