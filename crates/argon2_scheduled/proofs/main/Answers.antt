use Rattle.std.proofs.Common.{◌≡◌, ◌∙◌, ℕ, List, length, refl, arith}
use Rattle.std.specs.Fmt.{digits}
use Rattle.argon2_standard.specs.declared.variant.Variant.TheVariants.{Argon2id}
use Rattle.argon2_standard.specs.declared.version.Version.TheVariants.{Version13}
use Rattle.argon2_standard.specs.Standard.Text.{text_of}
use Rattle.argon2_text.proofs.Items.{length-base64}
use Rattle.argon2_text.proofs.Writing.{length-text_of}
use Rattle.argon2_scheduled.proofs.main.Goals as goal

-- at these settings, the encoded hash of a tag of 32 bytes with 16 bytes of salt has 94 bytes
text_length : (salt tag : List ℕ) → length salt ≡ 16 → length tag ≡ 32 → length (text_of (record {
  variant = Argon2id;
  version = Version13;
  mem_cost = 32;
  time_cost = 3;
  parallelism = 4;
  salt = salt;
  hash = tag;
})) ≡ 94
unfolding digits
text_length salt tag s t = length-text_of _ ∙ (rw (length-base64 salt, s, length-base64 tag, t) refl)

pub hash_encoded_by_value-text-requires-after_bounds : goal.hash_encoded_by_value-text-requires-after_bounds
hash_encoded_by_value-text-requires-after_bounds g c κs =
    (omega arith, (omega arith, (omega arith, (omega arith, (omega arith, (omega arith, λ s a _ _ tag long. text_length _ tag refl long))))))
