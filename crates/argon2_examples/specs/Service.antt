-- What the service keeps of a password.
use Rattle.std.specs.Prelude.{◌≡◌, ℕ, List, length}
use Rattle.argon2_standard.specs.declared.config.Config.{Config}
use Rattle.argon2_standard.specs.Standard.Tag.{tag_of}
use Rattle.argon2_standard.specs.Standard.Text.{spelled_of, text_of}

-- the text of a password's tag, with a salt of 16 bytes
pub record IsTextOf (password : List ℕ) (config : Config) (text : List ℕ) : Type 0 where
  pub salt : List ℕ
  pub salt_length : length salt ≡ 16
  pub written : text ≡ text_of (spelled_of config salt (tag_of password salt config config.hash_length))
