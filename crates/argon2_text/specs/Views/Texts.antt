-- What the contracts of reading and writing see of the code's values.
use Rattle.std.specs.Prelude.{◌≡◌, ℕ, List, [], ◌++◌, Option, codes, length, option_map}
use Rattle.std.specs.Fmt.{decimal}
use Rattle.std.specs.Borrow.{Bor}
use Rattle.argon2_text.specs.declared.encoding.reading.Pieces.{Pieces as PiecesInText}
use Rattle.argon2_text.specs.declared.encoding.reading.Head.{Head}
use Rattle.argon2_text.specs.declared.decoded.Decoded.{Decoded}
use Rattle.argon2_text.specs.declared.numbers.Numbers.{Numbers}
use Rattle.argon2_standard.specs.declared.config.Config.{Config}
use Rattle.argon2_standard.specs.Standard.Variant.{lowercase_name}
use Rattle.argon2_standard.specs.Standard.Version.{version_text}
use Rattle.argon2_standard.specs.Standard.Grammar.{Pieces, IsHead, IsItem, Spells}
use Rattle.argon2_text.specs.Views.Faults.{IsSplit}
use Rattle.argon2_standard.specs.Standard.Text.{Spelled}

-- a decoded value, without its place in memory
abbrev pub spelled_by : Decoded → Spelled
spelled_by d = record {
  variant = d.variant;
  version = d.version;
  mem_cost = d.mem_cost;
  time_cost = d.time_cost;
  parallelism = d.parallelism;
  salt = d.salt.items;
  hash = d.hash.items;
}

-- a value with the lengths of its salt and its hash in place of their bytes
abbrev pub numbers_of : Spelled → Numbers
numbers_of d = record {
  variant = d.variant;
  version = d.version;
  mem_cost = d.mem_cost;
  time_cost = d.time_cost;
  parallelism = d.parallelism;
  salt_len = length d.salt;
  hash_len = length d.hash;
}

-- the encoded hash up to the salt
abbrev pub front_of : Config → List ℕ
front_of c =
    codes "$" ++ lowercase_name c.variant ++ codes "$v=" ++ version_text c.version ++ codes "$m=" ++ decimal c.mem_cost
    ++ codes ",t=" ++ decimal c.time_cost ++ codes ",p=" ++ decimal c.lanes ++ codes "$"

-- two parts of a string
abbrev pub two_texts : Bor (List ℕ) × Bor (List ℕ) → List ℕ × List ℕ
two_texts x = (x.0.now, x.1.now)

-- the version, which may be missing
abbrev pub version_text_of : Option (Bor (List ℕ)) → Option (List ℕ)
version_text_of version = option_map (λ x. x.now) version

abbrev pub version_and_rest : Option (Bor (List ℕ)) × Bor (List ℕ) → Option (List ℕ) × List ℕ
version_and_rest x = (version_text_of x.0, x.1.now)

abbrev pub pieces_view : PiecesInText → Pieces
pieces_view p = record {
  name = p.name.now;
  version = version_text_of p.version;
  memory = p.memory.now;
  time = p.time.now;
  lanes = p.lanes.now;
  salt = p.salt.now;
  hash = p.hash.now;
}

-- what the head of a string decodes to with this salt and this hash
abbrev pub spelled_with : Head → List ℕ → List ℕ → Spelled
spelled_with h salt hash = record {
  variant = h.variant;
  version = h.version;
  mem_cost = h.mem_cost;
  time_cost = h.time_cost;
  parallelism = h.parallelism;
  salt = salt;
  hash = hash;
}

-- the same with an empty salt and hash
abbrev pub settings_of : Head → Spelled
settings_of h = spelled_with h [] []

-- h is the head of the string, with the salt and the hash as they are written there
pub record IsHeadOf (text : List ℕ) (h : Head) : Type 0 where
  pub pieces : Pieces
  pub cut : IsSplit text pieces
  pub head : IsHead pieces (settings_of h)
  pub salt : pieces.salt ≡ h.salt.now
  pub hash : pieces.hash ≡ h.hash.now

-- h is the head of a string that decodes to a value with this salt and this hash
pub record IsSpelledBy (text : List ℕ) (h : Head) (salt hash : List ℕ) : Type 0 where
  pub spells : Spells text (spelled_with h salt hash)
  pub salt_item : IsItem h.salt.now salt
  pub hash_item : IsItem h.hash.now hash

abbrev pub IsSpellingOf : List ℕ → Head → Type 0
IsSpellingOf text h = (salt : List ℕ) × (hash : List ℕ) × IsSpelledBy text h salt hash
