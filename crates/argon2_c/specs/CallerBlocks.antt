-- The results of calls that compute a whole hash over caller-provided blocks. On an error the
-- blocks and the tag are unchanged.
use Rattle.std.specs.Prelude.{◌≡◌, ℕ, ◌*◌, ◌/◌, List, length, Option, Some, None, Result, Ok, Err}
use Rattle.argon2_standard.specs.declared.config.Config.{Config}
use Rattle.argon2_standard.specs.declared.error.Error.{Error}
use Rattle.argon2_standard.specs.Standard.Setting.{Setting, memory_blocks}
use Rattle.argon2_standard.specs.Standard.SettingsTable.{min_salt_length, table_error}
use Rattle.argon2_standard.specs.Standard.Tag.{last_blocks, tag_from, tag_of}
use Rattle.argon2_c.specs.Answers.{OrError, Tells}
use Rattle.argon2_c.specs.declared.errors.CallError.{CallError}
use Rattle.argon2_c.specs.declared.errors.CallError.TheVariants.{Library, NoJob, WrongBlocks, WrongLength}

-- ---- how many blocks

-- m': the blocks of a configuration (RFC 9106, 3.2)
abbrev pub blocks_of : Config → ℕ
blocks_of config = 4 * config.lanes * (config.mem_cost / (4 * config.lanes))

-- the bytes of these blocks, or 0 if no inputs make a call with these settings valid
abbrev pub unless_error : Option Error → ℕ → ℕ
unless_error (Some e) len = 0
unless_error None len = len

abbrev pub memory_len_of : Result Config Error → ℕ
memory_len_of (Err e) = 0
memory_len_of (Ok config) = unless_error (table_error config 0 min_salt_length config.hash_length) (1024 * blocks_of config)

-- ---- hashing

-- the blocks that C provides, and the buffer of the tag
pub record BlocksAndTag : Type 0 where
  pub blocks : List (List ℕ)
  pub tag : List ℕ

-- the tag, over exactly so many blocks, in a buffer of len bytes
pub record HashesInto (blocks len : ℕ) (tag : List ℕ) (old new : BlocksAndTag) (answer : Result (Unit {0}) CallError) : Type 0 where
  pub wrong_blocks : (length old.blocks ≡ blocks → ⊥) → (answer ≡ Err WrongBlocks) × (new ≡ old)
  pub wrong_length : length old.blocks ≡ blocks → (length old.tag ≡ len → ⊥) → (answer ≡ Err WrongLength) × (new ≡ old)
  pub hashed : length old.blocks ≡ blocks → length old.tag ≡ len → (answer ≡ Ok tt) × (new.tag ≡ tag)

-- the tag of a password; the errors of the settings come first
abbrev pub HashesOver : Result Config Error → List ℕ → List ℕ → BlocksAndTag → BlocksAndTag → Result (Unit {0}) CallError → Type 0
HashesOver (Err e) pwd salt old new answer = (answer ≡ Err (Library e)) × (new ≡ old)
HashesOver (Ok config) pwd salt old new answer =
    OrError (table_error config (length pwd) (length salt) config.hash_length) old new answer
    (HashesInto (blocks_of config) config.hash_length (tag_of pwd salt config config.hash_length) old new answer)

-- the tag of a job
abbrev pub HashesJob : Option Setting → ℕ → BlocksAndTag → BlocksAndTag → Result (Unit {0}) CallError → Type 0
HashesJob None len old new answer = (answer ≡ Err NoJob) × (new ≡ old)
HashesJob (Some s) len old new answer = HashesInto (memory_blocks s) len (tag_from (last_blocks s) len) old new answer

-- ---- verifying

-- whether a hash is the tag, which is then in the `tag` buffer
pub record JudgesInto (blocks len : ℕ) (tag hash : List ℕ) (old new : BlocksAndTag) (answer : Result (Unit {0}) CallError) : Type 0 where
  pub wrong_blocks : (length old.blocks ≡ blocks → ⊥) → (answer ≡ Err WrongBlocks) × (new ≡ old)
  pub wrong_length : length old.blocks ≡ blocks → ((length hash ≡ len) × (length old.tag ≡ len) → ⊥) → (answer ≡ Err WrongLength) × (new ≡ old)
  pub judged : length old.blocks ≡ blocks → length hash ≡ len → length old.tag ≡ len → Tells (hash ≡ tag) answer × (new.tag ≡ tag)

-- whether a hash is the tag, computed with the length of that hash
abbrev pub JudgesOver : Result Config Error → List ℕ → List ℕ → List ℕ → BlocksAndTag → BlocksAndTag → Result (Unit {0}) CallError → Type 0
JudgesOver (Err e) pwd salt hash old new answer = (answer ≡ Err (Library e)) × (new ≡ old)
JudgesOver (Ok config) pwd salt hash old new answer =
    OrError (table_error config (length pwd) (length salt) (length hash)) old new answer
    (JudgesInto (blocks_of config) (length hash) (tag_of pwd salt config (length hash)) hash old new answer)

-- whether a hash is the tag of a job
abbrev pub JudgesJob : Option Setting → ℕ → List ℕ → BlocksAndTag → BlocksAndTag → Result (Unit {0}) CallError → Type 0
JudgesJob None len hash old new answer = (answer ≡ Err NoJob) × (new ≡ old)
JudgesJob (Some s) len hash old new answer = JudgesInto (memory_blocks s) len (tag_from (last_blocks s) len) hash old new answer
