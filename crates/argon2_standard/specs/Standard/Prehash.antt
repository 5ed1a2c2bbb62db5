-- H0: the hash of all inputs, from which the blocks begin (RFC 9106, 3.2, step 1).
use Rattle.std.specs.Prelude.{ℕ, ◌*◌, ◌/◌, List, ◌++◌, length}
use Rattle.std.specs.Int.{w32, to_le_bytes}
use Rattle.argon2_blocks.specs.Standard.Blake2b.{blake2b}
use Rattle.argon2_standard.specs.declared.config.Config.{Config}
use Rattle.argon2_standard.specs.Standard.Setting.{Setting, slices_in_lane}
use Rattle.argon2_standard.specs.Standard.Variant.{variant_number}
use Rattle.argon2_standard.specs.Standard.Version.{version_number}

-- LE32: a number in four bytes, the lowest first (RFC 9106, 2)
abbrev pub le32 : ℕ → List ℕ
le32 n = to_le_bytes w32 n

-- the length of the bytes, and then the bytes (RFC 9106, 3.2)
abbrev pub with_length : List ℕ → List ℕ
with_length bytes = le32 (length bytes) ++ bytes

-- the bytes that H0 is the hash of, for a hash of len bytes (RFC 9106, 3.2)
abbrev pub hashed_inputs : List ℕ → List ℕ → Config → ℕ → List ℕ
hashed_inputs pwd salt config len =
    le32 config.lanes ++ le32 len ++ le32 config.mem_cost ++ le32 config.time_cost
    ++ le32 (version_number config.version) ++ le32 (variant_number config.variant)
    ++ with_length pwd ++ with_length salt ++ with_length config.secret.now ++ with_length config.ad.now

-- how many bytes H0 has (RFC 9106, 3.2)
abbrev pub prehash_length : ℕ
prehash_length = 64

-- H0, for a hash of len bytes (RFC 9106, 3.2)
unfoldable pub prehash_of : List ℕ → List ℕ → Config → ℕ → List ℕ
prehash_of pwd salt config len = blake2b prehash_length (hashed_inputs pwd salt config len)

-- the setting of a call: a segment is the memory cost divided by the number of segments, rounded
-- down (RFC 9106, 3.2)
unfoldable pub setting_of : List ℕ → List ℕ → Config → ℕ → Setting
setting_of pwd salt config len = record {
  prehash = prehash_of pwd salt config len;
  variant = config.variant;
  version = config.version;
  lanes = config.lanes;
  segment_length = config.mem_cost / (slices_in_lane * config.lanes);
  passes = config.time_cost;
}
