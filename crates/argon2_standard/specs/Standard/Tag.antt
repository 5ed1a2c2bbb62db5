-- The tag: the hash of the last blocks of all lanes, combined (RFC 9106, 3.2, steps 7 and 8).
use Rattle.std.specs.Prelude.{ℕ, ◌-◌, List, map}
use Rattle.std.specs.List.{fold, range_with_len}
use Rattle.argon2_blocks.specs.Standard.Block.{xor, zero_block, block_bytes}
use Rattle.argon2_blocks.specs.Standard.Hprime.{hprime}
use Rattle.argon2_standard.specs.declared.config.Config.{Config}
use Rattle.argon2_standard.specs.Standard.Setting.{Setting, lane_length}
use Rattle.argon2_standard.specs.Standard.Prehash.{setting_of}
use Rattle.argon2_standard.specs.Standard.Recurrence.{block_at}

-- the last block of each lane after the last pass
abbrev pub last_blocks : Setting → List (List ℕ)
last_blocks s = map (λ lane. block_at s (record { pass = s.passes - 1; lane = lane; column = lane_length s - 1 }))
    (range_with_len 0 s.lanes)

-- the tag of len bytes that these blocks give
unfoldable pub tag_from : List (List ℕ) → ℕ → List ℕ
tag_from blocks len = hprime len (block_bytes (fold xor zero_block blocks))

-- the tag of len bytes of a password, a salt and a configuration (RFC 9106, 3.2)
unfoldable pub tag_of : List ℕ → List ℕ → Config → ℕ → List ℕ
tag_of pwd salt config len = tag_from (last_blocks (setting_of pwd salt config len)) len
