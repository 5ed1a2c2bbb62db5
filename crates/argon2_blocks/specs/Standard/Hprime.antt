-- H', the hash function of variable length (RFC 9106, 3.3). The letters in comments are the
-- standard's.
use Rattle.std.specs.Prelude.{ℕ, zero, suc, ◌-◌, ◌*◌, if◌then◌else◌, nat_le, List, ◌++◌, take}
use Rattle.std.specs.Int.{w32, div_ceil, to_le_bytes}
use Rattle.argon2_blocks.specs.Standard.Blake2b.{blake2b}

-- how many bytes each V but the last has (3.3)
abbrev pub whole_length : ℕ
whole_length = 64

-- how many bytes each W has, the first half of a V (3.3)
abbrev pub half_length : ℕ
half_length = 32

-- W 1, .., W n and then V (n + 1), of `last` bytes, joined. V 1 is the hash of `before`, and each
-- further V is the hash of the previous V (3.3).
unfoldable pub hash_chain : ℕ → ℕ → List ℕ → List ℕ
hash_chain zero last before = blake2b last before
hash_chain (suc n) last before =
    let v = blake2b whole_length before in take half_length v ++ hash_chain n last v

-- r, how many W a hash of more than 64 bytes has: at least 1 (3.3)
abbrev pub chain_length : ℕ → ℕ
chain_length len = div_ceil len half_length - 2

-- H' of len bytes, where len is T and the message is A. Up to 64 bytes, H' is one hash of LE32(T)
-- and A. Longer ones are W 1, .., W r, and then V (r + 1), the remaining 33 to 64 bytes (3.3).
unfoldable pub hprime : ℕ → List ℕ → List ℕ
hprime len message =
    let input = to_le_bytes w32 len ++ message in
    if nat_le len whole_length then blake2b len input
    else (let r = chain_length len in hash_chain r (len - half_length * r) input)
