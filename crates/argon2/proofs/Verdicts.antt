-- Tags and verdicts.
use Rattle.std.proofs.Common.{◌≡◌, ℕ, Bool, true, false, List, [], ◌∷◌, length, Option, None, Some, Ok, Err, Result, refl, arith, sym, ◌∙◌, ap, zero}
use Rattle.std.proofs.Common.{suc, ◌<◌, ◌-◌, ◌*◌, ◌++◌, take}
use Rattle.std.specs.Prelude.{◌↔◌, IsNone, IsTrue, MatchResult, bit_or, bit_xor}
use Rattle.std.specs.List.{fold, zip}
use Rattle.std.specs.Int.Bits.{xor_assoc, xor_self, xor_zero_l, xor_zero_r}
use Rattle.std.proofs.lemmas.Nat.{le_or_l, le_or_r}
use Rattle.argon2_standard.specs.declared.config.Config.{Config}
use Rattle.argon2_standard.specs.declared.error.Error.{Error}
use Rattle.argon2_standard.specs.Standard.Outcome.{IsOutcome, IsResourceError, IsVerdict}
use Rattle.argon2_standard.specs.Standard.SettingsTable.{table_error}
use Rattle.argon2_standard.specs.Standard.Prehash.{prehash_of, setting_of}
use Rattle.argon2_standard.specs.Standard.Tag.{tag_from, tag_of}
use Rattle.argon2.specs.Theorems.Definitions.{LengthIsTheHash, OwnTagVerifies, TagForgetsMode}
use Rattle.argon2_standard.proofs.Settings.{length-hprime}
use Rattle.argon2.specs.Views.StoredHashes.{difference_of, IsStoredConfig}
use Rattle.std.specs.Int.{w32, w64, byte_at, bytes_low_first, to_le_bytes}
use Rattle.base64.specs.GeneralPurpose.{IsBytes}
use Rattle.argon2_blocks.specs.Standard.Word.{bytes_of}
use Rattle.argon2_blocks.specs.Standard.Blake2b.{blake2b, compress_f, last_block, message_words, state_after}
use Rattle.argon2_blocks.specs.Standard.Hprime.{chain_length, hash_chain, hprime}
use Rattle.argon2_blocks.proofs.Hashing.{hprime-hash_chain}
use Rattle.argon2_text.proofs.Items.{both_bytes, take_bytes}
use Rattle.argon2_standard.specs.Standard.Text.{Spelled, spelled_of}
use Rattle.argon2_standard.specs.Standard.Decoded.{decoded_config}
use Rattle.argon2.specs.Theorems.Texts.{HashedTextVerifies}
use Rattle.argon2.proofs.StoredHashes.{is_stored, verdict-same}
use Rattle.argon2.proofs.Texts.{spells_own_value}

-- ---- comparisons of a hash with a tag, verdicts, and the bytes of a tag

-- ---- comparing

-- numbers whose exclusive or is 0 are equal
equal_by_xor : (x y : ℕ) → bit_xor x y ≡ 0 → x ≡ y
equal_by_xor x y e =
    sym (xor_zero_r x) ∙ ap (λ n. bit_xor x n) (sym (xor_self y)) ∙ sym (xor_assoc x y y) ∙ ap (λ n. bit_xor n y) e ∙ xor_zero_l y

-- if d or-ed with all differences of two equally long lists is 0, d is 0 and the lists equal
no_difference : (d : ℕ) (xs ys : List ℕ) → length xs ≡ length ys →
    fold (λ difference (a, b). bit_or difference (bit_xor a b)) d (zip xs ys) ≡ 0 → (d ≡ 0) × (xs ≡ ys)
no_difference d [] [] h e = (e, refl)
no_difference d [] (y ∷ ys) h e = absurd (omega (arith, h))
no_difference d (x ∷ xs) [] h e = absurd (omega (arith, h))
no_difference d (x ∷ xs) (y ∷ ys) h e =
    let r = no_difference (bit_or d (bit_xor x y)) xs ys (omega (arith, h)) e in
    let left = le_or_l d (bit_xor x y) in
    let right = le_or_r d (bit_xor x y) in
    let same : x ≡ y = equal_by_xor x y (omega (arith, right, r.0)) in
    (omega (arith, left, r.0), ap (λ z. z ∷ xs) same ∙ ap (λ zs. y ∷ zs) r.1)

-- the difference of a list from itself is 0
difference-same : (xs : List ℕ) → difference_of xs xs ≡ 0
difference-same [] = refl
difference-same (x ∷ xs) = ap (λ n. fold (λ difference (a, b). bit_or difference (bit_xor a b)) (bit_or 0 n) (zip xs xs)) (xor_self x) ∙ difference-same xs

-- the difference of two equally long lists is 0 exactly if the lists are equal
pub difference-zero : (xs ys : List ℕ) → length xs ≡ length ys → (difference_of xs ys ≡ 0) ↔ (xs ≡ ys)
difference-zero xs ys h = ((λ e. (no_difference 0 xs ys h e).1), (λ e. ap (λ zs. difference_of xs zs) (sym e) ∙ difference-same xs))

-- ---- the verdict

-- an option that holds nothing equals None
none_is : {A : Type 0} (o : Option A) → IsNone o → o ≡ None
none_is None h = refl
none_is (Some x) h = absurd (let e : true ≡ false = h in cc)

-- the configuration's `hash_length` field does not change the tag
pub tag_of-hash_length : (pwd salt : List ℕ) (config : Config) (n len : ℕ)
    → tag_of pwd salt (record config { hash_length = n }) len ≡ tag_of pwd salt config len
unfolding tag_of setting_of prehash_of
tag_of-hash_length pwd salt config n len = refl

-- a verdict with `hash_length` set to the hash's length is also a verdict with the unchanged configuration
pub verdict_of_length : (pwd salt hash : List ℕ) (config : Config) (workers : Bool) (answer : Result Bool Error) →
    IsVerdict pwd salt hash (record config { hash_length = length hash }) workers answer → IsVerdict pwd salt hash config workers answer
unfolding table_error
verdict_of_length pwd salt hash config workers answer verdict = rw (tag_of-hash_length pwd salt config (length hash) (length hash)) at verdict

-- ---- theorems

-- the tag does not depend on the thread mode
pub tag_forgets_mode : TagForgetsMode
unfolding tag_of setting_of prehash_of
tag_forgets_mode pwd salt config mode len = refl

-- neither error nor tag depends on the configuration's own field for the hash length
pub length_is_the_hash : LengthIsTheHash
unfolding table_error
length_is_the_hash pwd salt config field len = (refl, tag_of-hash_length pwd salt config field len)

-- the tag for length len has length len
pub length-tag_of : (pwd salt : List ℕ) (config : Config) (len : ℕ) → length (tag_of pwd salt config len) ≡ len
unfolding tag_of tag_from
length-tag_of pwd salt config len = length-hprime len _

-- if the settings table rejects nothing and the tag is as expected, the answer is true or a resource error
accepted_verdict : (tag expected : List ℕ) (refusal : Option Error) (workers : Bool) (answer : Result Bool Error) → refusal ≡ None → tag ≡ expected →
    IsOutcome refusal workers (λ same. IsTrue same ↔ (tag ≡ expected)) answer → MatchResult answer (λ same. IsTrue same) (IsResourceError workers)
accepted_verdict tag expected None workers (Ok same) none e h = h.1 e
accepted_verdict tag expected None workers (Err error) none e h = h
accepted_verdict tag expected (Some r) workers answer none e h = absurd (cc)

-- the tag for length len has length len; with accepted settings, its verdict is true or a resource error
pub own_tag_verifies : OwnTagVerifies
own_tag_verifies pwd salt config len =
    let tag = tag_of pwd salt config len in
    let n = length-tag_of pwd salt config len in (
      n,
      λ accepted workers answer verdict. accepted_verdict tag (tag_of pwd salt config (length tag)) (table_error config (length pwd) (length salt)
          (length tag)) workers answer
          (ap (λ k. table_error config (length pwd) (length salt) k) n ∙ accepted) (ap (λ k. tag_of pwd salt config k) (sym n)) verdict,
    )

-- ---- hashes are bytes

-- the empty list is a list of bytes
none : IsBytes []
none i = omega arith

-- a number below 256 in front of a list of bytes gives a list of bytes
one_more : (x : ℕ) (xs : List ℕ) → x < 256 → IsBytes xs → IsBytes (x ∷ xs)
one_more x xs here rest zero = here
one_more x xs here rest (suc i) = rest i

-- the byte at any place of a number is below 256
byte_fits : (i n : ℕ) → byte_at i n < 256
byte_fits zero n = omega arith
byte_fits (suc i) n = omega arith

-- the k bytes of n from byte i on, low byte first, are a list of bytes
number_is_bytes : (i k n : ℕ) → IsBytes (bytes_low_first i k n)
number_is_bytes i zero n = none
number_is_bytes i (suc k) n = one_more (byte_at i n) (bytes_low_first (suc i) k n) (byte_fits i n) (number_is_bytes (suc i) k n)

-- the bytes of a list of words, word after word, are a list of bytes
words_are_bytes : (words : List ℕ) → IsBytes (bytes_of words)
unfolding bytes_of
words_are_bytes [] = none
words_are_bytes (w ∷ words) = both_bytes (to_le_bytes w64 w) (bytes_of words) (number_is_bytes 0 8 w) (words_are_bytes words)

-- a BLAKE2b hash of any length is a list of bytes
blake2b_is_bytes : (nn : ℕ) (message : List ℕ) → IsBytes (blake2b nn message)
unfolding blake2b
blake2b_is_bytes nn message =
    let before = state_after nn message (last_block message) in
    let state = compress_f before (message_words message (last_block message)) (length message) true in
    take_bytes nn (bytes_of state) (words_are_bytes state)

-- a hash chain with any n and any last length is a list of bytes
hash_chain_is_bytes : (n last : ℕ) (x : List ℕ) → IsBytes (hash_chain n last x)
unfolding hash_chain
hash_chain_is_bytes zero last x = blake2b_is_bytes last x
hash_chain_is_bytes (suc n) last x =
    let v = blake2b 64 x in
    both_bytes (take 32 v) (hash_chain n last v) (take_bytes 32 v (blake2b_is_bytes 64 x)) (hash_chain_is_bytes n last v)

-- the output of H' for any length is a list of bytes
hprime_is_bytes : (len : ℕ) (message : List ℕ) → IsBytes (hprime len message)
hprime_is_bytes len message =
    let r = chain_length len in
    rw (hprime-hash_chain len message) (hash_chain_is_bytes r (len - 32 * r) (to_le_bytes w32 len ++ message))

-- a tag of any length is a list of bytes
pub tag_is_bytes : (pwd salt : List ℕ) (config : Config) (len : ℕ) → IsBytes (tag_of pwd salt config len)
unfolding tag_of tag_from
tag_is_bytes pwd salt config len = hprime_is_bytes len _

-- ---- an encoded hash verifies

-- a tag's encoded hash, with accepted settings, decodes to a value whose verdict is true or a resource error
pub hashed_text_verifies : HashedTextVerifies
hashed_text_verifies pwd salt config len input accepted =
    let tag = tag_of pwd salt config len in
    let d : Spelled = spelled_of config salt tag in
    let own : IsStoredConfig d config.secret.now config.ad.now config =
    record { variant = refl; version = refl; mem_cost = refl; time_cost = refl; lanes = refl; secret = refl; ad = refl } in (
      d,
      spells_own_value d (record {
        mem_cost = input.mem_cost;
        time_cost = input.time_cost;
        parallelism = input.lanes;
        salt = input.salt;
        hash = tag_is_bytes pwd salt config len;
      }),
      λ workers answer verdict.
          (own_tag_verifies pwd salt config len).1 accepted workers answer
          (verdict-same d pwd config.secret.now config.ad.now (decoded_config d config.secret config.ad) config workers answer
          (is_stored d config.secret config.ad config.secret.now config.ad.now refl refl) own verdict),
    )
