-- Settings that are accepted, and how long hashes are.
use Rattle.std.proofs.Common.{◌≡◌, ℕ, ◌*◌, ◌/◌, ◌^◌, ◌<◌, ◌≤◌, Bool, true, false, ltb, List, [], ◌∷◌, length, refl, arith, cond, inl, inr, ◌∙◌, ap}
use Rattle.std.proofs.Common.{◌++◌, append_assoc, append-nil, zero, suc, ◌+◌, ◌-◌}
use Rattle.std.specs.Prelude.{◌==◌, IsNone, min, ⊤}
use Rattle.std.specs.Int.{w32, to_le_bytes}
use Rattle.std.proofs.lemmas.Bool.{ltb-false, cases_lt, le-leb, lt-leb}
use Rattle.std.proofs.Math.Nat.{div-lt_iff_lt-mul, le-min, min-le_left}
use Rattle.std.proofs.lemmas.Bool.Decides.{eqb_tells}
use Rattle.argon2_standard.specs.declared.config.Config.{Config}
use Rattle.argon2_standard.specs.declared.thread_mode.ThreadMode.{ThreadMode}
use Rattle.argon2_standard.specs.declared.thread_mode.ThreadMode.TheVariants.{Sequential, Parallel, AtMost}
use Rattle.argon2_standard.specs.Standard.ThreadModes.{fills_alone}
use Rattle.argon2_standard.specs.Views.Presets.{worker_count, workers_of}
use Rattle.argon2_standard.specs.declared.error.Error.{Error}
use Rattle.argon2_standard.specs.Standard.Prehash.{le32, hashed_inputs}
use Rattle.argon2_standard.specs.Standard.Variant.{variant_number}
use Rattle.argon2_standard.specs.Standard.Version.{version_number}
use Rattle.argon2_standard.specs.Standard.SettingsTable.{first_that_applies, max_lanes, max_length, table_error, settings_table}
use mir.Val.{Fits}
use Rattle.std.proofs.lemmas.List.{length-append, length-map, length-take}
use Rattle.argon2_blocks.specs.Standard.Word.{bytes_of}
use Rattle.argon2_blocks.specs.Standard.Blake2b.{blake2b, compress_f, last_block, message_words, state_after}
use Rattle.argon2_blocks.specs.Standard.Hprime.{chain_length, hash_chain, hprime}
use Rattle.argon2_blocks.proofs.Hashing.{hprime-hash_chain}
use Rattle.argon2_blocks.proofs.WordLists.{length-bytes_of}

-- ---- what accepted settings keep to, and what H0 is the hash of

-- no row of a table has a condition that holds
abbrev NoneApplies : List (Bool × Error) → Type 0
NoneApplies [] = ⊤
NoneApplies ((applies, refusal) ∷ rows) = (applies ≡ false) × NoneApplies rows

-- where a table rejects nothing, none of its rows applies
none_applies : (rows : List (Bool × Error)) → IsNone (first_that_applies rows) → NoneApplies rows
none_applies [] h = tt
none_applies ((true, refusal) ∷ rows) h = absurd (let e : true ≡ false = h in cc)
none_applies ((false, refusal) ∷ rows) h = (refl, none_applies rows h)

-- a number for which `== 0` is false is greater than 0
some : (n : ℕ) → (n == 0) ≡ false → 0 < n
some n h = elim (eqb_tells n 0) [ inl w ↦ absurd (cc (w.0)) | inr w ↦ omega (arith, w.1) ]

pub record AreAccepted (config : Config) (salt_len hash_len : ℕ) : Type 0 where
  pub some_lane : 0 < config.lanes
  pub few_lanes : config.lanes ≤ max_lanes
  pub much : 8 * config.lanes ≤ config.mem_cost
  pub some_pass : 0 < config.time_cost
  pub salt_fits : salt_len ≤ max_length
  pub hash_suffices : 4 ≤ hash_len
  pub hash_fits : hash_len ≤ max_length

-- if the settings table has no error, lanes, memory, passes, salt length and hash length are within bounds
pub accepted : (config : Config) (p s h : ℕ) → IsNone (table_error config p s h) → AreAccepted config s h
unfolding table_error
accepted config p s h none =
    let (lanes, (many, (memory, (passes, (_, (_, (salt, (_, (_, (short, (long, _))))))))))) = none_applies (settings_table config p s h) none in
    record {
      some_lane = some config.lanes lanes;
      few_lanes = ltb-false max_lanes config.lanes many;
      much = ltb-false config.mem_cost (8 * config.lanes) memory;
      some_pass = some config.time_cost passes;
      salt_fits = ltb-false max_length s salt;
      hash_suffices = ltb-false h 4 short;
      hash_fits = ltb-false max_length h long;
    }

-- a length for which the test of being too great is false fits 32 bits
length_fits : (n : ℕ) → ltb max_length n ≡ false → Fits w32 n
length_fits n e = let few = ltb-false max_length n e in record { fits = omega arith }

-- if the settings table has no error, the lengths of password, salt, secret and associated data fit 32 bits
pub inputs_fit : (config : Config) (p s h : ℕ) → IsNone (table_error config p s h)
    → Fits w32 p × (Fits w32 s × (Fits w32 (length config.secret.now) × Fits w32 (length config.ad.now)))
unfolding table_error
inputs_fit config p s h none =
    let (_, (_, (_, (_, (pwd, (_, (salt, (secret, (ad, _))))))))) = none_applies (settings_table config p s h) none in
    (length_fits p pwd, (length_fits s salt, (length_fits _ secret, length_fits _ ad)))

-- where each lane has 8 blocks of memory, a segment has two blocks at least
pub long_segment : (mem lanes : ℕ) → 0 < lanes → 8 * lanes ≤ mem → 2 ≤ mem / (4 * lanes)
long_segment mem lanes some h = elim (cases_lt (mem / (4 * lanes)) 2) [
  | inl w ↦ absurd (let b = (div-lt_iff_lt-mul (let k : 0 < 4 * lanes = omega arith in k)).0 w in omega (arith, b, h))
  | inr w ↦ w
]

-- if 4 * lanes segments have fewer than 2^32 blocks in total, so have the lanes, each of 4 segments
pub lanes_fit : (lanes mem segment length : ℕ) → length ≡ 4 * segment → segment ≡ mem / (4 * lanes) → 4 * lanes * (mem / (4 * lanes)) < 2 ^ 32
    → lanes * length < 2 ^ 32
lanes_fit lanes mem segment length l s h = let a = ap (λ x. lanes * x) l in let b = ap (λ x. 4 * lanes * x) s in omega (arith, a, b, h)

-- fourteen lists, joined, are the same with the last eight joined in pairs first
pub joined : (a b c d e f g h i j k l m n : List ℕ) →
    a ++ (b ++ (c ++ (d ++ (e ++ (f ++ (g ++ (h ++ (i ++ (j ++ (k ++ (l ++ (m ++ (n ++ [])))))))))))))
    ≡ a ++ b ++ c ++ d ++ e ++ f ++ (g ++ h) ++ (i ++ j) ++ (k ++ l) ++ (m ++ n)
joined a b c d e f g h i j k l m n = simp (append_assoc, append-nil)

-- six numbers in four bytes each, and four inputs, each behind its length, are together `hashed_inputs`
pub inputs_joined : (pwd salt : List ℕ) (config : Config) (len : ℕ) (a b c d e f g i k m : List ℕ) →
    a ≡ le32 config.lanes → b ≡ le32 len → c ≡ le32 config.mem_cost → d ≡ le32 config.time_cost →
    e ≡ le32 (version_number config.version) → f ≡ le32 (variant_number config.variant) →
    g ≡ le32 (length pwd) → i ≡ le32 (length salt) → k ≡ le32 (length config.secret.now) → m ≡ le32 (length config.ad.now) →
    a ++ (b ++ (c ++ (d ++ (e ++ (f ++ (g ++ (pwd ++ (i ++ (salt ++ (k ++ (config.secret.now ++ (m ++ (config.ad.now ++ [])))))))))))))
    ≡ hashed_inputs pwd salt config len
inputs_joined pwd salt config len a b c d e f g i k m pa pb pc pd pe pf pg pi pk pm =
    joined a b c d e f g pwd i salt k config.secret.now m config.ad.now
    ∙ rw (pa, pb, pc, pd, pe, pf, pg, pi, pk, pm) refl

-- for 1 to 16777215 lanes, a thread mode asks for at least 1 worker and fewer than 2^24
workers_fit_in : (mode : ThreadMode) (lanes : ℕ) → 0 < lanes → lanes ≤ 16777215 →
    (0 < cond (fills_alone mode lanes) 1 (worker_count mode lanes)) × (cond (fills_alone mode lanes) 1 (worker_count mode lanes) < 2 ^ 24)
workers_fit_in Sequential lanes h k = (omega arith, omega arith)
workers_fit_in Parallel lanes h k = elim (eqb_tells lanes 1) [ inl w ↦ rw w.0 (omega arith, omega arith) | inr w ↦ rw w.0 (omega arith, omega arith) ]
workers_fit_in (AtMost most) lanes h k = elim (cases_lt 1 most) [
  | inl w ↦ rw (lt-leb most 1 w) (elim (eqb_tells lanes 1) [
    | inl v ↦ rw v.0 (omega arith, omega arith)
    | inr v ↦ rw v.0 (let low : 1 ≤ min lanes most = le-min h (omega arith) in low, let high = min-le_left lanes most in omega (arith, high, k))
  ])
  | inr w ↦ rw (le-leb most 1 w) (omega arith, omega arith)
]

-- a configuration with 1 to 16777215 lanes asks for at least 1 worker and fewer than 2^24
pub workers_fit : (config : Config) → 0 < config.lanes → config.lanes ≤ 16777215 → (0 < workers_of config) × (workers_of config < 2 ^ 24)
workers_fit config h k = workers_fit_in config.thread_mode config.lanes h k

-- ---- how long the hashes are

-- the state that `compress_f` returns has eight words
length-compress_f : (h m : List ℕ) (t : ℕ) (is_last : Bool) → length (compress_f h m t is_last) ≡ 8
unfolding compress_f
length-compress_f h m t is_last = simp length-map

-- BLAKE2b with output length nn, at most 64, returns nn bytes
pub length-blake2b : (nn : ℕ) (message : List ℕ) → nn ≤ 64 → length (blake2b nn message) ≡ nn
unfolding blake2b
length-blake2b nn message h =
    let before = state_after nn message (last_block message) in
    let words = message_words message (last_block message) in
    let state = compress_f before words (length message) true in
    let t = length-take nn (bytes_of state) in
    let b = length-bytes_of state in
    let s = length-compress_f before words (length message) true in
    omega (arith, t, b, s, h)

-- a hash chain with n values V has 32 bytes for each V, and then the `last` bytes of the last hash
length-hash_chain : (n last : ℕ) (x : List ℕ) → last ≤ 64 → length (hash_chain n last x) ≡ 32 * n + last
unfolding hash_chain
length-hash_chain zero last x h = let b = length-blake2b last x h in omega (arith, b)
length-hash_chain (suc n) last x h =
    let b = length-blake2b 64 x (omega arith) in
    let t = length-take 32 (blake2b 64 x) in
    let r = length-hash_chain n last (blake2b 64 x) h in
    simp length-append (omega (arith, b, t, r))

-- H' with output length len returns len bytes
pub length-hprime : (len : ℕ) (message : List ℕ) → length (hprime len message) ≡ len
length-hprime len message =
    let r = chain_length len in
    ap (λ (l : List ℕ). length l) (hprime-hash_chain len message)
    ∙ length-hash_chain r (len - 32 * r) (to_le_bytes w32 len ++ message) (omega arith)
    ∙ omega arith
