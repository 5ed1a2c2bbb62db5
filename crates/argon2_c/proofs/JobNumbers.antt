-- Which variant, version, setting and configuration the numbers of a call or a job stand for.
use Rattle.std.proofs.Common.{◌≡◌, ℕ, None, Some, refl, sym, subst, inl, inr, ◌*◌, ◌^◌, ◌<◌, ◌≤◌, Bool, false, true, List, length, arith, Option, Ok}
use Rattle.std.proofs.Common.{Err, ap, ◌∙◌, Bor, Result}
use Rattle.std.proofs.lemmas.Bool.Decides.{eqb_tells}
use Rattle.argon2_standard.specs.declared.variant.Variant.{Variant}
use Rattle.argon2_standard.specs.declared.variant.Variant.TheVariants.{Argon2d, Argon2i, Argon2id}
use Rattle.argon2_standard.specs.declared.version.Version.{Version}
use Rattle.argon2_standard.specs.declared.version.Version.TheVariants.{Version10, Version13}
use Rattle.argon2_standard.specs.Views.Names.{IsNoVariantNumber, IsNoVersionNumber}
use Rattle.argon2_standard.specs.Standard.Variant.{variant_number}
use Rattle.argon2_standard.specs.Standard.Version.{version_number}
use Rattle.argon2_c.specs.Settings.{variant_of, version_of, config_at, config_of, config_with}
use Rattle.std.specs.Prelude.{◌==◌, ◌||◌, nat_lt}
use Rattle.std.proofs.Math.Nat.{mul-div-le}
use Rattle.std.proofs.lemmas.Bool.{le-ltb, ltb-false, ne_eqb}
use Rattle.argon2_standard.specs.declared.config.Config.{Config}
use Rattle.argon2_memory.specs.Views.Jobs.{IsSetting}
use Rattle.argon2_standard.specs.Standard.Prehash.{hashed_inputs, prehash_of, setting_of}
use Rattle.argon2_standard.specs.Standard.Setting.{Setting}
use Rattle.argon2_standard.specs.Standard.SettingsTable.{max_lanes, table_error}
use Rattle.argon2_standard.proofs.Settings.{accepted, long_segment, length-blake2b}
use Rattle.argon2_c.specs.Jobs.{is_out_of_bounds, max_blocks_in_slice, job_of, setting_at, setting_of_job, setting_with, StoredJob}
use Rattle.argon2_c.specs.declared.jobs.CallerJob.{CallerJob}
use Rattle.argon2_standard.specs.declared.error.Error.{Error}
use Rattle.argon2_standard.specs.Standard.Decoded.{Agrees}
use Rattle.argon2_standard.specs.Standard.Text.{Spelled}
use Rattle.argon2.proofs.StoredHashes.{table_error-same, spelled_at, setting_of-same}
use Rattle.argon2_c.specs.declared.settings.Settings.{Settings}
use Rattle.argon2_standard.specs.Standard.Grammar.{IsItem}
use Rattle.argon2_text.specs.Views.Texts.{spelled_with}
use Rattle.argon2_text.specs.declared.encoding.reading.Head.{Head}
use Rattle.argon2_c.specs.Answers.{OfText}
use Rattle.argon2_c.specs.Reading.{HasHead, HasNone, Items}
use Rattle.argon2_c.specs.declared.errors.CallError.{CallError}
use Rattle.argon2.specs.Views.StoredHashes.{IsConfigOf, IsStoredConfig}

-- ---- the variant and the version of a number

-- the number of a variant stands for that variant
pub variant_of-number : (variant : Variant) (number : ℕ) → variant_number variant ≡ number → variant_of number ≡ Some variant
variant_of-number Argon2d number e = subst (λ n. variant_of n ≡ Some Argon2d) e refl
variant_of-number Argon2i number e = subst (λ n. variant_of n ≡ Some Argon2i) e refl
variant_of-number Argon2id number e = subst (λ n. variant_of n ≡ Some Argon2id) e refl

-- the number of a version stands for that version
pub version_of-number : (version : Version) (number : ℕ) → version_number version ≡ number → version_of number ≡ Some version
version_of-number Version10 number e = subst (λ n. version_of n ≡ Some Version10) e refl
version_of-number Version13 number e = subst (λ n. version_of n ≡ Some Version13) e refl

-- a number that no variant has stands for no variant
pub variant_of-none : (number : ℕ) → IsNoVariantNumber number → variant_of number ≡ None
variant_of-none number none = elim (eqb_tells number 0) [
  | inl w ↦ absurd (none Argon2d (sym w.1))
  | inr w ↦ elim (eqb_tells number 1) [
    | inl v ↦ absurd (none Argon2i (sym v.1))
    | inr v ↦ elim (eqb_tells number 2) [ inl u ↦ absurd (none Argon2id (sym u.1)) | inr u ↦ rw (w.0, v.0, u.0) refl ]
  ]
]

-- a number that no version has stands for no version
pub version_of-none : (number : ℕ) → IsNoVersionNumber number → version_of number ≡ None
version_of-none number none = elim (eqb_tells number 0x10) [
  | inl w ↦ absurd (none Version10 (sym w.1))
  | inr w ↦ elim (eqb_tells number 0x13) [ inl v ↦ absurd (none Version13 (sym v.1)) | inr v ↦ rw (w.0, v.0) refl ]
]

-- ---- the setting of a job's numbers

-- `setting_of_job` recovers a valid setting s from `job_of s len`, if the tag length len is at least 4
pub recovered : (s : Setting) (len : ℕ) → IsSetting s → 4 ≤ len → setting_of_job (job_of s len) ≡ Some s
recovered s len good long =
    let variant = variant_of-number s.variant _ refl in
    let version = version_of-number s.version _ refl in
    let none : (s.lanes == 0) ≡ false = ne_eqb s.lanes 0 (omega (arith, good.some_lane)) in
    let many : nat_lt max_lanes s.lanes ≡ false = le-ltb max_lanes s.lanes good.few_lanes in
    let short : nat_lt s.segment_length 2 ≡ false = le-ltb s.segment_length 2 good.long_segments in
    let much : nat_lt max_blocks_in_slice (s.lanes * s.segment_length) ≡ false =
    le-ltb max_blocks_in_slice (s.lanes * s.segment_length) (omega (arith, good.fits)) in
    let passes : (s.passes == 0) ≡ false = ne_eqb s.passes 0 (omega (arith, good.some_pass)) in
    let tag : nat_lt len 4 ≡ false = le-ltb len 4 long in
    rw (variant, version, none, many, short, much, passes, tag) refl

-- if the settings table has no error, the hash length h is at least 4
pub accepted_hash : (config : Config) (p s h : ℕ) → table_error config p s h ≡ None → 4 ≤ h
accepted_hash config p s h none = (accepted config p s h (rw none refl)).hash_suffices

-- an accepted call whose costs fit 32 bits has a valid setting
pub setting_that_fits : (pwd salt : List ℕ) (config : Config) (len : ℕ) → table_error config (length pwd) (length salt) len ≡ None
    → config.time_cost < 2 ^ 32 → config.mem_cost < 2 ^ 32 → IsSetting (setting_of pwd salt config len)
unfolding setting_of prehash_of
setting_that_fits pwd salt config len none few little =
    let a = accepted config (length pwd) (length salt) len (rw none refl) in
    let m = mul-div-le config.mem_cost (4 * config.lanes) in
    record {
      prehash_length = length-blake2b 64 (hashed_inputs pwd salt config len) (omega arith);
      some_lane = a.some_lane;
      few_lanes = a.few_lanes;
      long_segments = long_segment config.mem_cost config.lanes a.some_lane a.much;
      some_pass = a.some_pass;
      few_passes = few;
      fits = omega (arith, m, little);
    }

-- where the `or` of two truth values is false, each of them is false
neither : (a b : Bool) → (a || b) ≡ false → (a ≡ false) × (b ≡ false)
neither true b h = absurd (cc)
neither false b h = (refl, h)

-- a number for which `== 0` is false is greater than 0
some : (n : ℕ) → (n == 0) ≡ false → 0 < n
some n h = elim (eqb_tells n 0) [ inl w ↦ absurd (cc (w.0)) | inr w ↦ omega (arith, w.1) ]

-- a job with a prehash of 64 bytes and numbers within bounds has a valid setting, with any variant v and version w
pub bounded : (job : CallerJob) (v : Variant) (w : Version) → length job.prehash ≡ 64 → job.passes < 2 ^ 32 → is_out_of_bounds job ≡ false
    → IsSetting (setting_with job v w)
bounded job v w prehash few h =
    let a = neither _ _ h in
    let b = neither _ _ a.0 in
    let c = neither _ _ b.0 in
    let d = neither _ _ c.0 in
    let e = neither _ _ d.0 in
    let fits = ltb-false max_blocks_in_slice (job.lanes * job.segment_length) c.1 in
    record {
      prehash_length = prehash;
      some_lane = some job.lanes e.0;
      few_lanes = ltb-false max_lanes job.lanes e.1;
      long_segments = ltb-false job.segment_length 2 d.1;
      some_pass = some job.passes b.1;
      few_passes = few;
      fits = omega (arith, fits);
    }

-- if a job's numbers are within bounds, `setting_at` returns the job's setting with variant v and version w
pub kept : (job : CallerJob) (v : Variant) (w : Version) → is_out_of_bounds job ≡ false → setting_at job (Some v) (Some w) ≡ Some (setting_with job v w)
kept job v w h = rw h refl

-- ---- apart from secret and associated data, settings' numbers alone determine their configuration

-- a configuration with another secret and other associated data
abbrev pub with_inputs : Config → Bor (List ℕ) → Bor (List ℕ) → Config
with_inputs config secret ad = record config { secret = secret; ad = ad }

module _ (settings : Settings) (s a secret ad : Bor (List ℕ)) where
  at_numbers : (v : Option Variant) (w : Option Version) (config : Config) → Ok config ≡ config_at settings s a v w
      → config_at settings secret ad v w ≡ Ok (with_inputs config secret ad)
  at_numbers None w config is = absurd (cc)
  at_numbers (Some v) None config is = absurd (cc)
  at_numbers (Some v) (Some w) config is =
      let same : config ≡ config_with settings s a v w = cc in
      rw same refl

  at_no_numbers : (v : Option Variant) (w : Option Version) (e : Error) → Err e ≡ config_at settings s a v w → config_at settings secret ad v w ≡ Err e
  at_no_numbers None w e is = sym is
  at_no_numbers (Some v) None e is = sym is
  at_no_numbers (Some v) (Some w) e is = absurd (cc)

  -- if settings have a configuration, another secret and other data change only these two fields of the configuration
  pub other_inputs : (config : Config) → Ok config ≡ config_of settings s a → config_of settings secret ad ≡ Ok (with_inputs config secret ad)
  other_inputs config is = at_numbers (variant_of settings.variant) (version_of settings.version) config is

  -- if settings have an error instead of a configuration, they have the same error with any secret and data
  pub no_inputs : (e : Error) → Err e ≡ config_of settings s a → config_of settings secret ad ≡ Err e
  no_inputs e is = at_no_numbers (variant_of settings.variant) (version_of settings.version) e is

  own_at_numbers : (v : Option Variant) (w : Option Version) (config : Config) → Ok config ≡ config_at settings s a v w
      → (config.secret ≡ s) × (config.ad ≡ a)
  own_at_numbers None w config is = absurd (cc)
  own_at_numbers (Some v) None config is = absurd (cc)
  own_at_numbers (Some v) (Some w) config is =
      let same : config ≡ config_with settings s a v w = cc in
      rw same (refl, refl)

  -- the table has the same error for references to an equal secret and equal associated data
  pub same_error : (config : Config) (pwd salt hash : ℕ) → Ok config ≡ config_of settings s a → s.now ≡ secret.now → a.now ≡ ad.now
      → table_error (with_inputs config secret ad) pwd salt hash ≡ table_error config pwd salt hash
  same_error config pwd salt hash is same_secret same_ad =
      let own = own_at_numbers (variant_of settings.variant) (version_of settings.version) config is in
      table_error-same (with_inputs config secret ad) config pwd salt hash refl refl refl
      (sym same_secret ∙ ap (λ (x : Bor (List ℕ)). x.now) (sym own.0)) (sym same_ad ∙ ap (λ (x : Bor (List ℕ)). x.now) (sym own.1))

-- a decoded value d that agrees with a configuration still agrees after a change of the secret and associated data
pub agrees_with : (d : Spelled) (config : Config) (secret ad : Bor (List ℕ)) → Agrees d config → Agrees d (with_inputs config secret ad)
agrees_with d config secret ad h = record {
  variant = h.variant;
  version = h.version;
  mem_cost = h.mem_cost;
  time_cost = h.time_cost;
  lanes = h.lanes;
  hash_length = h.hash_length;
}

pub agrees_without : (d : Spelled) (config : Config) (secret ad : Bor (List ℕ)) → Agrees d (with_inputs config secret ad) → Agrees d config
agrees_without d config secret ad h = agrees_with d (with_inputs config secret ad) config.secret config.ad h

-- ---- the length of an accepted salt

-- if the settings table has no error, the salt length s is at most 2^32 - 1
pub accepted_salt : (config : Config) (p s h : ℕ) → table_error config p s h ≡ None → s ≤ 4294967295
accepted_salt config p s h none = (accepted config p s h (rw none refl)).salt_fits

-- ---- `OfText`, which speaks of a whole string, proved from the string's head

-- a string without a head is rejected
pub no_head : {A : Type 0} (text : List ℕ) (error : CallError) (old : A) (Done : Spelled → Type 0)
    → HasNone text error → OfText text old old (Err error) Done
no_head text error old Done (inl (is, not_ascii)) = record {
  not_ascii = λ no. (ap Err is, refl);
  unspelled = λ ascii none. absurd (not_ascii ascii);
  spelled = λ ascii d s. absurd (not_ascii ascii);
}
no_head text error old Done (inr (is, ascii, none)) = record {
  not_ascii = λ no. absurd (no ascii);
  unspelled = λ _ _. (ap Err is, refl);
  spelled = λ _ d s. absurd (none d s);
}

-- if `Done` is true of a head with any salt and hash, it is true of the decoded value
pub by_head : {A : Type 0} (text : List ℕ) (h : Head) (old new : A) (answer : Result (Unit {0}) CallError) (Done : Spelled → Type 0) → HasHead text h
    → ((salt hash : List ℕ) → IsItem h.salt.now salt → IsItem h.hash.now hash → Done (spelled_with h salt hash)) → OfText text old new answer Done
by_head text h old new answer Done (ascii, s) done = record {
  not_ascii = λ no. absurd (no ascii);
  unspelled = λ _ none. absurd (none (spelled_with h s.0 s.1) s.2.spells);
  spelled = λ _ d spells. subst Done (sym (spelled_at text h d s spells)) (done s.0 s.1 s.2.salt_item s.2.hash_item);
}

-- ---- the job of an encoded hash depends only on the decoded value, the password, the secret and the associated data

-- a job of the configuration `used` is the job of each configuration with the decoded fields, the secret and the data
pub made_job : (d : Spelled) (pwd secret ad : List ℕ) (config used : Config) (job : CallerJob) → IsConfigOf d secret ad used → IsStoredConfig d secret ad config
    → used.hash_length ≡ length d.hash → job ≡ job_of (setting_of pwd d.salt used used.hash_length) used.hash_length
    → job ≡ job_of (setting_of pwd d.salt config (length d.hash)) (length d.hash)
made_job d pwd secret ad config used job u here own made =
    let x = u.stored in
    let same = setting_of-same used config pwd d.salt (length d.hash) (x.variant ∙ sym here.variant) (x.version ∙ sym here.version)
    (x.lanes ∙ sym here.lanes) (x.mem_cost ∙ sym here.mem_cost) (x.time_cost ∙ sym here.time_cost) (x.secret ∙ sym here.secret) (x.ad ∙ sym here.ad) in
    made ∙ ap (λ n. job_of (setting_of pwd d.salt used n) n) own ∙ ap (λ s. job_of s (length d.hash)) same

-- two stored jobs with the same job are equal if their items are equal
pub with_items : (job : CallerJob) (a b : Items) → a ≡ b → (let x : StoredJob = record { job = job; items = a } in x) ≡ record { job = job; items = b }
with_items job a b same = rw same refl
