-- What is proved of an answer does not depend on where the secret and the associated data are in memory.
use Rattle.std.proofs.Common.{◌≡◌, ℕ, Bool, true, false, List, length, Option, None, Some, Result, Ok, Err, refl, sym, ap, ◌∙◌, Bor}
use Rattle.argon2_standard.specs.declared.config.Config.{Config}
use Rattle.argon2_standard.specs.declared.error.Error.{Error}
use Rattle.argon2_standard.specs.Standard.Outcome.{IsHash, IsOutcome, IsVerdict}
use Rattle.argon2_standard.specs.Standard.SettingsTable.{table_error}
use Rattle.argon2_standard.specs.Standard.Prehash.{prehash_of, setting_of}
use Rattle.argon2_standard.specs.Standard.Tag.{tag_of}
use Rattle.argon2_standard.specs.Standard.Text.{Spelled}
use Rattle.argon2_standard.specs.Standard.Decoded.{decoded_config}
use Rattle.argon2_standard.specs.Standard.ThreadModes.{may_lack_workers}
use Rattle.argon2.specs.Standard.Limits.{AnswersWithin}
use Rattle.argon2.specs.declared.limits.Unverified.{Unverified}
use Rattle.argon2.specs.declared.limits.Unverified.TheVariants.{TooCostly, Refused}
use Rattle.argon2.proofs.StoredHashes.{table_error-same}
use Rattle.argon2.proofs.Verdicts.{length-tag_of}
use Rattle.argon2_schedule.specs.Answers.{Inputs, IsTextLength, Returns, config_at, text_at}

-- if an outcome is a value, P holds of the value
value_of : {A : Type 0} (refusal : Option Error) (workers : Bool) (P : A → Type 0) (x : A) → IsOutcome refusal workers P (Ok x) → P x
value_of None workers P x h = h
value_of (Some r) workers P x h = absurd (cc)

-- if P x implies Q y, and the outcome `Ok x` is allowed with P, the outcome `Ok y` is allowed with Q
made_of : {A B : Type 0} (refusal : Option Error) (workers : Bool) (P : A → Type 0) (Q : B → Type 0) (x : A) (y : B) → (P x → Q y) → IsOutcome refusal workers P (Ok x)
    → IsOutcome refusal workers Q (Ok y)
made_of None workers P Q x y f h = f h
made_of (Some r) workers P Q x y f h = absurd (cc)

no_value : {A B : Type 0} (refusal : Option Error) (workers : Bool) (P : A → Type 0) (Q : B → Type 0) (e : Error) → IsOutcome refusal workers P (Err e)
    → IsOutcome refusal workers Q (Err e)
no_value None workers P Q e h = h
no_value (Some r) workers P Q e h = let same : e ≡ r = cc in rw same refl

-- the configurations differ at most in where the secret and the associated data are
pub record Alike (x y : Config) : Type 0 where
  pub variant : x.variant ≡ y.variant
  pub version : x.version ≡ y.version
  pub lanes : x.lanes ≡ y.lanes
  pub mem_cost : x.mem_cost ≡ y.mem_cost
  pub time_cost : x.time_cost ≡ y.time_cost
  pub secret : x.secret.now ≡ y.secret.now
  pub ad : x.ad.now ≡ y.ad.now

same_table : (x y : Config) → Alike x y → (pwd salt hash : ℕ) → table_error x pwd salt hash ≡ table_error y pwd salt hash
same_table x y h pwd salt hash = table_error-same x y pwd salt hash h.lanes h.mem_cost h.time_cost h.secret h.ad

same_tag : (x y : Config) → Alike x y → (pwd salt : List ℕ) (len : ℕ) → tag_of pwd salt x len ≡ tag_of pwd salt y len
unfolding tag_of setting_of prehash_of
same_tag x y h pwd salt len = rw (h.variant, h.version, h.lanes, h.mem_cost, h.time_cost, h.secret, h.ad) refl

pub same_verdict : (x y : Config) → Alike x y → (pwd salt hash : List ℕ) (workers : Bool) (answer : Result Bool Error)
    → IsVerdict pwd salt hash x workers answer → IsVerdict pwd salt hash y workers answer
same_verdict x y alike pwd salt hash workers answer h =
    rw (same_table x y alike (length pwd) (length salt) (length hash), same_tag x y alike pwd salt (length hash)) at h

pub alike_inputs : (x : Inputs) (s a s' a' : Bor (List ℕ)) → s.now ≡ s'.now → a.now ≡ a'.now → Alike (config_at x s a) (config_at x s' a')
alike_inputs x s a s' a' same_secret same_ad =
    record { variant = refl; version = refl; lanes = refl; mem_cost = refl; time_cost = refl; secret = same_secret; ad = same_ad }

pub alike_decoded : (d : Spelled) (s a s' a' : Bor (List ℕ)) → s.now ≡ s'.now → a.now ≡ a'.now → Alike (decoded_config d s a) (decoded_config d s' a')
alike_decoded d s a s' a' same_secret same_ad =
    record { variant = refl; version = refl; lanes = refl; mem_cost = refl; time_cost = refl; secret = same_secret; ad = same_ad }

-- `Shows` holds of a returned value and the tag of the inputs. By `tag_length`, this tag has `hash_length` bytes
pub tag_behind : {A : Type 0} (Shows : A → List ℕ → Type 0) (pwd salt : List ℕ) (config : Config) (workers : Bool) (value : A)
    → IsHash pwd salt config workers Shows (Ok value) → Shows value (tag_of pwd salt config config.hash_length)
tag_behind Shows pwd salt config workers value h =
    value_of (table_error config (length pwd) (length salt) config.hash_length) workers (λ v. Shows v (tag_of pwd salt config config.hash_length)) value h

pub tag_length : (pwd salt : List ℕ) (config : Config) → length (tag_of pwd salt config config.hash_length) ≡ config.hash_length
tag_length pwd salt config = length-tag_of pwd salt config config.hash_length

module _ (x : Inputs) (made : Config → List ℕ → List ℕ)
    (anywhere : (s a s' a' : Bor (List ℕ)) (tag : List ℕ) → made (config_at x s a) tag ≡ made (config_at x s' a') tag)
    {A : Type 0} (items : A → List ℕ) (s a : Bor (List ℕ)) (is_secret : s.now ≡ x.secret) (is_ad : a.now ≡ x.ad) where
  abbrev Shows : Bor (List ℕ) → Bor (List ℕ) → List ℕ → Type 0
  Shows s a value = value ≡ made (config_at x s a) (tag_of x.pwd x.salt (config_at x s a) x.length)

  pub returned_value : (value : A) → IsHash x.pwd x.salt (config_at x s a) (may_lack_workers (config_at x s a)) (λ v tag. items v ≡ made (config_at x s a) tag) (Ok value) → Returns x made (Ok (items value))
  returned_value value h s' a' other_secret other_ad =
      let alike = alike_inputs x s a s' a' (is_secret ∙ sym other_secret) (is_ad ∙ sym other_ad) in
      let same = same_tag (config_at x s a) (config_at x s' a') alike x.pwd x.salt x.length in
      made_of (table_error (config_at x s' a') (length x.pwd) (length x.salt) x.length) (may_lack_workers (config_at x s' a'))
      (λ v. Shows s a (items v)) (Shows s' a') value (items value)
      (λ is. is ∙ ap (made (config_at x s a)) same ∙ anywhere s a s' a' (tag_of x.pwd x.salt (config_at x s' a') x.length))
      (rw (same_table (config_at x s a) (config_at x s' a') alike (length x.pwd) (length x.salt) x.length) at h)

  pub returned_error : (e : Error) → IsHash {A = A} x.pwd x.salt (config_at x s a) (may_lack_workers (config_at x s a)) (λ v tag. items v ≡ made (config_at x s a) tag) (Err e) → Returns x made (Err e)
  returned_error e h s' a' other_secret other_ad =
      let alike = alike_inputs x s a s' a' (is_secret ∙ sym other_secret) (is_ad ∙ sym other_ad) in
      no_value {A = A} (table_error (config_at x s' a') (length x.pwd) (length x.salt) x.length) (may_lack_workers (config_at x s' a'))
      (λ v. Shows s a (items v)) (Shows s' a') e
      (rw (same_table (config_at x s a) (config_at x s' a') alike (length x.pwd) (length x.salt) x.length) at h)

pub same_within : (costly : Bool) (P Q : Result Bool Error → Type 0) → ((answer : Result Bool Error) → P answer → Q answer) → (answer : Result Bool Unverified)
    → AnswersWithin costly P answer → AnswersWithin costly Q answer
same_within true P Q f answer h = h
same_within false P Q f (Ok same) h = f (Ok same) h
same_within false P Q f (Err (Refused e)) h = f (Err e) h
same_within false P Q f (Err TooCostly) h = absurd h

-- if the PHC string of each tag of the settings has `size` bytes, a returned PHC string has `size` bytes
pub text_length : (x : Inputs) (size : ℕ) → IsTextLength x size → {A : Type 0} (items : A → List ℕ) (s a : Bor (List ℕ)) → s.now ≡ x.secret → a.now ≡ x.ad → (value : A)
    → IsHash x.pwd x.salt (config_at x s a) (may_lack_workers (config_at x s a)) (λ v tag. items v ≡ text_at x (config_at x s a) tag) (Ok value) → length (items value) ≡ size
text_length x size fits items s a is_secret is_ad value h =
    ap length (tag_behind (λ v tag. items v ≡ text_at x (config_at x s a) tag) x.pwd x.salt (config_at x s a) (may_lack_workers (config_at x s a)) value h)
    ∙ fits s a is_secret is_ad (tag_of x.pwd x.salt (config_at x s a) x.length) (tag_length x.pwd x.salt (config_at x s a))
