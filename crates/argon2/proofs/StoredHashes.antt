-- Lemmas about stored hashes: verdicts, errors before the tag, rehashing, and the memory that a call leaves.
use Rattle.std.proofs.Common.{◌≡◌, ℕ, Bool, true, false, List, [], length, Bor, Option, None, Some, Result, Ok, Err, nat_lt, ◌==◌, not, if◌then◌else◌}
use Rattle.std.proofs.Common.{refl, sym, ap, subst, ◌∙◌, arith, inl, inr}
use Rattle.std.specs.Prelude.{◌↔◌, IsNone, IsTrue, IfOk, IfErr, IsSome, OnErr, OnOk}
use Rattle.std.proofs.Math.Nat.{min-eq_left}
use Rattle.std.proofs.lemmas.Bool.{cases_Bool, ltb-true, ne_eqb}
use Rattle.argon2_standard.specs.declared.config.Config.{Config}
use Rattle.argon2_standard.specs.declared.error.Error.{Error}
use Rattle.argon2_standard.specs.declared.error.Error.TheVariants.{DecodingFail, OutOfMemory}
use Rattle.argon2_text.specs.declared.decoded.Decoded.{Decoded}
use Rattle.argon2_text.specs.declared.encoding.reading.Head.{Head}
use Rattle.argon2_standard.specs.declared.thread_mode.ThreadMode.{ThreadMode}
use Rattle.argon2_standard.specs.declared.thread_mode.ThreadMode.TheVariants.{AtMost, Sequential}
use Rattle.argon2_standard.specs.Standard.Outcome.{IsOutcome, IsVerdict}
use Rattle.argon2_standard.specs.Standard.ThreadModes.{fills_alone, may_lack_workers}
use Rattle.argon2_standard.specs.Standard.Grammar.{IsItem, Spells, SpellsNothing}
use Rattle.argon2_text.specs.Views.Faults.{Refuses}
use Rattle.argon2_standard.specs.Standard.Prehash.{prehash_of, setting_of}
use Rattle.argon2_standard.specs.Standard.Decoded.{Agrees, Differs, decoded_config}
use Rattle.argon2.specs.Standard.Limits.{AnswersWithin}
use Rattle.argon2.specs.declared.limits.Unverified.{Unverified}
use Rattle.argon2.specs.declared.limits.Unverified.TheVariants.{Refused, TooCostly}
use Rattle.argon2_standard.specs.Standard.SettingsTable.{table_error}
use Rattle.argon2.specs.Views.StoredHashes.{IsAccepted, IsAccepting, IsConfigOf, IsStoredConfig, max_workers}
use Rattle.argon2_standard.specs.Standard.Tag.{tag_of}
use Rattle.argon2_standard.specs.Standard.Text.{Spelled}
use Rattle.argon2_text.specs.Views.Texts.{IsSpelledBy, IsSpellingOf, spelled_by, spelled_with}
use Rattle.argon2_text.proofs.Items.{item_unique}
use Rattle.argon2.proofs.Texts.{spells_one}
use Rattle.argon2_memory.specs.Standard.Kept.{HoldsFill, IsLeft, MemoryValue}
use Rattle.argon2.specs.Standard.Leaves.{LeavesMemory}
use Rattle.argon2_standard.proofs.Settings as settings

-- ---- a verdict depends only on the password, the decoded hash, the secret and the associated data

-- ---- the configuration fields on which a verdict depends

-- configurations with equal lanes, costs, secret and associated data get the same error from the settings table
pub table_error-same : (x y : Config) (pwd salt hash : ℕ) → x.lanes ≡ y.lanes → x.mem_cost ≡ y.mem_cost → x.time_cost ≡ y.time_cost
    → x.secret.now ≡ y.secret.now → x.ad.now ≡ y.ad.now → table_error x pwd salt hash ≡ table_error y pwd salt hash
unfolding table_error
table_error-same x y pwd salt hash lanes mem_cost time_cost secret ad = rw (lanes, mem_cost, time_cost, secret, ad) refl

-- configurations with equal variant, version, lanes, costs, secret and associated data have the same tag
tag_of-same : (x y : Config) (pwd salt : List ℕ) (len : ℕ) → x.variant ≡ y.variant → x.version ≡ y.version → x.lanes ≡ y.lanes → x.mem_cost ≡ y.mem_cost
    → x.time_cost ≡ y.time_cost → x.secret.now ≡ y.secret.now → x.ad.now ≡ y.ad.now → tag_of pwd salt x len ≡ tag_of pwd salt y len
unfolding tag_of setting_of prehash_of
tag_of-same x y pwd salt len variant version lanes mem_cost time_cost secret ad = rw (variant, version, lanes, mem_cost, time_cost, secret, ad) refl

-- `decoded_config d x y` has d's decoded fields, the secret that x holds and the associated data that y holds
pub is_stored : (d : Spelled) (x y : Bor (List ℕ)) (secret ad : List ℕ) → x.now ≡ secret → y.now ≡ ad → IsStoredConfig d secret ad (decoded_config d x y)
is_stored d x y secret ad a b =
    record { variant = refl; version = refl; mem_cost = refl; time_cost = refl; lanes = refl; secret = a; ad = b }

-- all configurations that have a string's decoded fields, the secret and the data give the same verdict
pub verdict-same : (d : Spelled) (pwd secret ad : List ℕ) (x y : Config) (workers : Bool) (answer : Result Bool Error) → IsStoredConfig d secret ad x
    → IsStoredConfig d secret ad y
    → IsVerdict pwd d.salt d.hash x workers answer → IsVerdict pwd d.salt d.hash y workers answer
verdict-same d pwd secret ad x y workers answer a b verdict =
    let refusal = table_error-same x y (length pwd) (length d.salt) (length d.hash) (a.lanes ∙ sym b.lanes) (a.mem_cost ∙ sym b.mem_cost)
    (a.time_cost ∙ sym b.time_cost) (a.secret ∙ sym b.secret) (a.ad ∙ sym b.ad) in
    let tag = tag_of-same x y pwd d.salt (length d.hash) (a.variant ∙ sym b.variant) (a.version ∙ sym b.version) (a.lanes ∙ sym b.lanes)
    (a.mem_cost ∙ sym b.mem_cost) (a.time_cost ∙ sym b.time_cost) (a.secret ∙ sym b.secret) (a.ad ∙ sym b.ad) in
    rw (refusal, tag) at verdict

-- a verdict with an empty secret and empty associated data does not depend on the references that hold them
pub verdict_without : (d : Spelled) (pwd : List ℕ) (x y none : Bor (List ℕ)) (workers : Bool) (answer : Result Bool Error) → x.now ≡ [] → y.now ≡ []
    → none.now ≡ [] → IsVerdict pwd d.salt d.hash (decoded_config d x y) workers answer
    → IsVerdict pwd d.salt d.hash (decoded_config d none none) workers answer
verdict_without d pwd x y none workers answer a b c verdict =
    verdict-same d pwd [] [] (decoded_config d x y) (decoded_config d none none) workers answer (is_stored d x y [] [] a b)
    (is_stored d none none [] [] c c) verdict

-- an answer within limits does not depend on the references that hold an empty secret and empty associated data
pub within_without : (costly : Bool) (d : Spelled) (pwd : List ℕ) (x y none : Bor (List ℕ)) (workers : Bool) (answer : Result Bool Unverified)
    → x.now ≡ [] → y.now ≡ [] → none.now ≡ [] → AnswersWithin costly (IsVerdict pwd d.salt d.hash (decoded_config d x y) workers) answer
    → AnswersWithin costly (IsVerdict pwd d.salt d.hash (decoded_config d none none) workers) answer
within_without true d pwd x y none workers answer a b c h = h
within_without false d pwd x y none workers (Ok same) a b c h = verdict_without d pwd x y none workers (Ok same) a b c h
within_without false d pwd x y none workers (Err (Refused e)) a b c h = verdict_without d pwd x y none workers (Err e) a b c h
within_without false d pwd x y none workers (Err TooCostly) a b c h = absurd h

-- ---- the configuration with which the code verifies a decoded hash

-- the thread mode that the code chooses for encoded hashes starts workers exactly if there are several lanes
workers_flag : (mode : ThreadMode) (lanes : ℕ) → mode ≡ (if nat_lt 1 lanes then AtMost max_workers else Sequential)
    → not (fills_alone mode lanes) ≡ nat_lt 1 lanes
workers_flag mode lanes is = elim (cases_Bool (nat_lt 1 lanes)) [
  | inl many ↦
      let other : (lanes == 1) ≡ false = ne_eqb lanes 1 (omega (arith, ltb-true 1 lanes many)) in
      rw (is, many, other) refl
  | inr one ↦ rw (is, one) refl
]

-- the configuration that the code uses for a decoded value starts workers exactly if the value has several lanes
pub stored_workers : (stored : Decoded) (secret ad : List ℕ) (used : Config) → IsConfigOf (spelled_by stored) secret ad used
    → may_lack_workers used ≡ nat_lt 1 stored.parallelism
stored_workers stored secret ad used used_is =
    ap (λ n. not (fills_alone used.thread_mode n)) used_is.stored.lanes ∙ workers_flag used.thread_mode stored.parallelism used_is.thread_mode

-- the configuration that the code uses for a value gives the same verdict as any configuration with the value's fields,
-- this secret and this associated data
pub stored_verdict : (v d : Spelled) (pwd secret ad : List ℕ) (used config : Config) (workers : Spelled → Bool) (answer : Result Bool Error) → v ≡ d
    → IsConfigOf v secret ad used → IsStoredConfig d secret ad config → IsVerdict pwd v.salt v.hash used (workers v) answer
    → IsVerdict pwd d.salt d.hash config (workers d) answer
stored_verdict v d pwd secret ad used config workers answer same used_is is verdict =
    let here = subst (λ (x : Spelled). IsStoredConfig x secret ad config) (sym same) is in
    let told = verdict-same v pwd secret ad used config (workers v) answer used_is.stored here verdict in
    subst (λ (x : Spelled). IsVerdict pwd x.salt x.hash config (workers x) answer) same told

-- ---- answers before the tag is computed

-- any value that the string decodes to consists of its head and the salt and hash that the head's items encode
pub spelled_at : (text : List ℕ) (h : Head) (d : Spelled) → (s : IsSpellingOf text h) → Spells text d → d ≡ spelled_with h s.0 s.1
spelled_at text h d (salt, hash, is) s = spells_one text d (spelled_with h salt hash) s is.spells

-- `refusal` is the settings table's error for every value with this head, this secret and this associated data
abbrev pub RefusesHead : Head → ℕ → List ℕ → List ℕ → Option Error → Type 0
RefusesHead h pwd_len secret ad refusal = (config : Config) (salt hash : List ℕ) → IsItem h.salt.now salt → IsItem h.hash.now hash
    → IsStoredConfig (spelled_with h salt hash) secret ad config → refusal ≡ table_error config pwd_len (length salt) (length hash)

-- the table's result for x is also its result for `config` if lanes, costs, secret, data and lengths are equal
pub error_found : (refusal : Option Error) (x config : Config) (pwd n m : ℕ) (salt hash : List ℕ) → refusal ≡ table_error x pwd n m → n ≡ length salt
    → m ≡ length hash
    → x.lanes ≡ config.lanes → x.mem_cost ≡ config.mem_cost → x.time_cost ≡ config.time_cost → x.secret.now ≡ config.secret.now → x.ad.now ≡ config.ad.now
    → refusal ≡ table_error config pwd (length salt) (length hash)
error_found refusal x config pwd n m salt hash found salt_len hash_len lanes mem_cost time_cost secret ad =
    rw (salt_len, hash_len) at found ∙ table_error-same x config pwd (length salt) (length hash) lanes mem_cost time_cost secret ad

-- the settings table's error for a string's head is also the table's error for any value that the string decodes to
error_told : (text : List ℕ) (h : Head) (pwd_len : ℕ) (secret ad : List ℕ) (refusal : Option Error) (d : Spelled) (config : Config)
    → RefusesHead h pwd_len secret ad refusal
    → IsSpellingOf text h → Spells text d → IsStoredConfig d secret ad config → refusal ≡ table_error config pwd_len (length d.salt) (length d.hash)
error_told text h pwd_len secret ad refusal d config told s spells stored =
    let same = spelled_at text h d s spells in
    let here = told config s.0 s.1 s.2.salt_item s.2.hash_item (subst (λ (v : Spelled). IsStoredConfig v secret ad config) same stored) in
    subst (λ (v : Spelled). refusal ≡ table_error config pwd_len (length v.salt) (length v.hash)) (sym same) here

-- the head h with which the string decodes is the head of any value d that the string decodes to
spelled_again : (text : List ℕ) (h : Head) (d : Spelled) → IsSpellingOf text h → Spells text d → IsSpelledBy text h d.salt d.hash
spelled_again text h d s spells =
    subst (λ (v : Spelled). IsSpelledBy text h v.salt v.hash) (sym (spelled_at text h d s spells)) s.2

-- if the head is rejected with an error, the answer is that error, for each value that the string decodes to
pub head_rejected : (text : List ℕ) (h : Head) (pwd_len : ℕ) (secret ad : List ℕ) (refusal : Option Error) (d : Spelled) (config : Config) (e : Error)
    → RefusesHead h pwd_len secret ad refusal → IsSpellingOf text h → refusal ≡ Some e → Spells text d → IsStoredConfig d secret ad config
    → IsAccepting (table_error config pwd_len (length d.salt) (length d.hash)) (λ (head : Head). IsSpelledBy text head d.salt d.hash) (Err e)
head_rejected text h pwd_len secret ad refusal d config e told s some spells stored =
    rw (sym (error_told text h pwd_len secret ad refusal d config told s spells stored), some) refl

-- if the head is not rejected, the answer is the head, for each value that the string decodes to
pub head_accepted : (text : List ℕ) (h : Head) (pwd_len : ℕ) (secret ad : List ℕ) (refusal : Option Error) (d : Spelled) (config : Config)
    → RefusesHead h pwd_len secret ad refusal → IsSpellingOf text h → refusal ≡ None → Spells text d → IsStoredConfig d secret ad config
    → IsAccepting (table_error config pwd_len (length d.salt) (length d.hash)) (λ (head : Head). IsSpelledBy text head d.salt d.hash) (Ok h)
head_accepted text h pwd_len secret ad refusal d config told s none spells stored =
    rw (sym (error_told text h pwd_len secret ad refusal d config told s spells stored), none) (spelled_again text h d s spells)

-- an error of a call that allocates nothing is also an error of a call that may allocate
pub refused_too : {A B : Type 0} (refusal : Option Error) (P : A → Type 0) (Q : B → Type 0) (e : Error) → IsAccepting refusal P (Err e)
    → IsOutcome refusal false Q (Err e)
refused_too None P Q e h = absurd h
refused_too (Some r) P Q e h = cc h

-- decoding a head and its items returns the value that they decode to, or an allocation failed
decoded_value : (h : Head) (salt hash : List ℕ) (d : Spelled) (r : Result Decoded Error) → IsItem h.salt.now salt → IsItem h.hash.now hash
    → d ≡ spelled_with h salt hash
    → IfOk r (λ x. spelled_by x ≡ spelled_with h x.salt.items x.hash.items) → IfOk r (λ x. IsItem h.salt.now x.salt.items × IsItem h.hash.now x.hash.items)
    → IfErr r (λ e. e ≡ OutOfMemory) → IsOutcome None false (λ (stored : Decoded). spelled_by stored ≡ d) r
decoded_value h salt hash d (Ok x) a b is settings items memory =
    let same_salt = item_unique h.salt.now x.salt.items salt items.0 a in
    let same_hash = item_unique h.hash.now x.hash.items hash items.1 b in
    settings ∙ ap (λ s. spelled_with h s x.hash.items) same_salt ∙ ap (λ s. spelled_with h salt s) same_hash ∙ sym is
decoded_value h salt hash d (Err e) a b is settings items memory = memory

-- if a string's head is accepted, decoding the string returns its value, or an allocation failed
pub text_decoded : (text : List ℕ) (h : Head) (refusal : Option Error) (d : Spelled) (r : Result Decoded Error)
    → IsAccepting refusal (λ (head : Head). IsSpelledBy text head d.salt d.hash) (Ok h) → Spells text d
    → IfOk r (λ x. spelled_by x ≡ spelled_with h x.salt.items x.hash.items) → IfOk r (λ x. IsItem h.salt.now x.salt.items × IsItem h.hash.now x.hash.items)
    → IfErr r (λ e. e ≡ OutOfMemory) → IsOutcome refusal false (λ (stored : Decoded). spelled_by stored ≡ d) r
text_decoded text h None d r is spells settings items memory =
    decoded_value h d.salt d.hash d r is.salt_item is.hash_item (spells_one text d (spelled_with h d.salt d.hash) spells is.spells) settings items memory
text_decoded text h (Some e) d r is spells settings items memory = absurd (cc is)

-- in the configuration that an accepted value is verified with, `hash_length` is the length of the value's hash
pub own_length : (d : Spelled) (pwd_len : ℕ) (secret ad : List ℕ) (used : Config) → IsAccepted d pwd_len secret ad → IsConfigOf d secret ad used
    → used.hash_length ≡ length d.hash
own_length d pwd_len secret ad used accepted is =
    let within = settings.accepted used pwd_len (length d.salt) (length d.hash) (rw (accepted used is.stored) refl) in
    is.hash_length ∙ min-eq_left within.hash_fits

-- the settings table does not reject the configuration that an accepted value is verified with
pub stored_accepted : (d : Spelled) (pwd_len : ℕ) (secret ad : List ℕ) (used : Config) → IsAccepted d pwd_len secret ad → IsConfigOf d secret ad used
    → IsNone (table_error used pwd_len (length d.salt) used.hash_length)
unfolding table_error
stored_accepted d pwd_len secret ad used accepted is =
    rw (own_length d pwd_len secret ad used accepted is) (rw (accepted used is.stored) refl)

-- a string whose head, salt and hash decode does not decode to nothing
pub spells_some : (text : List ℕ) (h : Head) → IsSpellingOf text h → SpellsNothing text → ⊥
spells_some text h (salt, hash, is) none = none (spelled_with h salt hash) is.spells

-- the value of an `Ok` outcome has the outcome's property
pub accepted_value : {A : Type 0} (refusal : Option Error) (P : A → Type 0) (x : A) → IsOutcome refusal false P (Ok x) → P x
accepted_value None P x h = h
accepted_value (Some r) P x h = absurd (cc)

-- ---- rehashing

-- a string that decodes to nothing is rejected with `DecodingFail`
pub refuses_nothing : (text : List ℕ) (e : Error) → SpellsNothing text → Refuses text e → e ≡ DecodingFail
refuses_nothing text e none (inl (fail, _)) = fail
refuses_nothing text e none (inr (_, (d, s))) = absurd (none d s)

-- a string that decodes to a value is rejected only for lack of memory
pub refuses_some : (text : List ℕ) (d : Spelled) (e : Error) → Spells text d → Refuses text e → e ≡ OutOfMemory
refuses_some text d e s (inl (_, none)) = absurd (none d s)
refuses_some text d e s (inr (memory, _)) = memory

-- if `agrees` says whether d agrees with a configuration, `not agrees` says whether d differs from that configuration
differs_by : (d : Spelled) (config : Config) (agrees : Bool) → IsTrue agrees ↔ Agrees d config → IsTrue (not agrees) ↔ Differs d config
differs_by d config true h = ((λ t. cc), λ differs. absurd (differs (h.0 refl)))
differs_by d config false h = ((λ t agrees. let no = h.1 agrees in cc), λ differs. refl)

-- if `agrees` says whether `stored` agrees with a configuration, `not agrees` says whether the equal value d differs
pub not_agreeing : (stored d : Spelled) (config : Config) (agrees : Bool) → stored ≡ d → IsTrue agrees ↔ Agrees stored config
    → IsTrue (not agrees) ↔ Differs d config
not_agreeing stored d config agrees same h = differs_by d config agrees (subst (λ (v : Spelled). IsTrue agrees ↔ Agrees v config) same h)

-- ---- what a call leaves in the memory that its caller keeps

-- no option both equals `None` and holds a value
none_is_not_some : {A B : Type 0} (o : Option A) → o ≡ None → IsSome o → B
none_is_not_some None none some = absurd (let e : false ≡ true = some in cc)
none_is_not_some (Some x) none some = absurd (cc)

-- with accepted settings, `LeavesMemory` holds if the memory is filled after `Ok` and as in `IsLeft` after an error
pub leaves_accepted : {A : Type 0} (pwd salt : List ℕ) (config : Config) (len : ℕ) (workers : Bool) (before after : MemoryValue) (answer : Result A Error)
    → table_error config (length pwd) (length salt) len ≡ None → OnOk answer (HoldsFill (setting_of pwd salt config len) after)
    → OnErr answer (IsLeft workers (setting_of pwd salt config len) before after) → LeavesMemory pwd salt config len workers before after answer
leaves_accepted pwd salt config len workers before after answer none filled left = record {
  kept = none_is_not_some (table_error config (length pwd) (length salt) len) none;
  filled = filled;
  left = λ _. left;
}

-- the configuration's `hash_length` field does not change the setting
setting_of-hash_length : (pwd salt : List ℕ) (config : Config) (n len : ℕ)
    → setting_of pwd salt (record config { hash_length = n }) len ≡ setting_of pwd salt config len
unfolding setting_of prehash_of
setting_of-hash_length pwd salt config n len = refl

-- with accepted settings, what a call leaves with `hash_length` set to the hash's length meets `LeavesMemory`
pub leaves_of_length : {A : Type 0} (pwd salt hash : List ℕ) (config : Config) (workers : Bool) (before after : MemoryValue) (answer : Result A Error)
    → table_error config (length pwd) (length salt) (length hash) ≡ None
    → OnOk answer (HoldsFill (setting_of pwd salt (record config { hash_length = length hash }) (length hash)) after)
    → OnErr answer (IsLeft workers (setting_of pwd salt (record config { hash_length = length hash }) (length hash)) before after)
    → LeavesMemory pwd salt config (length hash) workers before after answer
leaves_of_length pwd salt hash config workers before after answer none filled left =
    let same = setting_of-hash_length pwd salt config (length hash) (length hash) in
    leaves_accepted pwd salt config (length hash) workers before after answer none (subst (λ s. OnOk answer (HoldsFill s after)) same filled)
    (subst (λ s. OnErr answer (IsLeft workers s before after)) same left)

-- configurations with equal variant, version, lanes, costs, secret and associated data have the same setting
pub setting_of-same : (x y : Config) (pwd salt : List ℕ) (len : ℕ) → x.variant ≡ y.variant → x.version ≡ y.version → x.lanes ≡ y.lanes
    → x.mem_cost ≡ y.mem_cost → x.time_cost ≡ y.time_cost → x.secret.now ≡ y.secret.now → x.ad.now ≡ y.ad.now
    → setting_of pwd salt x len ≡ setting_of pwd salt y len
unfolding setting_of prehash_of
setting_of-same x y pwd salt len variant version lanes mem_cost time_cost secret ad =
    rw (variant, version, lanes, mem_cost, time_cost, secret, ad) refl

-- a call with the configuration used for a decoded value leaves in the memory what a call with the value's own
-- configuration and workers leaves
pub stored_leaves : (v d : Spelled) (pwd secret ad : List ℕ) (used config : Config) (workers : Spelled → Bool) (before after : MemoryValue)
    (answer : Result Bool Error) → v ≡ d
    → IsConfigOf v secret ad used → IsStoredConfig d secret ad config → IsAccepted v (length pwd) secret ad
    → OnOk answer (HoldsFill (setting_of pwd v.salt used used.hash_length) after)
    → OnErr answer (IsLeft (workers v) (setting_of pwd v.salt used used.hash_length) before after)
    → LeavesMemory pwd d.salt config (length d.hash) (workers d) before after answer
stored_leaves v d pwd secret ad used config workers before after answer same used_is is accepted filled left =
    let here = subst (λ (x : Spelled). IsStoredConfig x secret ad config) (sym same) is in
    let a = used_is.stored in
    let setting : setting_of pwd v.salt used used.hash_length ≡ setting_of pwd v.salt config (length v.hash) =
    ap (λ n. setting_of pwd v.salt used n) (own_length v (length pwd) secret ad used accepted used_is)
    ∙ setting_of-same used config pwd v.salt (length v.hash) (a.variant ∙ sym here.variant) (a.version ∙ sym here.version) (a.lanes ∙ sym here.lanes)
    (a.mem_cost ∙ sym here.mem_cost) (a.time_cost ∙ sym here.time_cost) (a.secret ∙ sym here.secret) (a.ad ∙ sym here.ad) in
    subst (λ (x : Spelled). LeavesMemory pwd x.salt config (length x.hash) (workers x) before after answer) same
    (leaves_accepted pwd v.salt config (length v.hash) (workers v) before after answer (accepted config here)
    (subst (λ s. OnOk answer (HoldsFill s after)) setting filled) (subst (λ s. OnErr answer (IsLeft (workers v) s before after)) setting left))
