-- The theorems about every schedule. `code` is the prover's form of a call and of all code that the call reaches.
use Rattle.std.specs.Prelude.{◌≡◌, ◌⊎◌, ℕ, ◌<◌, ◌^◌, Bool, List, [], ◌∷◌, ◌++◌, None, Err, IsUtf8, length}
use denote.Array.{array_val}
use denote.Laws.{Is}
use denote.Param as Param
use denote.Triple.Started.{granted}
use types.Match.{live}
use Rattle.argon2_standard.specs.declared.error.Error.{Error}
use Rattle.argon2_standard.specs.Standard.Outcome.{IsResourceError}
use Rattle.argon2_standard.specs.Standard.SettingsTable.{table_error}
use Rattle.argon2_standard.specs.Standard.Tag.{tag_of}
use Rattle.argon2_standard.specs.Standard.ThreadModes.{may_lack_workers}
use denote.RattleType.{RattleType}
use denote.Signature.{type_at}
use mir.Syntax.{w32}
use mir.Val.{Val, vcons, vint, vnil, vstruct}
use prog.Wired.{Code}
use Rattle.argon2.specs.declared.limits.Limits.{Limits}
use Rattle.argon2_schedule.specs.Answers.{Anywhere, config_at, Inputs, IsTextLength, JudgesHash, JudgesText, JudgesTextWithin, ReturnsTag, ReturnsText, Stored}
use Rattle.argon2_schedule.specs.Schedules.{EverySchedule, arrays, byte_vals, instance_at, AreInputs, AreLimits, AreStored, FitArray, OfCall, Runtime, limit_vals, setting_vals}
use Rattle.argon2_schedule.specs.contracts.hash_raw_by_value as HashRaw
use Rattle.argon2_schedule.specs.contracts.hash_raw_by_value.Key as HashRawKey
use Rattle.argon2_schedule.specs.contracts.hash_encoded_by_value as HashEncoded
use Rattle.argon2_schedule.specs.contracts.hash_encoded_by_value.Key as HashEncodedKey
use Rattle.argon2_schedule.specs.contracts.verify_raw_by_value as VerifyRaw
use Rattle.argon2_schedule.specs.contracts.verify_raw_by_value.Key as VerifyRawKey
use Rattle.argon2_schedule.specs.contracts.verify_encoded_by_value as VerifyEncoded
use Rattle.argon2_schedule.specs.contracts.verify_encoded_by_value.Key as VerifyEncodedKey
use Rattle.argon2_schedule.specs.contracts.verify_within_by_value as VerifyWithin
use Rattle.argon2_schedule.specs.contracts.verify_within_by_value.Key as VerifyWithinKey

abbrev pub size_of : List ℕ → RattleType
size_of bytes = Param.number (length bytes)

-- `hash_raw` in any thread mode returns the tag, the settings table's error, or a resource error
abbrev pub HashRawReturned : Inputs → RattleType
HashRawReturned x = type_at (HashRaw.signature (size_of x.pwd) (size_of x.salt) (size_of x.secret) (size_of x.ad) (Param.number x.length) Runtime).result ([], ([], ([], ([], ([], ([], tt))))))

abbrev pub TagUnderEverySchedule : Code → Type 0
TagUnderEverySchedule code = (x : Inputs) → AreInputs x
    → OfCall code HashRawKey.name (x.pwd ∷ x.salt ∷ x.secret ∷ x.ad ∷ []) (x.length ∷ []) (setting_vals x)
    (HashRawReturned x) (λ r. ReturnsTag x r.0)

-- the machine value of a tag, beside the runtime
abbrev pub tag_value : List ℕ → Val
tag_value tag = vstruct (vcons (live 0 (vcons (array_val (byte_vals tag)) vnil)) (vcons granted vnil))

abbrev pub IsTagOrResourceError : Inputs → List ℕ → Bool → Val → Type 0
IsTagOrResourceError x tag workers v = (v ≡ tag_value tag) ⊎ ((e : Error) × IsResourceError workers e × Is (HashRawReturned x) (Err e, record { seal = tt }) (v ∷ []))

-- if the settings table accepts the settings, the machine value from `hash_raw` has the tag's bytes or a resource error
abbrev pub ExplicitTagUnderEverySchedule : Code → Type 0
ExplicitTagUnderEverySchedule code = (x : Inputs) → AreInputs x → Anywhere x.secret x.ad (λ s a. let config = config_at x s a in
    table_error config (length x.pwd) (length x.salt) x.length ≡ None
    → EverySchedule code (HashRawKey.name (instance_at (length x.pwd ∷ length x.salt ∷ length x.secret ∷ length x.ad ∷ x.length ∷ [])))
    (granted ∷ vstruct (vcons granted vnil) ∷ arrays (x.pwd ∷ x.salt ∷ x.secret ∷ x.ad ∷ []) (setting_vals x))
    (IsTagOrResourceError x (tag_of x.pwd x.salt config x.length) (may_lack_workers config)))

-- `hash_encoded` returns the PHC string of the tag, the settings table's error, or a resource error
abbrev pub HashEncodedReturned : Inputs → ℕ → RattleType
HashEncodedReturned x size = type_at (HashEncoded.signature (size_of x.pwd) (size_of x.salt) (size_of x.secret) (size_of x.ad) (Param.number size) Runtime).result ([], ([], ([], ([], ([], ([], tt))))))

abbrev pub TextUnderEverySchedule : Code → Type 0
TextUnderEverySchedule code = (x : Inputs) → AreInputs x → (size : ℕ) → size < 2 ^ 63 → IsTextLength x size
    → OfCall code HashEncodedKey.name (x.pwd ∷ x.salt ∷ x.secret ∷ x.ad ∷ []) (size ∷ []) (setting_vals x ++ vint w32 x.length ∷ [])
    (HashEncodedReturned x size) (λ r. ReturnsText x r.0)

-- `verify_raw` returns whether `hash` is the tag of as many bytes, the settings table's error, or a resource error
abbrev pub VerifyRawReturned : Inputs → List ℕ → RattleType
VerifyRawReturned x hash = type_at (VerifyRaw.signature (size_of x.pwd) (size_of x.salt) (size_of hash) (size_of x.secret) (size_of x.ad) Runtime).result ([], ([], ([], ([], ([], ([], tt))))))

abbrev pub VerdictUnderEverySchedule : Code → Type 0
VerdictUnderEverySchedule code = (x : Inputs) → AreInputs x → (hash : List ℕ) → FitArray hash
    → OfCall code VerifyRawKey.name (x.pwd ∷ x.salt ∷ hash ∷ x.secret ∷ x.ad ∷ []) [] (setting_vals x ++ vint w32 x.length ∷ [])
    (VerifyRawReturned x hash) (λ r. JudgesHash x hash r.0)

-- `verify_encoded_ext` returns the verdict on the decoded hash, `DecodingFail`, the table's error, or a resource error
abbrev pub VerifyEncodedReturned : Stored → RattleType
VerifyEncodedReturned x = type_at (VerifyEncoded.signature (size_of x.encoded) (size_of x.pwd) (size_of x.secret) (size_of x.ad) Runtime).result ([], ([], ([], ([], ([], tt)))))

abbrev pub TextVerdictUnderEverySchedule : Code → Type 0
TextVerdictUnderEverySchedule code = (x : Stored) → AreStored x → IsUtf8 x.encoded
    → OfCall code VerifyEncodedKey.name (x.encoded ∷ x.pwd ∷ x.secret ∷ x.ad ∷ []) [] []
    (VerifyEncodedReturned x) (λ r. JudgesText x r.0)

-- `verify_encoded_within` returns `TooCostly` above the limits, and otherwise what `verify_encoded_ext` returns
abbrev pub VerifyWithinReturned : Stored → RattleType
VerifyWithinReturned x = type_at (VerifyWithin.signature (size_of x.encoded) (size_of x.pwd) (size_of x.secret) (size_of x.ad) Runtime).result ([], ([], ([], ([], ([], tt)))))

abbrev pub VerdictWithinUnderEverySchedule : Code → Type 0
VerdictWithinUnderEverySchedule code = (x : Stored) → AreStored x → IsUtf8 x.encoded → (limits : Limits) → AreLimits limits
    → OfCall code VerifyWithinKey.name (x.encoded ∷ x.pwd ∷ x.secret ∷ x.ad ∷ []) [] (limit_vals limits)
    (VerifyWithinReturned x) (λ r. JudgesTextWithin x limits r.0)
