-- What is proved for the bytes that were read as the password holds for the whole input. Arguments are read in turn.
use Rattle.std.proofs.Common.{◌≡◌, ◌+◌, ◌*◌, ◌==◌, ◌++◌, ◌-◌, ◌∷◌, ◌<◌, ◌≤◌, ◌⊎◌, ℕ, Bool, true, false, List, Option, None, Some, IfSome, IsNone}
use Rattle.std.proofs.Common.{MatchOption, Result, Err, arith, inl, inr, length, min, nat_lt, refl, sym, ◌∙◌, ap, drop, subst, take, [], Vec, get_or}
use Rattle.std.proofs.Math.Nat.{min-le_left, min-le_right}
use Rattle.std.proofs.lemmas.Bool.{cases_lt, lt-ltb}
use Rattle.std.proofs.lemmas.List.{append_assoc, length-append, length-take, length-take-le, take_all, append-nil, drop_all, drop_more}
use Rattle.std.specs.Io.KnownBytes.{Consumes}
use Rattle.argon2_standard.specs.declared.config.Config.{Config}
use Rattle.argon2_standard.specs.declared.error.Error.{Error}
use Rattle.argon2_standard.specs.declared.error.Error.TheVariants.{LanesTooFew, LanesTooMany, MemoryTooLittle, PwdTooLong, TimeTooSmall}
use Rattle.argon2_standard.specs.Standard.Decoded.{decoded_config}
use Rattle.argon2_standard.specs.Standard.Outcome.{IsResourceError, IsVerdict}
use Rattle.argon2_standard.specs.Standard.SettingsTable.{first_that_applies, max_lanes, max_length, min_memory, table_error, settings_table}
use Rattle.argon2_standard.specs.Standard.ThreadModes.{may_lack_workers}
use Rattle.argon2_commands.specs.Answer.{HashAnswers, IsPassword, IsHashError, VerifyAnswers}
use Rattle.std.specs.Prelude.{IsUtf8, slice_get}
use Rattle.std.specs.declared.alloc.Global.{Global}
use Rattle.std.proofs.lemmas.Option.{get_or_from_slice_get, slice_get_cases, slice_get_within}
use Rattle.argon2_commands.specs.Words.{AreWords, HasNoText, IsArgument}
use Rattle.argon2_commands.specs.Run.{OfWords}

-- ---- passwords that are read up to a length

-- ---- a password that was read up to its greatest length

-- the bytes that were read are the whole input, or both they and the input are too long
abbrev IsEnough : List ℕ → List ℕ → Type 0
IsEnough password bytes = (password ≡ bytes) ⊎ ((nat_lt max_length (length password) ≡ true) × (nat_lt max_length (length bytes) ≡ true))

is_enough : (password bytes : List ℕ) → password ≡ take (max_length + 1) bytes → IsEnough password bytes
is_enough password bytes read = elim (cases_lt (max_length + 1) (length bytes)) [
  | inr within ↦ inl (read ∙ take_all (max_length + 1) bytes within)
  | inl long ↦
      let most : length password ≡ max_length + 1 = ap length read ∙ length-take-le (max_length + 1) bytes (omega (arith, long)) in
      inr (lt-ltb _ _ (omega (arith, most)), lt-ltb _ _ (omega (arith, long)))
]

-- if the table's row for a password that is too long applies (`long`), the table has an error
first_of : (a b c d long : Bool) (rows : List (Bool × Error)) → long ≡ true →
    (e : Error) × (first_that_applies ((a, LanesTooFew) ∷ (b, LanesTooMany) ∷ (c, MemoryTooLittle) ∷ (d, TimeTooSmall) ∷ (long, PwdTooLong) ∷ rows) ≡ Some e)
first_of true b c d long rows e = (LanesTooFew, refl)
first_of false true c d long rows e = (LanesTooMany, refl)
first_of false false true d long rows e = (MemoryTooLittle, refl)
first_of false false false true long rows e = (TimeTooSmall, refl)
first_of false false false false true rows e = (PwdTooLong, refl)
first_of false false false false false rows e = absurd (cc)

-- a password that is too long has an error in the settings table
refused_long : (config : Config) (password salt hash : ℕ) → nat_lt max_length password ≡ true → (e : Error) × (table_error config password salt hash ≡ Some e)
unfolding table_error
refused_long config password salt hash long =
    first_of (config.lanes == 0) (nat_lt max_lanes config.lanes) (nat_lt config.mem_cost (min_memory * config.lanes))
    (config.time_cost == 0) (nat_lt max_length password) (drop 5 (settings_table config password salt hash)) long

-- two passwords that are both too long have the same error in the settings table
same_table_error : (config : Config) (one other salt hash : ℕ) → nat_lt max_length one ≡ true → nat_lt max_length other ≡ true
    → table_error config one salt hash ≡ table_error config other salt hash
unfolding table_error
same_table_error config one other salt hash long also = rw (long, also) refl

-- if `IsEnough` holds, the lines for the bytes that were read are the lines for all bytes (below: errors and verdicts)
hash_of_all : (config : Config) (salt lines password bytes : List ℕ) → IsEnough password bytes → HashAnswers config salt password lines
    → HashAnswers config salt bytes lines
hash_of_all config salt lines password bytes (inl same) h = subst (λ p. HashAnswers config salt p lines) same h
hash_of_all config salt lines password bytes (inr long) h =
    let refused = refused_long config (length password) (length salt) config.hash_length long.0 in
    let none = subst IsNone refused.1 h.accepted in absurd (cc (none))

error_of_all : (config : Config) (salt : List ℕ) (error : Error) (password bytes : List ℕ) → IsEnough password bytes
    → IsHashError config salt password error → IsHashError config salt bytes error
error_of_all config salt error password bytes (inl same) h = subst (λ p. IsHashError config salt p error) same h
error_of_all config salt error password bytes (inr long) h =
    subst (λ (r : Option Error). MatchOption r (IsResourceError (may_lack_workers config) error) (λ first. error ≡ first))
    (same_table_error config (length password) (length bytes) (length salt) config.hash_length long.0 long.1) h

verdict_of_all : (config : Config) (salt hash : List ℕ) (workers : Bool) (result : Result Bool Error) (password bytes : List ℕ) → IsEnough password bytes
    → IsVerdict password salt hash config workers result → IsVerdict bytes salt hash config workers result
verdict_of_all config salt hash workers result password bytes (inl same) h = subst (λ p. IsVerdict p salt hash config workers result) same h
verdict_of_all config salt hash workers result password bytes (inr long) h =
    let one = refused_long config (length password) (length salt) (length hash) long.0 in
    let other = sym (same_table_error config (length password) (length bytes) (length salt) (length hash) long.0 long.1) ∙ one.1 in
    let told : result ≡ Err one.0 = rw one.1 at h in
    rw other told

verify_of_all : (encoded : List ℕ) (result : Result Bool Error) (password bytes : List ℕ) → IsEnough password bytes
    → VerifyAnswers encoded password result → VerifyAnswers encoded bytes result
verify_of_all encoded result password bytes enough h = record {
  unspelled = h.unspelled;
  spelled = λ d none empty spells.
      verdict_of_all (decoded_config d none none) d.salt d.hash (nat_lt 1 d.parallelism) result password bytes enough (h.spelled d none empty spells);
}

-- there is a password that the input held, for which P holds
abbrev pub OfInput : Option (List ℕ) → (List ℕ → Type 0) → Type 0
OfInput input P = (password : List ℕ) × IsPassword input password × P password

of_input : (P : List ℕ → Type 0) (input : Option (List ℕ)) (password : List ℕ) → IfSome input (λ bytes. password ≡ take (max_length + 1) bytes)
    → ((bytes : List ℕ) → IsEnough password bytes → P password → P bytes) → P password → OfInput input P
of_input P None password read all h = (password, tt, h)
of_input P (Some bytes) password read all h = (bytes, refl, all bytes (is_enough password bytes read) h)

-- `password` is the first max_length + 1 bytes of the input, or the whole input if it is shorter
abbrev WasRead : Option (List ℕ) → List ℕ → Type 0
WasRead input password = IfSome input (λ bytes. password ≡ take (max_length + 1) bytes)

pub hash_of_input : (config : Config) (salt lines : List ℕ) (input : Option (List ℕ)) (password : List ℕ) → WasRead input password
    → HashAnswers config salt password lines → OfInput input (λ p. HashAnswers config salt p lines)
hash_of_input config salt lines input password read h =
    of_input (λ p. HashAnswers config salt p lines) input password read (λ bytes enough. hash_of_all config salt lines password bytes enough) h

pub error_of_input : (config : Config) (salt : List ℕ) (error : Error) (input : Option (List ℕ)) (password : List ℕ) → WasRead input password
    → IsHashError config salt password error → OfInput input (λ p. IsHashError config salt p error)
error_of_input config salt error input password read h =
    of_input (λ p. IsHashError config salt p error) input password read (λ bytes enough. error_of_all config salt error password bytes enough) h

pub verify_of_input : (encoded : List ℕ) (result : Result Bool Error) (input : Option (List ℕ)) (password : List ℕ) → WasRead input password
    → VerifyAnswers encoded password result → OfInput input (λ p. VerifyAnswers encoded p result)
verify_of_input encoded result input password read h =
    of_input (λ p. VerifyAnswers encoded p result) input password read (λ bytes enough. verify_of_all encoded result password bytes enough) h

-- ---- one read after another

-- two reads make one longer read
pub read_on : (known now later : Option (List ℕ)) (bytes piece : List ℕ) → Consumes known now bytes → Consumes now later piece
    → Consumes known later (bytes ++ piece)
read_on None now later bytes piece gone also = tt
read_on (Some all) None later bytes piece gone also = absurd gone
read_on (Some all) (Some rest) None bytes piece gone also = absurd also
read_on (Some all) (Some rest) (Some left) bytes piece gone also = gone ∙ ap (λ r. bytes ++ r) also ∙ sym (append_assoc bytes piece left)

-- after the next piece, the bytes that were read are still at most `most`
pub piece_fits : (bytes buf piece : List ℕ) (count room most : ℕ) → length bytes ≤ most → count ≤ length buf → count ≡ length (take count buf)
    → length buf ≡ length (take room piece) → room ≡ min 4096 (most - length bytes) → length (bytes ++ take count buf) ≤ most
piece_fits bytes buf piece count room most within of_buf taken same left =
    let room_left = min-le_right 4096 (most - length bytes) in
    let of_piece = min-le_left room (length piece) in
    let is = same ∙ length-take room piece in
    rw (length-append bytes (take count buf)) (omega (arith, within, of_buf, sym taken, is, of_piece, left, room_left))

-- ---- arguments that are read in turn

-- the words so far, and the arguments from the index on, are all arguments after the program's name
abbrev pub IsReadTo : Option (List (List ℕ)) → List (List ℕ) → ℕ → Type 0
IsReadTo known words index = IfSome known (λ all. words ++ drop index all ≡ drop 1 all)

-- `IsReadTo` holds at the start: no words so far, and index 1
pub none_read : (known : Option (List (List ℕ))) → IsReadTo known [] 1
none_read None = tt
none_read (Some all) = refl

-- if there is no argument at an index, no arguments are left from this index on
rest_past : (all : List (List ℕ)) (index : ℕ) → slice_get all index ≡ None →
    ((x : List ℕ) × (index < length all) × (slice_get all index ≡ Some x) × (get_or all index x ≡ x)) ⊎ ((length all ≤ index) × (slice_get all index ≡ None)) →
    drop index all ≡ []
rest_past all index none (inl (x, within, some, same)) = absurd (cc (none, some))
rest_past all index none (inr (past, still)) = drop_all index all past

-- if no argument was found at the index, the words so far are all words of the command line
pub all_read : (known : Option (List (List ℕ))) (words : List (List ℕ)) (index : ℕ) → IsReadTo known words index → IsArgument known index None →
    AreWords known words
all_read None words index read found = tt
all_read (Some all) words index read found =
    sym (append-nil words) ∙ ap (λ rest. words ++ rest) (sym (rest_past all index (sym found) (slice_get_cases all index).1)) ∙ read

-- an argument that was found is the next word
pub one_more : (known : Option (List (List ℕ))) (words : List (List ℕ)) (index : ℕ) (bytes : Vec ℕ Global) →
    IsReadTo known words index → IsArgument known index (Some bytes) → IsReadTo known (words ++ bytes.items ∷ []) (index + 1)
one_more None words index bytes read found = tt
one_more (Some all) words index bytes read found =
    append_assoc words (bytes.items ∷ []) (drop (index + 1) all)
    ∙ ap (λ rest. words ++ rest)
    (ap (λ word. word ∷ drop (index + 1) all) (sym (get_or_from_slice_get all index bytes.items [] (sym found)))
    ∙ sym (drop_more all index [] (slice_get_within all index bytes.items (sym found))))
    ∙ read

-- if an argument at an index above 0 is not UTF-8, `HasNoText` holds of the arguments
pub no_text : (known : Option (List (List ℕ))) (index : ℕ) (bytes : Vec ℕ Global) → 0 < index → IsArgument known index (Some bytes) →
    (IsUtf8 bytes.items → ⊥) → HasNoText known
no_text None index bytes later found none = tt
no_text (Some all) index bytes later found none = (index, bytes.items, later, sym found, none)

-- what is true of all words is true of the words of the command line
pub of_all_words : (known : Option (List (List ℕ))) (P : List (List ℕ) → Type 0) → ((words : List (List ℕ)) → P words) → OfWords known P
of_all_words None P h = ([], tt, h [])
of_all_words (Some all) P h = (drop 1 all, refl, h (drop 1 all))
