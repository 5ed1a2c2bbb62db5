-- Arguments that are not what they have to be are those of no command.
use Rattle.std.proofs.Common.{◌≡◌, ◌<◌, ◌+◌, ℕ, zero, suc, List, [], ◌∷◌, length, slice_index_or, nat_eq, cond, Option, None, Some, MatchOption}
use Rattle.std.proofs.Common.{IsSome, arith, string_bytes, sym, refl, ◌∙◌, ap, subst}
use Rattle.std.specs.declared.alloc.Global.{Global}
use Rattle.std.specs.declared.string.String.{String}
use Rattle.std.proofs.lemmas.List.{get_or-map}
use Rattle.std.proofs.lemmas.Option.{get_or_from_slice_get, slice_get_within}
use Rattle.std.specs.Prelude.{slice_get}
use Rattle.argon2_standard.specs.declared.config.Config.{Config}
use Rattle.argon2_commands.specs.Usage.{AreRight, FitBelow, IsNoName, IsWrong, SettingsFit, kinds_of, name_text}
use Rattle.argon2_commands.specs.Words.{IsCommand, IsHash, IsNoCommand, IsNumber, IsRehash, texts_of, word}
use Rattle.argon2_commands.specs.declared.command.Command.{Command}
use Rattle.argon2_commands.specs.declared.usage.Kind.{Kind}
use Rattle.argon2_commands.specs.declared.usage.Kind.TheVariants.{Variant, Version, Number, Text}
use Rattle.argon2_commands.specs.declared.usage.Name.{Name}
use Rattle.argon2_commands.specs.declared.usage.Name.TheVariants.{Hash, Verify, Rehash}
use Rattle.argon2_commands.specs.declared.command.Command.TheVariants as commands

-- ---- arguments that are not what they have to be are those of no command

-- the word at a place of `texts_of words` is the text of the string at this place of `words`
pub word-texts_of : (words : List (String Global)) (place : ℕ) (s : String Global) (text : List ℕ) → place < length words
    → s ≡ slice_index_or words place s → text ≡ string_bytes s → word (texts_of words) place ≡ text
word-texts_of words place s text h is e = get_or-map string_bytes words place s [] h ∙ ap string_bytes (sym is) ∙ sym e

-- the first string is the one at place 0
pub first_word : (words : List (String Global)) (first : String Global) (text : List ℕ) → Some first ≡ slice_get words 0
    → text ≡ string_bytes first → word (texts_of words) 0 ≡ text
first_word words first text found e =
    word-texts_of words 0 first text (slice_get_within words 0 first (sym found)) (sym (get_or_from_slice_get words 0 first first (sym found))) e

-- if a text is a number, reading the text returned a number
pub number_read : (text : List ℕ) (read : Option ℕ) → MatchOption read ((n : ℕ) → IsNumber text n → ⊥) (IsNumber text)
    → ((n : ℕ) × IsNumber text n) → IsSome read
number_read text None none fits = absurd (none fits.0 fits.1)
number_read text (Some n) is fits = refl

-- ---- the arguments of a command are what they have to be

module _ (words : List (List ℕ)) where
  hash_fits : (config : Config) (salt : List ℕ) → IsHash words config salt → FitBelow (kinds_of Hash) words 9
  hash_fits config salt is zero within = tt
  hash_fits config salt is (suc zero) within = (config.variant, is.settings.variant)
  hash_fits config salt is (suc (suc zero)) within = (config.version, is.settings.version)
  hash_fits config salt is (suc (suc (suc zero))) within = (config.time_cost, is.settings.time_cost)
  hash_fits config salt is (suc (suc (suc (suc zero)))) within = (config.mem_cost, is.settings.mem_cost)
  hash_fits config salt is (suc (suc (suc (suc (suc zero))))) within = (config.lanes, is.settings.lanes)
  hash_fits config salt is (suc (suc (suc (suc (suc (suc zero)))))) within = (config.hash_length, is.settings.hash_length)
  hash_fits config salt is (suc (suc (suc (suc (suc (suc (suc zero))))))) within = (config.thread_mode, is.mode)
  hash_fits config salt is (suc (suc (suc (suc (suc (suc (suc (suc zero)))))))) within = tt
  hash_fits config salt is (suc (suc (suc (suc (suc (suc (suc (suc (suc n))))))))) within = absurd (omega (arith, within))

  rehash_fits : (config : Config) (encoded : List ℕ) → IsRehash words config encoded → FitBelow (kinds_of Rehash) words 8
  rehash_fits config encoded is zero within = tt
  rehash_fits config encoded is (suc zero) within = (config.variant, is.settings.variant)
  rehash_fits config encoded is (suc (suc zero)) within = (config.version, is.settings.version)
  rehash_fits config encoded is (suc (suc (suc zero))) within = (config.time_cost, is.settings.time_cost)
  rehash_fits config encoded is (suc (suc (suc (suc zero)))) within = (config.mem_cost, is.settings.mem_cost)
  rehash_fits config encoded is (suc (suc (suc (suc (suc zero))))) within = (config.lanes, is.settings.lanes)
  rehash_fits config encoded is (suc (suc (suc (suc (suc (suc zero)))))) within = (config.hash_length, is.settings.hash_length)
  rehash_fits config encoded is (suc (suc (suc (suc (suc (suc (suc zero))))))) within = tt
  rehash_fits config encoded is (suc (suc (suc (suc (suc (suc (suc (suc n)))))))) within = absurd (omega (arith, within))

  text_fits : FitBelow (kinds_of Verify) words 2
  text_fits zero within = tt
  text_fits (suc zero) within = tt
  text_fits (suc (suc n)) within = absurd (omega (arith, within))

  right : (command : Command) → IsCommand words command → (name : Name) × AreRight words name
  right (commands.Hash config salt) is = (Hash, record { is = is.name; count = is.count; fit = hash_fits config salt.now is })
  right (commands.Verify encoded) is = (Verify, record { is = is.name; count = is.count; fit = text_fits })
  right (commands.Rehash config encoded) is = (Rehash, record { is = is.name; count = is.count; fit = rehash_fits config encoded.now is })

-- arguments that fit one name fit an equal name; the settings of fitting arguments fit too
pub fits_as : (words : List (List ℕ)) (name other : Name) → FitBelow (kinds_of name) words (length (kinds_of name)) → name ≡ other
    → FitBelow (kinds_of other) words (length (kinds_of other))
fits_as words name other fit same = subst (λ n. FitBelow (kinds_of n) words (length (kinds_of n))) same fit

pub settings_of : (words : List (List ℕ)) (rest : List Kind) (n : ℕ)
    → FitBelow (Text ∷ Variant ∷ Version ∷ Number ∷ Number ∷ Number ∷ Number ∷ rest) words (7 + n) → SettingsFit words
settings_of words rest n fit = record {
  variant = fit 1 (omega arith);
  version = fit 2 (omega arith);
  time_cost = fit 3 (omega arith);
  mem_cost = fit 4 (omega arith);
  lanes = fit 5 (omega arith);
  hash_length = fit 6 (omega arith);
}

-- names are told apart by their first letters
abbrev named_by : ℕ → Name
named_by letter = cond (nat_eq letter 104) Hash (cond (nat_eq letter 118) Verify Rehash)

first_letter : (name : Name) → named_by (slice_index_or (name_text name) 0 0) ≡ name
first_letter Hash = refl
first_letter Verify = refl
first_letter Rehash = refl

same_name : {word : List ℕ} (one other : Name) → word ≡ name_text one → word ≡ name_text other → one ≡ other
same_name one other is also =
    sym (first_letter one) ∙ ap (λ text. named_by (slice_index_or text 0 0)) (sym is ∙ also) ∙ first_letter other

-- ---- why arguments are those of no command

pub no_name : (words : List (List ℕ)) → IsNoName (word words 0) → IsNoCommand words
no_name words none command is = let it = right words command is in none it.0 it.1.is

pub other_count : (words : List (List ℕ)) (name : Name) → word words 0 ≡ name_text name → (length words ≡ length (kinds_of name) → ⊥) → IsNoCommand words
other_count words name named other command is =
    let it = right words command is in
    other (it.1.count ∙ ap (λ n. length (kinds_of n)) (same_name it.0 name it.1.is named))

pub wrong_word : (words : List (List ℕ)) (name : Name) (place : ℕ) → word words 0 ≡ name_text name → IsWrong (kinds_of name) words place → IsNoCommand words
wrong_word words name place named wrong command is =
    let it = right words command is in
    wrong.1 (fits_as words it.0 name it.1.fit (same_name it.0 name it.1.is named) place wrong.0)
