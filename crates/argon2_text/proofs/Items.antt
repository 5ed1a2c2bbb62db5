-- The items of a string, and what stands in front of them.
use Rattle.std.proofs.Common.{◌≡◌, ◌≢◌, Bool, false, ℕ, zero, suc, List, [], ◌∷◌, ◌++◌, length, get_or, take, drop, refl, sym, ap, ◌∙◌, arith, subst}
use Rattle.std.proofs.Common.{Option, None, Some, Result, Ok, ◌*◌, ◌≤◌, ◌/◌, nat_lt, inl, inr, Err, append_assoc}
use Rattle.base64.specs.Decode.{IsWrittenOver, or_else, groups_before_last, groups_error, lone_error, suffix_error, decode_error, decoded_bytes}
use Rattle.base64.specs.Decode.{decode_slice_result}
use Rattle.base64.specs.declared.decode.DecodeError.{DecodeError}
use Rattle.base64.specs.declared.decode.DecodeSliceError.{DecodeSliceError}
use Rattle.base64.specs.declared.engine.general_purpose.GeneralPurpose.{GeneralPurpose}
use Rattle.base64.specs.declared.engine.DecodePaddingMode.{DecodePaddingMode}
use Rattle.base64.proofs.RoundTrip.{decode-encode, length-encode_symbols}
use Rattle.std.proofs.lemmas.Bool.{le-ltb}
use Rattle.std.proofs.lemmas.List.{append-nil, take-append-drop}
use Rattle.std.proofs.Math.ListN.{drop_of_length-le}
use Rattle.base64.specs.Rfc4648.{encode_symbols, unpadded_len}
use Rattle.base64.specs.Engines.{standard_no_pad}
use Rattle.base64.specs.GeneralPurpose.{IsBytes, decode_of, decode_slice_of, decoded_bytes_of}
use Rattle.base64.proofs.EngineFacts.{decode_of-encode_of, front_bytes}
use Rattle.std.specs.Prelude.{◌↔◌, IsTrue, OnOk, codes, IfSome, MatchOption, MatchResult}
use Rattle.argon2_standard.specs.Standard.Text.{base64, Spelled, spelled_of, text_of}
use Rattle.argon2_standard.specs.Standard.Grammar.{Lacks, IsItem, Pieces, IsVersion, IsCut, IsHead, Spells, SpellsNothing}
use Rattle.argon2_text.specs.Views.Faults.{IsSomeItem, HasSplit, IsSplit}
use Rattle.argon2_text.proofs.Letters.{alphabet, base64-symbols}
use Rattle.argon2_text.proofs.Pieces.{any_lacks, number_lacks, IsClean, pieces-again}
use Rattle.std.specs.Fmt.{digits}
use Rattle.argon2_standard.specs.declared.variant.Variant.{Variant}
use Rattle.argon2_standard.specs.declared.variant.Variant.TheVariants.{Argon2d, Argon2i, Argon2id}
use Rattle.argon2_standard.specs.declared.version.Version.{Version}
use Rattle.argon2_standard.specs.declared.version.Version.TheVariants.{Version10, Version13}
use Rattle.argon2_text.specs.declared.encoding.reading.Head.{Head}
use Rattle.argon2_standard.specs.Standard.Variant.{lowercase_name, capitalised_name, IsName}
use Rattle.argon2_standard.specs.Standard.Version.{version_text}
use Rattle.argon2_text.specs.Views.Cutting.{pieces_of}
use Rattle.argon2_text.specs.Views.Texts.{IsHeadOf, IsSpellingOf, settings_of, front_of}
use Rattle.std.specs.Result.{result_ok}
use Rattle.argon2_standard.specs.declared.config.Config.{Config}

-- ---- base64 of bytes has no `$`, determines the bytes, and has the unpadded length

-- a list that lacks c has no c at any place, nor past its end, where 0 is read
symbol_lacks : (c : ℕ) (t : List ℕ) (i : ℕ) → 0 ≢ c → Lacks c t → get_or t i 0 ≢ c
symbol_lacks c [] i zero_other h = zero_other
symbol_lacks c (x ∷ t) zero zero_other h = h.0
symbol_lacks c (x ∷ t) (suc i) zero_other h = symbol_lacks c t i zero_other h.1

-- if no symbol is c, the encoding of bytes with these symbols lacks c
encode_lacks : (c : ℕ) (t m : List ℕ) → ((i : ℕ) → get_or t i 0 ≢ c) → Lacks c (encode_symbols t m)
unfolding encode_symbols
encode_lacks c t [] h = tt
encode_lacks c t (a ∷ []) h = (h _, (h _, tt))
encode_lacks c t (a ∷ b ∷ []) h = (h _, (h _, (h _, tt)))
encode_lacks c t (a ∷ b ∷ d ∷ rest) h = (h _, (h _, (h _, (h _, encode_lacks c t rest h))))

-- the base64 of any bytes has no `$`
pub base64_lacks : (bytes : List ℕ) → Lacks 36 (base64 bytes)
base64_lacks bytes =
    let letters : Lacks 36 alphabet = any_lacks 36 alphabet refl in
    rw (base64-symbols bytes) (encode_lacks 36 alphabet bytes (λ i. symbol_lacks 36 alphabet i (λ e. cc) letters))

-- a string is the base64 of at most one list of bytes
pub item_unique : (text a b : List ℕ) → IsItem text a → IsItem text b → a ≡ b
item_unique text a b x y =
    let first = decode_of-encode_of standard_no_pad a refl x.bytes_fit in
    let second = decode_of-encode_of standard_no_pad b refl y.bytes_fit in
    let same : base64 a ≡ base64 b = sym x.encoded ∙ y.encoded in
    let both = sym first ∙ ap (decode_of standard_no_pad) same ∙ second in
    cc

-- the base64 of bytes has the unpadded length for that many bytes
pub length-base64 : (bytes : List ℕ) → length (base64 bytes) ≡ unpadded_len (length bytes)
length-base64 bytes = rw (base64-symbols bytes) (length-encode_symbols alphabet bytes)

-- two lists of bytes, joined, are a list of bytes
pub both_bytes : (a b : List ℕ) → IsBytes a → IsBytes b → IsBytes (a ++ b)
both_bytes [] b p q i = q i
both_bytes (x ∷ a) b p q zero = p 0
both_bytes (x ∷ a) b p q (suc i) = both_bytes a b (λ k. p (suc k)) q i

-- the front of a list of bytes is a list of bytes
pub take_bytes : (n : ℕ) (bytes : List ℕ) → IsBytes bytes → IsBytes (take n bytes)
take_bytes n bytes h = front_bytes (take n bytes) (drop n bytes) (rw (take-append-drop n bytes) h)

-- a string that fails the check is no item
pub no_item : (text : List ℕ) (told : Bool) → IsTrue told ↔ IsSomeItem text → told ≡ false → IsSomeItem text → ⊥
no_item text told tells fails item = let t = sym fails ∙ tells.1 item in cc

-- ---- how the crate `base64` decodes an item

-- if `or_else` of two errors is none, both are none
no_errors : (x y : Option DecodeError) → or_else x y ≡ None → (x ≡ None) × (y ≡ None)
no_errors None y e = (refl, e)
no_errors (Some e) y none = absurd cc

-- a string without errors decodes into a buffer of exactly its decoded length, if the groups before the last fit
slice_decoded : (dec s bytes : List ℕ) (pad : ℕ) (allow : Bool) (mode : DecodePaddingMode) (len : ℕ) → decode_error dec pad allow mode s ≡ None
    → decoded_bytes dec pad s ≡ bytes → length bytes ≡ len → groups_before_last (length s) ≤ len / 3
    → decode_slice_result dec pad allow mode s len ≡ Ok len
slice_decoded dec s bytes pad allow mode len none is fits groups =
    let groups_and_last = or_else (groups_error dec s (groups_before_last (length s)))
    (suffix_error dec pad allow mode (4 * groups_before_last (length s)) s) in
    let both = no_errors (lone_error dec pad s) groups_and_last none in
    let room : nat_lt (len / 3) (groups_before_last (length s)) ≡ false = le-ltb (len / 3) (groups_before_last (length s)) groups in
    let end : nat_lt len len ≡ false = le-ltb len len (omega arith) in
    rw (both.0, room, both.1, is, fits, end) refl

-- if a buffer has exactly an item's decoded length, crate `base64` fills it with the item's bytes
pub item_filled : (text old new : List ℕ) (r : Result ℕ DecodeSliceError) → IsSomeItem text → length old ≡ 3 * length text / 4
    → r ≡ decode_slice_of standard_no_pad text (length old) → OnOk r (IsWrittenOver (decoded_bytes_of standard_no_pad text) old new)
    → (r ≡ Ok (length old)) × IsItem text new
item_filled text old new r (bytes, item) fits value written =
    let e : GeneralPurpose = standard_no_pad in
    let letters : length text ≡ length (base64 bytes) = ap length item.encoded in
    let len : length bytes ≡ length old = omega (arith, length-base64 bytes, letters, fits) in
    let both = decode-encode e.encode_table e.decode_table bytes e.padding.value e.config.decode_allow_trailing_bits e.config.decode_padding_mode
    e.config.encode_padding e.tables item.bytes_fit refl in
    let none : decode_error e.decode_table e.padding.value e.config.decode_allow_trailing_bits e.config.decode_padding_mode text ≡ None =
    rw item.encoded both.0 in
    let is : decoded_bytes e.decode_table e.padding.value text ≡ bytes = rw item.encoded both.1 in
    let ok : r ≡ Ok (length old) = value ∙ slice_decoded e.decode_table text bytes e.padding.value e.config.decode_allow_trailing_bits
    e.config.decode_padding_mode (length old) none is len (omega (arith, letters, length-base64 bytes, len)) in
    let put : new ≡ decoded_bytes_of e text ++ drop (length (decoded_bytes_of e text)) old = rw ok at written in
    let rest : drop (length bytes) old ≡ [] = drop_of_length-le old (omega (arith, len)) in
    let all : new ≡ bytes = rw (put, is, rest) (append-nil bytes) in
    (ok, subst (λ (x : List ℕ). IsItem text x) (sym all) item)

-- ---- the pieces of a decoded head are clean, so a string has at most one split with a head

-- no `$` stands in the lowercase name of a variant
lowercase_lacks : (variant : Variant) → Lacks 36 (lowercase_name variant)
lowercase_lacks Argon2d = any_lacks 36 (codes "argon2d") refl
lowercase_lacks Argon2i = any_lacks 36 (codes "argon2i") refl
lowercase_lacks Argon2id = any_lacks 36 (codes "argon2id") refl

-- no `$` stands in the capitalised name of a variant
capitalised_lacks : (variant : Variant) → Lacks 36 (capitalised_name variant)
capitalised_lacks Argon2d = any_lacks 36 (codes "Argon2d") refl
capitalised_lacks Argon2i = any_lacks 36 (codes "Argon2i") refl
capitalised_lacks Argon2id = any_lacks 36 (codes "Argon2id") refl

-- no `$` stands in either name of a variant
name_lacks : (name : List ℕ) (variant : Variant) → IsName name variant → Lacks 36 name
name_lacks name variant (inl e) = rw e (lowercase_lacks variant)
name_lacks name variant (inr e) = rw e (capitalised_lacks variant)

-- no `$` stands in the number of a version as it is written
number_of_lacks : (version : Version) → Lacks 36 (version_text version)
unfolding digits
number_of_lacks Version10 = any_lacks 36 (codes "16") refl
number_of_lacks Version13 = any_lacks 36 (codes "19") refl

-- no `$` stands in the piece of a version, if there is such a piece
version_lacks : (piece : Option (List ℕ)) (version : Version) → IsVersion piece version → IfSome piece (Lacks 36)
version_lacks None version h = tt
version_lacks (Some number) version h = rw h (number_of_lacks version)

-- pieces that are a cut of a string (`IsCut`) are also a split of the string (`IsSplit`)
pub split_of : (text : List ℕ) (p : Pieces) → IsCut text p → IsSplit text p
split_of text p cut = record { whole = cut.whole; salt = cut.salt }

-- pieces that are a split of a string and decode to a head are clean (`IsClean`)
pub head_clean : (text : List ℕ) (p : Pieces) (d : Spelled) → IsSplit text p → IsHead p d → IsClean p
head_clean text p d cut head = record {
  name = name_lacks p.name d.variant head.name;
  version = version_lacks p.version d.version head.version;
  memory = number_lacks 44 p.memory d.mem_cost (λ h. omega arith) (λ h. omega arith) head.memory;
  time = number_lacks 44 p.time d.time_cost (λ h. omega arith) (λ h. omega arith) head.time;
  lanes = number_lacks 36 p.lanes d.parallelism (λ h. omega arith) (λ h. omega arith) head.lanes;
  salt = cut.salt;
}

-- if a split of a string decodes to a head, `pieces_of` finds the pieces of this split
pub head_cut : (text : List ℕ) (p : Pieces) (d : Spelled) → IsSplit text p → IsHead p d → pieces_of text ≡ Some p
head_cut text p d cut head = ap pieces_of cut.whole ∙ pieces-again p (head_clean text p d cut head)

-- two splits of one string that each decode to a head have the same pieces
pub pieces_unique : (text : List ℕ) (p q : Pieces) (d e : Spelled) → IsSplit text p → IsHead p d → IsSplit text q → IsHead q e → p ≡ q
pieces_unique text p q d e cut_p head_p cut_q head_q =
    let both = sym (head_cut text p d cut_p head_p) ∙ head_cut text q e cut_q head_q in
    cc

-- a string in which `pieces_of` finds no pieces has no head
pub no_head : (text : List ℕ) → None ≡ pieces_of text → HasSplit text → ⊥
no_head text none (p, d, cut, head) =
    let e = none ∙ head_cut text p d cut head in
    cc

-- a string in which `pieces_of` finds pieces, and which has a head, has the head of these pieces
pub head_at : (text : List ℕ) (p : Pieces) → Some p ≡ pieces_of text → HasSplit text → (d : Spelled) × IsHead p d
head_at text p some (q, d, cut, head) =
    let e = some ∙ head_cut text q d cut head in
    let same : q ≡ p = cc in
    (d, subst (λ (x : Pieces). IsHead x d) same head)

-- ---- decodings

-- the items of a string's head encode the salt and the hash of any value that the string decodes to
pub items_at : (text : List ℕ) (h : Head) (d : Spelled) → IsHeadOf text h → Spells text d → IsItem h.salt.now d.salt × IsItem h.hash.now d.hash
items_at text h d head s =
    let same : s.pieces ≡ head.pieces = pieces_unique text s.pieces head.pieces d (settings_of h) (split_of text s.pieces s.cut) s.head head.cut head.head in
    let salt : s.pieces.salt ≡ h.salt.now = ap (λ (p : Pieces). p.salt) same ∙ head.salt in
    let hash : s.pieces.hash ≡ h.hash.now = ap (λ (p : Pieces). p.hash) same ∙ head.hash in
    (subst (λ (t : List ℕ). IsItem t d.salt) salt s.salt, subst (λ (t : List ℕ). IsItem t d.hash) hash s.hash)

-- a string with a head whose salt is no item decodes to nothing
pub saltless : (text : List ℕ) (h : Head) → IsHeadOf text h → (IsSomeItem h.salt.now → ⊥) → SpellsNothing text
saltless text h head none d s = none (d.salt, (items_at text h d head s).0)

-- a string with a head whose hash is no item decodes to nothing
pub hashless : (text : List ℕ) (h : Head) → IsHeadOf text h → (IsSomeItem h.hash.now → ⊥) → SpellsNothing text
hashless text h head none d s = none (d.hash, (items_at text h d head s).1)

-- a string with a head whose salt and hash are items decodes to a value
pub spelling_at : (text : List ℕ) (h : Head) → IsHeadOf text h → IsSomeItem h.salt.now → IsSomeItem h.hash.now → IsSpellingOf text h
spelling_at text h head (salt, salt_item) (hash, hash_item) = (
  salt,
  hash,
  record {
    spells = record {
      pieces = head.pieces;
      cut = record { whole = head.cut.whole; salt = head.cut.salt; hash = rw (head.hash, hash_item.encoded) (base64_lacks hash) };
      head = record { name = head.head.name; version = head.head.version; memory = head.head.memory; time = head.head.time; lanes = head.head.lanes };
      salt = subst (λ (t : List ℕ). IsItem t salt) (sym head.salt) salt_item;
      hash = subst (λ (t : List ℕ). IsItem t hash) (sym head.hash) hash_item;
    };
    salt_item = salt_item;
    hash_item = hash_item;
  },
)

-- ---- what is written in steps is the encoded hash

-- the front followed by the salt, a `$` and the hash, written one by one, is the value's string
pub text_in_steps : (c : Config) (salt hash front with_salt with_mark whole : List ℕ) → front ≡ front_of c → with_salt ≡ front ++ base64 salt
    → with_mark ≡ with_salt ++ codes "$" → whole ≡ with_mark ++ base64 hash → whole ≡ text_of (spelled_of c salt hash)
unfolding text_of
text_in_steps c salt hash front with_salt with_mark whole e0 e1 e2 e3 = rw (e3, e2, e1, e0) (simp append_assoc)

-- `result_ok` drops the fault of a result: `Some` has the value that was read, and for `None` `Nothing` holds
pub read_part : {A E : Type 0} → (Nothing : Type 0) (IsRead : A → Type 0) (IsFault : E → Type 0) (r : Result A E)
    → MatchResult r IsRead (λ e. IsFault e × Nothing) → MatchOption (result_ok r) Nothing IsRead
read_part Nothing IsRead IsFault (Ok a) h = h
read_part Nothing IsRead IsFault (Err e) h = h.1
