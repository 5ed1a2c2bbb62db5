-- Proofs of the theorems about encoded hashes.
use Rattle.std.proofs.Common.{◌≡◌, ℕ, ◌==◌, if◌then◌else◌, List, get_or, Option, Some, None, refl, sym, ap, subst, ◌∙◌, inl, inr, ◌+◌, cond, ◌⊎◌, []}
use Rattle.std.proofs.Common.{◌∷◌, ◌++◌, arith, zero-add, ◌<◌, ◌^◌, append_assoc, rules}
use Rattle.std.specs.Fmt.{digits, decimal}
use Rattle.argon2_standard.specs.declared.variant.Variant.{Variant}
use Rattle.argon2_standard.specs.declared.variant.Variant.TheVariants.{Argon2d, Argon2i, Argon2id}
use Rattle.argon2_standard.specs.declared.version.Version.{Version}
use Rattle.argon2_standard.specs.declared.version.Version.TheVariants.{Version10, Version13}
use Rattle.argon2_standard.specs.Standard.Variant.{IsName, lowercase_name, capitalised_name}
use Rattle.argon2_standard.specs.Standard.Version.{version_text}
use Rattle.argon2_standard.specs.Standard.Text.{Spelled, base64, text_of}
use Rattle.argon2_standard.specs.Standard.Grammar.{IsHead, IsItem, IsVersion, Pieces, Lacks, text_of_pieces, version_part, IsNumber}
use Rattle.argon2.specs.Theorems.Texts.{SpellsOne, HeadHasItems, IsJoinedItems, SpellsExample, SpellsOwnValue, WritesExample, example_value}
use Rattle.argon2_text.proofs.Pieces.{number_unique, number_lacks, IsClean, any_lacks}
use Rattle.argon2_text.proofs.Items.{item_unique, pieces_unique, split_of, head_clean, base64_lacks}
use Rattle.std.specs.Prelude.{codes, count_by, IfSome}
use Rattle.std.proofs.lemmas.Bool.{ne_eqb}
use Rattle.std.proofs.lemmas.List.Sums.{sum_by-append, sum_by-cons}
use Rattle.std.specs.List.{join_with_byte}
use Rattle.std.proofs.lemmas.Fmt.{decimal_is_IsNumeral}
use Rattle.base64.specs.Rfc4648.{encode_symbols}
use Rattle.argon2_text.proofs.Writing.{told}

-- ---- a string decodes to at most one value

-- the variant that a name stands for
abbrev named : List ℕ → Variant
named name = if get_or name 6 0 == 100 then Argon2d else if get_or name 7 0 == 100 then Argon2id else Argon2i

-- the lowercase name of a variant stands for it
named-lowercase : (v : Variant) → named (lowercase_name v) ≡ v
named-lowercase Argon2d = refl
named-lowercase Argon2i = refl
named-lowercase Argon2id = refl

-- the capitalized name of a variant stands for it
named-capitalised : (v : Variant) → named (capitalised_name v) ≡ v
named-capitalised Argon2d = refl
named-capitalised Argon2i = refl
named-capitalised Argon2id = refl

-- any name of a variant stands for it
named-name : (name : List ℕ) (v : Variant) → IsName name v → named name ≡ v
named-name name v (inl e) = ap named e ∙ named-lowercase v
named-name name v (inr e) = ap named e ∙ named-capitalised v

-- a string is the name of at most one variant
name_unique : (name : List ℕ) (v w : Variant) → IsName name v → IsName name w → v ≡ w
name_unique name v w a b = sym (named-name name v a) ∙ named-name name w b

-- the version that a written number stands for
abbrev numbered : List ℕ → Version
numbered number = if get_or number 1 0 == 54 then Version10 else Version13

numbered-version : (v : Version) → numbered (version_text v) ≡ v
unfolding digits
numbered-version Version10 = refl
numbered-version Version13 = refl

-- a version piece stands for at most one version
version_unique : (piece : Option (List ℕ)) (v w : Version) → IsVersion piece v → IsVersion piece w → v ≡ w
version_unique None v w a b = a ∙ sym b
version_unique (Some number) v w a b = sym (ap numbered a ∙ numbered-version v) ∙ ap numbered b ∙ numbered-version w

-- the decoded value with these fields
abbrev record_of : Variant → Version → ℕ → ℕ → ℕ → List ℕ → List ℕ → Spelled
record_of variant version mem_cost time_cost parallelism salt hash =
    record { variant = variant; version = version; mem_cost = mem_cost; time_cost = time_cost; parallelism = parallelism; salt = salt; hash = hash }

-- decoded values that agree in every field are equal
same_value : (d e : Spelled) → d.variant ≡ e.variant → d.version ≡ e.version → d.mem_cost ≡ e.mem_cost → d.time_cost ≡ e.time_cost
    → d.parallelism ≡ e.parallelism → d.salt ≡ e.salt → d.hash ≡ e.hash → d ≡ e
same_value d e variant version mem_cost time_cost parallelism salt hash =
    let made : record_of d.variant d.version d.mem_cost d.time_cost d.parallelism d.salt d.hash
    ≡ record_of e.variant e.version e.mem_cost e.time_cost e.parallelism e.salt e.hash = rw
    (variant, version, mem_cost, time_cost, parallelism, salt, hash) refl in
    made

-- a string decodes to at most one value
pub spells_one : SpellsOne
spells_one text d e s t =
    let same : s.pieces ≡ t.pieces = pieces_unique text s.pieces t.pieces d e (split_of text s.pieces s.cut) s.head (split_of text t.pieces t.cut) t.head in
    let head : IsHead t.pieces d = subst (λ (p : Pieces). IsHead p d) same s.head in
    let salt : IsItem t.pieces.salt d.salt = subst (λ (p : Pieces). IsItem p.salt d.salt) same s.salt in
    let hash : IsItem t.pieces.hash d.hash = subst (λ (p : Pieces). IsItem p.hash d.hash) same s.hash in
    same_value d e (name_unique t.pieces.name d.variant e.variant head.name t.head.name)
    (version_unique t.pieces.version d.version e.version head.version t.head.version)
    (number_unique t.pieces.memory d.mem_cost e.mem_cost head.memory t.head.memory)
    (number_unique t.pieces.time d.time_cost e.time_cost head.time t.head.time)
    (number_unique t.pieces.lanes d.parallelism e.parallelism head.lanes t.head.lanes)
    (item_unique t.pieces.salt d.salt e.salt salt t.salt)
    (item_unique t.pieces.hash d.hash e.hash hash t.hash)

-- ---- a string with a decoded head holds four or five `$`, the first at its front

-- how many `$` stand in a string
abbrev marks : List ℕ → ℕ
marks text = count_by (λ b. b == 36) text

-- if no byte of a string is `$`, the string's count of `$` is 0
marks_none : (text : List ℕ) → Lacks 36 text → marks text ≡ 0
marks_none [] lacks = refl
marks_none (b ∷ text) lacks = rw (sum_by-cons (λ x. cond (x == 36) 1 0) b text, ne_eqb b 36 lacks.0, zero-add) (marks_none text lacks.1)

-- 4 plus the count of `$` in a version part is 4 or 5, if the version's number has no `$`
version_marks : (version : Option (List ℕ)) → IfSome version (Lacks 36) → (4 + marks (version_part version) ≡ 4) ⊎ (4 + marks (version_part version) ≡ 5)
version_marks None lacks = inl refl
version_marks (Some number) lacks =
    let none = marks_none number lacks in
    inr (rw (sum_by-append (λ x. cond (x == 36) 1 0) (codes "$v=") number, none) refl)

-- the string of some pieces after its first `$`
abbrev behind : Pieces → List ℕ
behind p =
    p.name ++ version_part p.version ++ codes "$m=" ++ p.memory ++ codes ",t=" ++ p.time ++ codes ",p=" ++ p.lanes
    ++ codes "$" ++ p.salt ++ codes "$" ++ p.hash

-- the string of the pieces p is a `$` and then `behind p`
joined-behind : (p : Pieces) → text_of_pieces p ≡ 36 ∷ behind p
unfolding text_of_pieces
joined-behind p = refl

-- the string of clean pieces without `$` in memory, time and hash has 4 `$` plus those of its version part
marks-joined : (p : Pieces) → IsClean p → Lacks 36 p.memory → Lacks 36 p.time → Lacks 36 p.hash → marks (text_of_pieces p) ≡ 4 + marks (version_part p.version)
unfolding text_of_pieces
marks-joined p clean memory time hash =
    simp sum_by-append (omega (
      arith,
      marks_none p.name clean.name,
      marks_none p.memory memory,
      marks_none p.time time,
      marks_none p.lanes clean.lanes,
      marks_none p.salt clean.salt,
      marks_none p.hash hash,
    ))

-- a string with a decoded head begins with a `$` and holds four or five of them
pub head_has_items : HeadHasItems
head_has_items text (p, d, cut, head) =
    let clean = head_clean text p d (split_of text p cut) head in
    let memory : Lacks 36 p.memory = number_lacks 36 p.memory d.mem_cost (λ h. omega arith) (λ h. omega arith) head.memory in
    let time : Lacks 36 p.time = number_lacks 36 p.time d.time_cost (λ h. omega arith) (λ h. omega arith) head.time in
    let count : marks text ≡ 4 + marks (version_part p.version) = ap marks cut.whole ∙ marks-joined p clean memory time cut.hash in
    record {
      behind = behind p;
      begins = cut.whole ∙ joined-behind p;
      marks = rw count (version_marks p.version clean.version);
    }

-- ---- what an encoded hash decodes to, and its string as items joined by `$`

-- the decimal of a number below 2 ^ 32 decodes to that number
decimal_spells : (n : ℕ) → n < 2 ^ 32 → IsNumber (decimal n) n
decimal_spells n fits =
    let numeral = decimal_is_IsNumeral n (omega arith) in
    record { sign = []; digits = decimal n; whole = refl; plus = inl refl; decimal = numeral.0; value = numeral.1; fits = fits }

-- the pieces of a value's encoded hash, as they are written
abbrev pub written_pieces : Spelled → Pieces
written_pieces d = record {
  name = lowercase_name d.variant;
  version = Some (version_text d.version);
  memory = decimal d.mem_cost;
  time = decimal d.time_cost;
  lanes = decimal d.parallelism;
  salt = base64 d.salt;
  hash = base64 d.hash;
}

-- seven parts, joined with the format's marks, are the string of the pieces that consist of these parts
layout-joined : (name version memory time lanes salt hash : List ℕ)
    → codes "$" ++ name ++ codes "$v=" ++ version ++ codes "$m=" ++ memory ++ codes ",t=" ++ time ++ codes ",p=" ++ lanes ++ codes "$" ++ salt ++
    codes "$" ++ hash
    ≡ text_of_pieces (record { name = name; version = Some version; memory = memory; time = time; lanes = lanes; salt = salt; hash = hash })
unfolding text_of_pieces
layout-joined name version memory time lanes salt hash = simp append_assoc

-- the encoded hash of a value is the string of its written pieces
text_of-joined : (d : Spelled) → text_of d ≡ text_of_pieces (written_pieces d)
unfolding text_of
text_of-joined d = layout-joined (lowercase_name d.variant) (version_text d.version) (decimal d.mem_cost) (decimal d.time_cost)
    (decimal d.parallelism) (base64 d.salt) (base64 d.hash)

-- the encoded hash of a value that is in range decodes to that value
pub spells_own_value : SpellsOwnValue
spells_own_value d fits = record {
  pieces = written_pieces d;
  cut = record { whole = text_of-joined d; salt = base64_lacks d.salt; hash = base64_lacks d.hash };
  head = record {
    name = inl refl;
    version = refl;
    memory = decimal_spells d.mem_cost fits.mem_cost;
    time = decimal_spells d.time_cost fits.time_cost;
    lanes = decimal_spells d.parallelism fits.parallelism;
  };
  salt = record { encoded = refl; bytes_fit = fits.salt };
  hash = record { encoded = refl; bytes_fit = fits.hash };
}

-- ---- the encoded hash as items joined by `$`, and the example

-- appending a rest to three items joined by `,` gives the items, each `,` and the rest, appended one by one
costs-joined : (m t p rest : List ℕ) → join_with_byte 44 (m ∷ t ∷ p ∷ []) ++ rest ≡ m ++ 44 ∷ (t ++ 44 ∷ (p ++ rest))
costs-joined m t p rest = rw (append_assoc m (44 ∷ (t ++ 44 ∷ p)) rest, append_assoc t (44 ∷ p) rest) refl

-- seven parts, joined with the format's marks, are the items made of these parts, joined by `$`
items-joined : (name version memory time lanes salt hash : List ℕ)
    → codes "$" ++ name ++ codes "$v=" ++ version ++ codes "$m=" ++ memory ++ codes ",t=" ++ time ++ codes ",p=" ++ lanes ++ codes "$" ++ salt ++
    codes "$" ++ hash
    ≡ join_with_byte 36 ([] ∷ name ∷ (codes "v=" ++ version)
    ∷ join_with_byte 44 ((codes "m=" ++ memory) ∷ (codes "t=" ++ time) ∷ (codes "p=" ++ lanes) ∷ []) ∷ salt ∷ hash ∷ [])
items-joined name version memory time lanes salt hash =
    rw (costs-joined (codes "m=" ++ memory) (codes "t=" ++ time) (codes "p=" ++ lanes) (36 ∷ (salt ++ 36 ∷ hash))) (simp append_assoc)

-- the encoded hash of a value is its items joined by `$`
pub is_joined_items : IsJoinedItems
unfolding text_of
is_joined_items d = items-joined (lowercase_name d.variant) (version_text d.version) (decimal d.mem_cost) (decimal d.time_cost)
    (decimal d.parallelism) (base64 d.salt) (base64 d.hash)

-- the encoded hash of the example value is the string that `WritesExample` states
pub writes_example : WritesExample
unfolding text_of digits encode_symbols
writes_example = refl

-- a string that uses every freedom of the format decodes to the example value
pub spells_example : SpellsExample
unfolding text_of_pieces encode_symbols
spells_example = record {
  pieces = record {
    name = codes "Argon2i";
    version = None;
    memory = codes "+4096";
    time = codes "03";
    lanes = codes "1";
    salt = codes "c2FsdDEyMzQ";
    hash = codes "MTIzNDU2Nzg5MDEyMzQ1Njc4OTAxMjM0NTY3ODkwMTI";
  };
  cut = record { whole = refl; salt = any_lacks 36 (codes "c2FsdDEyMzQ") refl; hash = any_lacks 36 (codes "MTIzNDU2Nzg5MDEyMzQ1Njc4OTAxMjM0NTY3ODkwMTI") refl };
  head = record {
    name = inr refl;
    version = refl;
    memory = record { sign = codes "+"; digits = codes "4096"; whole = refl; plus = inr refl; decimal = search rules; value = refl; fits = omega arith };
    time = record { sign = []; digits = codes "03"; whole = refl; plus = inl refl; decimal = search rules; value = refl; fits = omega arith };
    lanes = record { sign = []; digits = codes "1"; whole = refl; plus = inl refl; decimal = search rules; value = refl; fits = omega arith };
  };
  salt = record { encoded = refl; bytes_fit = λ i. omega (arith, told example_value.salt refl i) };
  hash = record { encoded = refl; bytes_fit = λ i. omega (arith, told example_value.hash refl i) };
}
