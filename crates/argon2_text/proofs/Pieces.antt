-- A string is cut into pieces, and a number is read.
use Rattle.std.proofs.Common.{◌≡◌, ◌≢◌, ℕ, zero, suc, ◌+◌, ◌-◌, ◌<◌, ◌==◌, false, List, [], ◌∷◌, ◌++◌, length, get_or, take, drop, Option, Some, None}
use Rattle.std.proofs.Common.{refl, sym, ap, ◌∙◌, arith, ◌⊎◌, inl, inr, eq-eqb, subst, append_assoc, ◌^◌, ◌≤◌, Result, Ok, Err}
use Rattle.std.specs.Prelude.{option_map, MatchOption, codes, IfSome}
use Rattle.std.specs.List.{list_any}
use Rattle.std.specs.Borrow.{Bor}
use Rattle.std.specs.Str.Pattern.{FindsTextPrefix}
use Rattle.std.proofs.lemmas.Bool.{ne_eqb, cases_eq, or_parts}
use Rattle.std.proofs.lemmas.List.{length-drop, take_all}
use Rattle.std.proofs.lemmas.Option.{some_pair_parts, same_Some}
use Rattle.argon2_standard.specs.Standard.Grammar.{Lacks, Pieces, text_of_pieces, IsNumber}
use Rattle.argon2_text.specs.Views.Cutting.{strip, cut, ◌>>=◌, piece, version_behind, version_piece, pieces_of}
use Rattle.argon2_text.specs.Views.Faults.{IsSplit, IsNoNumber}
use Rattle.std.specs.Str.Parse.{IsNumeral, AllDigits, ParsesUnsigned, digits_value, without_leading_plus}
use Rattle.std.specs.Result.{result_ok}
use Rattle.std.proofs.lemmas.Str.Parse.{digit_from_value, without_leading_plus_none, without_leading_plus_plus}

-- the elements of the slice `xs[at..]`
pub elements_from : (at : ℕ) (xs : List ℕ) → take (length xs - at) (drop at xs) ≡ drop at xs
elements_from at xs = take_all (length xs - at) (drop at xs) (omega (arith, length-drop at xs))

-- ---- cutting a string at a byte (`cut`) and after a front (`strip`), joining the parts again, and how std's methods
-- give the same results

-- ---- Lacks, by places

-- a list that has c at none of its places lacks c
pub Lacks-from_places : (c : ℕ) (bs : List ℕ) → ((i : ℕ) → i < length bs → get_or bs i 0 ≢ c) → Lacks c bs
Lacks-from_places c [] h = tt
Lacks-from_places c (b ∷ bs) h = (h 0 (omega arith), Lacks-from_places c bs (λ i lt. h (suc i) (omega arith)))

-- ---- strip

-- stripping a front from that front and a rest gives the rest
pub strip-again : (front rest : List ℕ) → strip front (front ++ rest) ≡ Some rest
strip-again [] rest = refl
strip-again (x ∷ front) rest = rw (eq-eqb x x refl) (strip-again front rest)

-- where stripping finds a rest, the string is the front and that rest
pub strip_found : (front text rest : List ℕ) → strip front text ≡ Some rest → text ≡ front ++ rest
strip_found [] text rest e = cc
strip_found (x ∷ front) [] rest e = absurd cc
strip_found (x ∷ front) (y ∷ text) rest e = elim (cases_eq x y) [
  | inl same ↦
      let e2 : strip front text ≡ Some rest = rw (eq-eqb x y same) at e in
      rw (same, strip_found front text rest e2) refl
  | inr other ↦
      let e2 : None ≡ Some rest = rw (ne_eqb x y other) at e in
      absurd cc
]

-- stripping finds nothing in a string that does not begin with the front
pub strip_none : (front text : List ℕ) → ((rest : List ℕ) → text ≢ front ++ rest) → strip front text ≡ None
strip_none front text h = elim (strip front text) as (λ o. strip front text ≡ o → o ≡ None) [
  | None ↦ λ e. refl
  | Some rest ↦ λ e. absurd (h rest (strip_found front text rest e))
] refl

-- ---- cut

-- a part without c, then c, then a rest is cut into that part and that rest
pub cut-again : (c : ℕ) (a rest : List ℕ) → Lacks c a → cut c (a ++ c ∷ rest) ≡ Some (a, rest)
cut-again c [] rest lacks = rw (eq-eqb c c refl) refl
cut-again c (x ∷ a) rest lacks = rw (ne_eqb x c lacks.0, cut-again c a rest lacks.1) refl

-- cutting at c finds nothing in a string without c
pub cut_none : (c : ℕ) (bs : List ℕ) → Lacks c bs → cut c bs ≡ None
cut_none c [] lacks = refl
cut_none c (x ∷ bs) lacks = rw (ne_eqb x c lacks.0, cut_none c bs lacks.1) refl

-- ---- what std's methods give

-- an answer that meets the contract of `strip_prefix` is what strip gives
pub strip_gives : (front text : List ℕ) (r : Option (Bor (List ℕ)))
    → MatchOption r (FindsTextPrefix front text None) (λ x. (n : ℕ) × FindsTextPrefix front text (Some n) × (x.now ≡ drop n text)
    × (length x.now + n ≡ length text))
    → option_map (λ x. x.now) r ≡ strip front text
strip_gives front text None h = sym (strip_none front text h)
strip_gives front text (Some x) h =
    let whole : text ≡ front ++ x.now = rw h.2 h.1.1 in
    sym (ap (strip front) whole ∙ strip-again front x.now)

-- a string with its first mark at index `at` is cut into its first `at` bytes and what is behind the mark
pub cut_at : (mark : ℕ) (text : List ℕ) (at : ℕ) → at < length text → get_or text at 0 ≡ mark → ((i : ℕ) → i < at → get_or text i 0 ≢ mark)
    → cut mark text ≡ Some (take at text, drop (suc at) text)
cut_at mark [] at lt is before = absurd (omega arith)
cut_at mark (b ∷ text) zero lt is before = rw (eq-eqb b mark is) refl
cut_at mark (b ∷ text) (suc at) lt is before =
    rw (ne_eqb b mark (before 0 (omega arith)), cut_at mark text at (omega arith) is (λ i small. before (suc i) (omega arith))) refl

-- a list for which the test `list_any` finds no c lacks c
pub any_lacks : (c : ℕ) (bs : List ℕ) → list_any (λ b. b == c) bs ≡ false → Lacks c bs
any_lacks c [] h = tt
any_lacks c (b ∷ bs) h =
    let parts = or_parts (b == c) (list_any (λ b. b == c) bs) h in
    (λ e. let yes = eq-eqb b c e in absurd cc, any_lacks c bs parts.1)

-- a list lacks c, or it is a first part without c, then c, then a rest
around : (c : ℕ) (bs : List ℕ) → Lacks c bs ⊎ ((a : List ℕ) × (rest : List ℕ) × (bs ≡ a ++ c ∷ rest) × Lacks c a)
around c [] = inl tt
around c (x ∷ bs) = elim (cases_eq x c) [
  | inl same ↦ inr ([], bs, rw same refl, tt)
  | inr other ↦
      elim (around c bs) [
        | inl lacks ↦ inl (other, lacks)
        | inr found ↦ inr (x ∷ found.0, found.1, ap (λ (t : List ℕ). x ∷ t) found.2, (other, found.3))
      ]
]

-- where a cut is found, the string is a first part, the mark and the rest; the first part lacks the mark
pub cut_found : (c : ℕ) (bs a rest : List ℕ) → cut c bs ≡ Some (a, rest) → (bs ≡ a ++ c ∷ rest) × Lacks c a
cut_found c bs a rest e = elim (around c bs) [
  | inl lacks ↦ let none = cut_none c bs lacks in absurd cc
  | inr found ↦
      let again = sym (ap (cut c) found.2 ∙ cut-again c found.0 found.1 found.3) ∙ e in
      let parts = some_pair_parts found.0 a found.1 rest again in
      rw (← parts.0, ← parts.1) (found.2, found.3)
]

-- ---- the two theorems of cutting: the pieces that are found are the string's, and clean pieces are found again

-- if `o >>= f` is `Some y`, then o is `Some x` for some x, and `f x` is `Some y`
bind_some : {A B : Type 0} (o : Option A) (f : A → Option B) (y : B) → (o >>= f) ≡ Some y → (x : A) × (o ≡ Some x) × (f x ≡ Some y)
bind_some None f y e = absurd cc
bind_some (Some x) f y e = (x, refl, e)

-- ---- a piece behind a front

-- a front, a piece without the mark, the mark and a rest are cut into that piece and that rest
piece-again : (front : List ℕ) (mark : ℕ) (a rest : List ℕ) → Lacks mark a → piece front mark (front ++ (a ++ mark ∷ rest)) ≡ Some (a, rest)
unfolding piece
piece-again front mark a rest lacks = rw (strip-again front (a ++ mark ∷ rest)) (cut-again mark a rest lacks)

-- where a piece is found, the string is the front, the piece, the mark and the rest
piece_found : (front : List ℕ) (mark : ℕ) (text a rest : List ℕ) → piece front mark text ≡ Some (a, rest) → text ≡ front ++ (a ++ mark ∷ rest)
unfolding piece
piece_found front mark text a rest e =
    let b = bind_some (strip front text) (cut mark) (a, rest) e in
    strip_found front text b.0 b.1 ∙ ap (λ (t : List ℕ). front ++ t) (cut_found mark b.0 a rest b.2).0

-- ---- the version

-- the version as it is written behind the `$` after the name, and then the rest of the string
abbrev version_front : Option (List ℕ) → List ℕ → List ℕ
version_front None rest = rest
version_front (Some number) rest = codes "v=" ++ (number ++ 36 ∷ rest)

-- a version without `$`, or none, is found again before `m=`
version_piece-again : (version : Option (List ℕ)) (rest : List ℕ) → IfSome version (Lacks 36)
    → version_piece (version_front version (codes "m=" ++ rest)) ≡ Some (version, codes "m=" ++ rest)
unfolding version_piece
version_piece-again None rest lacks = refl
version_piece-again (Some number) rest lacks = rw (cut-again 36 number (codes "m=" ++ rest) lacks) refl

-- whether `v=` was stripped or not, the version that is found and the rest make up the string
version_behind_found : (text : List ℕ) (o : Option (List ℕ)) (version : Option (List ℕ)) (rest : List ℕ) → strip (codes "v=") text ≡ o
    → version_behind text o ≡ Some (version, rest) → text ≡ version_front version rest
version_behind_found text None version rest is e =
    let parts = some_pair_parts None version text rest e in
    rw (← parts.0, ← parts.1) refl
version_behind_found text (Some r) version rest is e =
    let b = bind_some (cut 36 r) (λ x. Some (Some x.0, x.1)) (version, rest) e in
    let inside : r ≡ b.0.0 ++ 36 ∷ b.0.1 = (cut_found 36 r b.0.0 b.0.1 b.1).0 in
    let whole : text ≡ codes "v=" ++ (b.0.0 ++ 36 ∷ b.0.1) = strip_found (codes "v=") text r is ∙ ap (λ (t : List ℕ). codes "v=" ++ t) inside in
    let found : Option (List ℕ) × List ℕ = (Some b.0.0, b.0.1) in
    subst (λ (x : Option (List ℕ) × List ℕ). text ≡ version_front x.0 x.1) (same_Some found (version, rest) b.2) whole

-- the version that is found, or none, and the rest make up the string
version_piece_found : (text : List ℕ) (version : Option (List ℕ)) (rest : List ℕ) → version_piece text ≡ Some (version, rest)
    → text ≡ version_front version rest
unfolding version_piece
version_piece_found text version rest e = version_behind_found text (strip (codes "v=") text) version rest refl e

-- ---- all pieces

-- the string of the pieces, nested to the right in the order in which the code cuts it
abbrev nested : Pieces → List ℕ
nested p =
    codes "$" ++ (p.name ++ 36 ∷ version_front p.version
    (codes "m=" ++ (p.memory ++ 44 ∷ (codes "t=" ++ (p.time ++ 44 ∷ (codes "p=" ++ (p.lanes ++ 36 ∷ (p.salt ++ 36 ∷ p.hash))))))))

-- the string of pieces that are given one by one is `nested` of these pieces
joined_nested_at : (name : List ℕ) (version : Option (List ℕ)) (memory time lanes salt hash : List ℕ)
    → text_of_pieces (record { name = name; version = version; memory = memory; time = time; lanes = lanes; salt = salt; hash = hash })
    ≡ nested (record { name = name; version = version; memory = memory; time = time; lanes = lanes; salt = salt; hash = hash })
unfolding text_of_pieces
joined_nested_at name None memory time lanes salt hash = simp append_assoc
joined_nested_at name (Some number) memory time lanes salt hash = simp append_assoc

-- the string of the pieces p is `nested p`
joined-nested : (p : Pieces) → text_of_pieces p ≡ nested p
joined-nested p = joined_nested_at p.name p.version p.memory p.time p.lanes p.salt p.hash

-- no piece but the last holds the mark that ends it
pub record IsClean (p : Pieces) : Type 0 where
  pub name : Lacks 36 p.name
  pub version : IfSome p.version (Lacks 36)
  pub memory : Lacks 44 p.memory
  pub time : Lacks 44 p.time
  pub lanes : Lacks 36 p.lanes
  pub salt : Lacks 36 p.salt

-- clean pieces are found again in their string
pub pieces-again : (p : Pieces) → IsClean p → pieces_of (text_of_pieces p) ≡ Some p
unfolding pieces_of
pieces-again p clean =
    let after_lanes : List ℕ = p.salt ++ 36 ∷ p.hash in
    let after_time : List ℕ = codes "p=" ++ (p.lanes ++ 36 ∷ after_lanes) in
    let after_memory : List ℕ = codes "t=" ++ (p.time ++ 44 ∷ after_time) in
    rw (
      joined-nested p,
      piece-again (codes "$") 36 p.name (version_front p.version (codes "m=" ++ (p.memory ++ 44 ∷ after_memory))) clean.name,
      version_piece-again p.version (p.memory ++ 44 ∷ after_memory) clean.version,
      piece-again (codes "m=") 44 p.memory after_memory clean.memory,
      piece-again (codes "t=") 44 p.time after_time clean.time,
      piece-again (codes "p=") 36 p.lanes after_lanes clean.lanes,
      cut-again 36 p.salt p.hash clean.salt,
    ) refl

-- if each step's string is a piece with its marks and then the next step's string, the first string is `nested p`
nested_from : (p : Pieces) (text after_name after_version after_memory after_time after_lanes : List ℕ) → text ≡ codes "$" ++ (p.name ++ 36 ∷ after_name)
    → after_name ≡ version_front p.version after_version → after_version ≡ codes "m=" ++ (p.memory ++ 44 ∷ after_memory)
    → after_memory ≡ codes "t=" ++ (p.time ++ 44 ∷ after_time) → after_time ≡ codes "p=" ++ (p.lanes ++ 36 ∷ after_lanes)
    → after_lanes ≡ p.salt ++ 36 ∷ p.hash → text ≡ nested p
nested_from p text after_name after_version after_memory after_time after_lanes e1 e2 e3 e4 e5 e6 = rw (e1, e2, e3, e4, e5, e6) refl

-- the pieces that `pieces_of` finds in a string are a split of the string (`IsSplit`)
pub pieces_found : (text : List ℕ) (p : Pieces) → pieces_of text ≡ Some p → IsSplit text p
unfolding pieces_of
pieces_found text p e =
    let name = bind_some _ _ p e in
    let version = bind_some _ _ p name.2 in
    let memory = bind_some _ _ p version.2 in
    let time = bind_some _ _ p memory.2 in
    let lanes = bind_some _ _ p time.2 in
    let items = bind_some _ _ p lanes.2 in
    let found : Pieces = record {
      name = name.0.0;
      version = version.0.0;
      memory = memory.0.0;
      time = time.0.0;
      lanes = lanes.0.0;
      salt = items.0.0;
      hash = items.0.1;
    } in
    let same = same_Some found p items.2 in
    let last = cut_found 36 lanes.0.1 items.0.0 items.0.1 items.1 in
    let whole = nested_from found text name.0.1 version.0.1 memory.0.1 time.0.1 lanes.0.1 (piece_found (codes "$") 36 text name.0.0 name.0.1 name.1)
    (version_piece_found name.0.1 version.0.0 version.0.1 version.1) (piece_found (codes "m=") 44 version.0.1 memory.0.0 memory.0.1 memory.1)
    (piece_found (codes "t=") 44 memory.0.1 time.0.0 time.0.1 time.1) (piece_found (codes "p=") 36 time.0.1 lanes.0.0 lanes.0.1 lanes.1) last.0 in
    subst (IsSplit text) same (record {
      whole = whole ∙ sym (joined-nested found);
      salt = last.1;
    })

-- ---- `parse` reads as numbers exactly the strings that the grammar calls numbers

-- a decimal numeral does not begin with a plus
digits_begin : (ds : List ℕ) → IsNumeral 10 ds → get_or ds 0 0 ≢ 43
digits_begin [] h e = omega (arith, h.0)
digits_begin (d ∷ ds) h e = let r = digit_from_value d h.1.0 in omega arith

-- a number's text without its plus, if any, is the number's digits
number_digits : (text sign digits : List ℕ) → text ≡ sign ++ digits → (sign ≡ []) ⊎ (sign ≡ codes "+") → IsNumeral 10 digits
    → without_leading_plus text ≡ digits
number_digits text sign digits whole plus numeral = elim plus [
  | inl none ↦
      let e : text ≡ digits = rw none at whole in
      rw e (without_leading_plus_none digits (digits_begin digits numeral))
  | inr one ↦
      let e : text ≡ 43 ∷ digits = rw one at whole in
      rw e refl
]

-- a string whose first byte is a plus is a plus and what stands behind it
plus_begins : (text : List ℕ) → get_or text 0 0 ≡ 43 → text ≡ codes "+" ++ drop 1 text
plus_begins [] h = absurd cc
plus_begins (b ∷ bs) h = rw h refl

-- a string that is a numeral below 2^32 behind its plus, if any, decodes to the number of its digits
number_from_parse : (text : List ℕ) → IsNumeral 10 (without_leading_plus text) → digits_value 10 (without_leading_plus text) < 2 ^ 32
    → IsNumber text (digits_value 10 (without_leading_plus text))
number_from_parse text numeral fits = elim (cases_eq (get_or text 0 0) 43) [
  | inl plus ↦
      let behind : without_leading_plus text ≡ drop 1 text = without_leading_plus_plus text plus in
      record {
        sign = codes "+";
        digits = without_leading_plus text;
        whole = rw behind (plus_begins text plus);
        plus = inr refl;
        decimal = numeral;
        value = refl;
        fits = fits;
      }
  | inr other ↦
      record {
        sign = [];
        digits = without_leading_plus text;
        whole = sym (without_leading_plus_none text other);
        plus = inl refl;
        decimal = numeral;
        value = refl;
        fits = fits;
      }
]

-- if `parse` returns a number, the string decodes to that number; if `parse` fails, the string decodes to no number
pub number_gives : {E : Type 0} → (text : List ℕ) (r : Result ℕ E) → ParsesUnsigned 32 10 text r → MatchOption (result_ok r) (IsNoNumber text) (IsNumber text)
number_gives text (Ok n) h = rw (h.1) (number_from_parse text h.0.0 h.0.1)
number_gives text (Err e) h = λ n number.
    let read = number_digits text number.sign number.digits number.whole number.plus number.decimal in
    let small : digits_value 10 number.digits < 2 ^ 32 = rw number.value number.fits in
    h (rw read (number.decimal, small))

-- if reading the digits one by one, without `parse`, gives n, the string decodes to n; if the reading fails, the string
-- decodes to no number
pub number_of_digits : (text ds : List ℕ) (r : Option ℕ) → without_leading_plus text ≡ ds
    → MatchOption r (IsNumeral 10 ds → digits_value 10 ds < 2 ^ 32 → ⊥) (λ n. IsNumeral 10 ds × (digits_value 10 ds ≡ n) × (n < 2 ^ 32))
    → MatchOption r (IsNoNumber text) (IsNumber text)
number_of_digits text ds None same h = λ n number.
    let read = number_digits text number.sign number.digits number.whole number.plus number.decimal in
    let small : digits_value 10 number.digits < 2 ^ 32 = rw number.value number.fits in
    let e : number.digits ≡ ds = sym read ∙ same in
    h (rw e at number.decimal) (rw e at small)
number_of_digits text ds (Some n) same h =
    let fits : digits_value 10 ds < 2 ^ 32 = omega (arith, h.1, h.2) in
    rw (← h.1, ← same) (number_from_parse text (rw same h.0) (rw same fits))

-- a string decodes to at most one number
pub number_unique : (text : List ℕ) (m n : ℕ) → IsNumber text m → IsNumber text n → m ≡ n
number_unique text m n a b =
    let first = number_digits text a.sign a.digits a.whole a.plus a.decimal in
    let second = number_digits text b.sign b.digits b.whole b.plus b.decimal in
    let same : a.digits ≡ b.digits = sym first ∙ second in
    sym a.value ∙ ap (digits_value 10) same ∙ b.value

-- ---- no mark stands in a number

-- decimal digits hold no mark that comes before `0`
digits_lack : (mark : ℕ) (ds : List ℕ) → (48 ≤ mark → ⊥) → AllDigits 10 ds → Lacks mark ds
digits_lack mark [] low all = tt
digits_lack mark (d ∷ ds) low all =
    let r = digit_from_value d all.0 in
    (λ e. low (omega arith), digits_lack mark ds low all.1)

-- a number holds no mark that comes before `0` and is not a plus
pub number_lacks : (mark : ℕ) (text : List ℕ) (n : ℕ) → (48 ≤ mark → ⊥) → mark ≢ 43 → IsNumber text n → Lacks mark text
number_lacks mark text n low no_plus number =
    let digits : Lacks mark number.digits = digits_lack mark number.digits low number.decimal.1 in
    elim number.plus [
      | inl none ↦
          let e : text ≡ number.digits = rw none at number.whole in
          rw e digits
      | inr one ↦
          let e : text ≡ 43 ∷ number.digits = rw one at number.whole in
          rw e (λ same. no_plus (sym same), digits)
    ]
