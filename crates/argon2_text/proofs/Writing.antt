-- How a string is written, and how long it is.
use Rattle.std.proofs.Common.{◌≡◌, ℕ, List, ◌++◌, length, take, drop, sym, ap, ◌∙◌, arith, ◌<◌, ◌^◌, [], ◌∷◌, true, nat_lt, refl, ◌+◌, length-append}
use Rattle.std.proofs.lemmas.List.{append_assoc, take_all, take-append-drop}
use Rattle.std.specs.Prelude.{codes}
use Rattle.std.specs.List.{list_all}
use Rattle.std.specs.Str.{IsAscii}
use Rattle.std.specs.Fmt.{decimal, digits}
use Rattle.std.proofs.lemmas.Bool.{and_parts, ltb-true}
use Rattle.std.proofs.lemmas.Fmt.{IsAscii-decimal}
use Rattle.std.proofs.lemmas.Str.{IsAscii-append}
use Rattle.std.proofs.lemmas.Str.Ascii.{IsAscii-cons, IsAscii-nil}
use Rattle.base64.specs.Engines.{standard_no_pad}
use Rattle.base64.proofs.EngineFacts.{IsAscii-encode_of}
use Rattle.argon2_standard.specs.declared.variant.Variant.{Variant}
use Rattle.argon2_standard.specs.declared.variant.Variant.TheVariants.{Argon2d, Argon2i, Argon2id}
use Rattle.argon2_standard.specs.declared.version.Version.{Version}
use Rattle.argon2_standard.specs.declared.version.Version.TheVariants.{Version10, Version13}
use Rattle.argon2_standard.specs.Standard.Variant.{lowercase_name}
use Rattle.argon2_standard.specs.Standard.Version.{version_text}
use Rattle.argon2_standard.specs.Standard.Text.{Spelled, base64, text_of}
use Rattle.argon2_text.proofs.Items.{length-base64}

-- ---- buffers that are filled piece by piece

-- if a piece behind `before` ends the buffer `new`, the buffer is `before` and then `same`, a list equal to the piece
pub all_put : (before new piece same : List ℕ) (end : ℕ) → take end new ≡ before ++ piece → end ≡ length new → piece ≡ same → new ≡ before ++ same
all_put before new piece same end front whole is =
    sym (take_all end new (omega (arith, whole))) ∙ front ∙ ap (λ (x : List ℕ). before ++ x) is

-- for an f that can be applied part by part: if f of the first n elements of `rest` is written behind `before`, then
-- appending f of the other elements gives `before` and then f of `rest`
pub put_ahead : (f : List ℕ → List ℕ) (before new piece rest group behind : List ℕ) (n end : ℕ) → take end new ≡ before ++ piece → piece ≡ f group
    → group ≡ take n rest → behind ≡ drop n rest → f (group ++ behind) ≡ f group ++ f behind → take end new ++ f behind ≡ before ++ f rest
put_ahead f before new piece rest group behind n end front is first second parts =
    let whole : group ++ behind ≡ rest = rw (first, second) (take-append-drop n rest) in
    ap (λ (x : List ℕ). x ++ f behind) (front ∙ ap (λ (x : List ℕ). before ++ x) is) ∙ append_assoc before (f group) (f behind)
    ∙ ap (λ (x : List ℕ). before ++ x) (sym parts ∙ ap f whole)

-- ---- a written string is ASCII

-- bytes for which the test `list_all` says that they are below 128 are ASCII
pub told : (bs : List ℕ) → list_all (λ b. nat_lt b 128) bs ≡ true → IsAscii bs
told [] h = IsAscii-nil
told (b ∷ bs) h =
    let parts = and_parts (nat_lt b 128) (list_all (λ b. nat_lt b 128) bs) h in
    IsAscii-cons b bs (ltb-true b 128 parts.0) (told bs parts.1)

IsAscii-name : (variant : Variant) → IsAscii (lowercase_name variant)
IsAscii-name Argon2d = told (codes "argon2d") refl
IsAscii-name Argon2i = told (codes "argon2i") refl
IsAscii-name Argon2id = told (codes "argon2id") refl

IsAscii-version : (version : Version) → IsAscii (version_text version)
unfolding digits
IsAscii-version Version10 = told (codes "16") refl
IsAscii-version Version13 = told (codes "19") refl

-- an ASCII string, followed by an ASCII mark and an ASCII piece, is ASCII
with_piece : (before mark piece : List ℕ) → IsAscii before → list_all (λ b. nat_lt b 128) mark ≡ true → IsAscii piece → IsAscii (before ++ mark ++ piece)
with_piece before mark piece front ascii back = IsAscii-append (before ++ mark) piece (IsAscii-append before mark front (told mark ascii)) back

-- the encoded hash of a value whose costs and lanes fit 64 bits is ASCII
pub IsAscii-text_of : (d : Spelled) → d.mem_cost < 2 ^ 64 → d.time_cost < 2 ^ 64 → d.parallelism < 2 ^ 64 → IsAscii (text_of d)
unfolding text_of
IsAscii-text_of d memory time lanes =
    let n : List ℕ = codes "$" ++ lowercase_name d.variant in
    let v : List ℕ = n ++ codes "$v=" ++ version_text d.version in
    let m : List ℕ = v ++ codes "$m=" ++ decimal d.mem_cost in
    let t : List ℕ = m ++ codes ",t=" ++ decimal d.time_cost in
    let p : List ℕ = t ++ codes ",p=" ++ decimal d.parallelism in
    let s : List ℕ = p ++ codes "$" ++ base64 d.salt in
    let name : IsAscii n = IsAscii-append (codes "$") (lowercase_name d.variant) (told (codes "$") refl) (IsAscii-name d.variant) in
    let version : IsAscii v = with_piece n (codes "$v=") (version_text d.version) name refl (IsAscii-version d.version) in
    let with_memory : IsAscii m = with_piece v (codes "$m=") (decimal d.mem_cost) version refl (IsAscii-decimal d.mem_cost memory) in
    let with_time : IsAscii t = with_piece m (codes ",t=") (decimal d.time_cost) with_memory refl (IsAscii-decimal d.time_cost time) in
    let with_lanes : IsAscii p = with_piece t (codes ",p=") (decimal d.parallelism) with_time refl (IsAscii-decimal d.parallelism lanes) in
    let with_salt : IsAscii s = with_piece p (codes "$") (base64 d.salt) with_lanes refl (IsAscii-encode_of standard_no_pad d.salt) in
    with_piece s (codes "$") (base64 d.hash) with_salt refl (IsAscii-encode_of standard_no_pad d.hash)

-- ---- the lengths of the pieces of an encoded hash

-- the number of a version has two digits
pub length-version : (version : Version) → length (version_text version) ≡ 2
unfolding digits
length-version Version10 = refl
length-version Version13 = refl

-- an encoded hash is as long as its name, numbers, salt and hash together, plus 17 for the marks and the version
pub length-text_of : (d : Spelled) → length (text_of d) ≡ 17 + length (lowercase_name d.variant)
    + (length (decimal d.mem_cost) + length (decimal d.time_cost) + length (decimal d.parallelism)) + length (base64 d.salt) + length (base64 d.hash)
unfolding text_of
length-text_of d = simp (length-append, length-version d.version) (omega arith)

-- the rules for the lengths of a version, of base64 and of an encoded hash
pub ruleset lengths = (length-version, length-base64, length-text_of)
