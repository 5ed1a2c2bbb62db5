-- The letters of base64, computed by sums.
use Rattle.std.proofs.Common.{◌≡◌, ℕ, zero, suc, ◌+◌, ◌*◌, ◌/◌, ◌%◌, ◌<◌, ◌==◌, not, ◌||◌, ◌&&◌, ◌≤◌, nat_lt, List, [], ◌∷◌, ◌++◌, length, get_or}
use Rattle.std.proofs.Common.{slice_index, refl, sym, ap, subst, ◌∙◌, arith, inl, inr}
use Rattle.std.specs.Prelude.{◌↔◌}
use Rattle.std.proofs.lemmas.Bool.{and_parts, eqb-true, eq-eqb, ltb-true, or_cases, not-true}
use Rattle.std.proofs.lemmas.List.{append-nil}
use Rattle.base64.specs.Rfc4648.{encode_symbols}
use Rattle.base64.specs.Engines.{standard_no_pad}
use Rattle.base64.specs.GeneralPurpose.{IsBytes, engine_symbols}
use Rattle.base64.proofs.EngineFacts.{encode_of-append}
use Rattle.base64.proofs.Tables.{all_below_at}
use Rattle.argon2_standard.specs.Standard.Grammar.{IsItem}
use Rattle.argon2_standard.specs.Standard.Text.{base64}
use Rattle.argon2_text.specs.Views.Faults.{IsSomeItem}
use Rattle.argon2_text.specs.Views.Letters.{bits_of, bytes_read, fault_of, faults_of, first_byte, letter_of, second_byte, third_byte}

-- the 64 letters
abbrev pub alphabet : List ℕ
alphabet = engine_symbols standard_no_pad

-- ---- one letter, checked for each of the 64 letters and each of the 256 bytes

-- `letter_of` of a number below 64 is the letter at that index of the alphabet
pub letter_at : (bits : ℕ) → bits < 64 → letter_of bits ≡ slice_index alphabet bits
letter_at bits small =
    let test = λ (v : ℕ). letter_of v == slice_index alphabet v in
    eqb-true (letter_of bits) (slice_index alphabet bits) (all_below_at test 64 bits refl small)

-- `bits_of` of the letter at an index of the alphabet is that index
bits_at : (bits : ℕ) → bits < 64 → bits_of (slice_index alphabet bits) ≡ bits
bits_at bits small =
    let test = λ (v : ℕ). bits_of (slice_index alphabet v) == v in
    eqb-true (bits_of (slice_index alphabet bits)) bits (all_below_at test 64 bits refl small)

-- `fault_of` of a letter of the alphabet is 0
fault_at : (bits : ℕ) → bits < 64 → fault_of (slice_index alphabet bits) ≡ 0
fault_at bits small =
    let test = λ (v : ℕ). fault_of (slice_index alphabet v) == 0 in
    eqb-true (fault_of (slice_index alphabet bits)) 0 (all_below_at test 64 bits refl small)

-- `byte` is the letter at index `bits_of byte` of the alphabet
pub record IsLetter (byte : ℕ) : Type 0 where
  pub small : bits_of byte < 64
  pub same : slice_index alphabet (bits_of byte) ≡ byte

-- a byte whose `fault_of` is 0 is the letter at index `bits_of byte` of the alphabet
letter_from : (byte : ℕ) → byte < 256 → fault_of byte ≡ 0 → IsLetter byte
letter_from byte small none =
    let test = λ (b : ℕ). not (fault_of b == 0) || (nat_lt (bits_of b) 64 && (slice_index alphabet (bits_of b) == b)) in
    elim (or_cases (not (fault_of byte == 0)) (nat_lt (bits_of byte) 64 && (slice_index alphabet (bits_of byte) == byte)) (all_below_at test 256 byte refl small)) [
      | inl fault ↦
          let same = eq-eqb (fault_of byte) 0 none in
          let other = not-true (fault_of byte == 0) fault in
          absurd (cc)
      | inr good ↦
          let parts = and_parts (nat_lt (bits_of byte) 64) (slice_index alphabet (bits_of byte) == byte) good in
          record { small = ltb-true (bits_of byte) 64 parts.0; same = eqb-true (slice_index alphabet (bits_of byte)) byte parts.1 }
    ]

-- ---- a whole string

-- base64 without padding is the symbols alone
pub base64-symbols : (bytes : List ℕ) → base64 bytes ≡ encode_symbols alphabet bytes
base64-symbols bytes = append-nil (encode_symbols alphabet bytes)

-- the empty list of bytes has no symbols
no_symbols : [] ≡ encode_symbols alphabet []
unfolding encode_symbols
no_symbols = refl

-- two letters with no bits left over are the symbols of their byte
one_again : (a b : ℕ) → IsLetter a → IsLetter b → bits_of b % 16 ≡ 0 → a ∷ b ∷ [] ≡ encode_symbols alphabet (first_byte a b ∷ [])
unfolding encode_symbols
one_again a b x y none =
    let e0 : first_byte a b / 4 ≡ bits_of a = omega arith in
    let e1 : first_byte a b % 4 * 16 ≡ bits_of b = omega arith in
    rw (e0, e1, x.same, y.same) refl

-- three letters with no bits left over are the symbols of their two bytes
two_again : (a b c : ℕ) → IsLetter a → IsLetter b → IsLetter c → bits_of c % 4 ≡ 0
    → a ∷ b ∷ c ∷ [] ≡ encode_symbols alphabet (first_byte a b ∷ second_byte b c ∷ [])
unfolding encode_symbols
two_again a b c x y z none =
    let e0 : first_byte a b / 4 ≡ bits_of a = omega arith in
    let e1 : first_byte a b % 4 * 16 + second_byte b c / 16 ≡ bits_of b = omega arith in
    let e2 : second_byte b c % 16 * 4 ≡ bits_of c = omega arith in
    rw (e0, e1, e2, x.same, y.same, z.same) refl

-- four letters and the symbols of a rest are the symbols of their three bytes and the rest
three_again : (a b c d : ℕ) (rest : List ℕ) → IsLetter a → IsLetter b → IsLetter c → IsLetter d
    → a ∷ b ∷ c ∷ d ∷ encode_symbols alphabet rest ≡ encode_symbols alphabet (first_byte a b ∷ second_byte b c ∷ third_byte c d ∷ rest)
unfolding encode_symbols
three_again a b c d rest x y z w =
    let e0 : first_byte a b / 4 ≡ bits_of a = omega arith in
    let e1 : first_byte a b % 4 * 16 + second_byte b c / 16 ≡ bits_of b = omega arith in
    let e2 : second_byte b c % 16 * 4 + third_byte c d / 64 ≡ bits_of c = omega arith in
    let e3 : third_byte c d % 64 ≡ bits_of d = omega arith in
    rw (e0, e1, e2, e3, x.same, y.same, z.same, w.same) refl

-- `bytes_read` of any string is a list of bytes
read_bytes : (text : List ℕ) → IsBytes (bytes_read text)
unfolding bytes_read
read_bytes [] i = omega arith
read_bytes (a ∷ []) i = omega arith
read_bytes (a ∷ b ∷ []) zero = omega arith
read_bytes (a ∷ b ∷ []) (suc i) = omega arith
read_bytes (a ∷ b ∷ c ∷ []) zero = omega arith
read_bytes (a ∷ b ∷ c ∷ []) (suc zero) = omega arith
read_bytes (a ∷ b ∷ c ∷ []) (suc (suc i)) = omega arith
read_bytes (a ∷ b ∷ c ∷ d ∷ rest) zero = omega arith
read_bytes (a ∷ b ∷ c ∷ d ∷ rest) (suc zero) = omega arith
read_bytes (a ∷ b ∷ c ∷ d ∷ rest) (suc (suc zero)) = omega arith
read_bytes (a ∷ b ∷ c ∷ d ∷ rest) (suc (suc (suc i))) = read_bytes rest i

-- a string of bytes without faults consists of the symbols of the bytes read from it
symbols_again : (text : List ℕ) → IsBytes text → faults_of text ≡ 0 → text ≡ encode_symbols alphabet (bytes_read text)
unfolding faults_of bytes_read
symbols_again [] fits none = no_symbols
symbols_again (a ∷ []) fits none = absurd (omega arith)
symbols_again (a ∷ b ∷ []) fits none =
    one_again a b (letter_from a (fits 0) (omega arith)) (letter_from b (fits 1) (omega arith)) (omega arith)
symbols_again (a ∷ b ∷ c ∷ []) fits none =
    two_again a b c (letter_from a (fits 0) (omega arith)) (letter_from b (fits 1) (omega arith)) (letter_from c (fits 2) (omega arith)) (omega arith)
symbols_again (a ∷ b ∷ c ∷ d ∷ rest) fits none =
    let behind : faults_of rest ≡ 0 = omega arith in
    let tail = symbols_again rest (λ i. fits (suc (suc (suc (suc i))))) behind in
    ap (λ (t : List ℕ). a ∷ b ∷ c ∷ d ∷ t) tail ∙ three_again a b c d (bytes_read rest) (letter_from a (fits 0) (omega arith)) (letter_from b (fits 1) (omega arith))
    (letter_from c (fits 2) (omega arith)) (letter_from d (fits 3) (omega arith))

-- the symbols of bytes have no faults
symbols_right : (bytes : List ℕ) → IsBytes bytes → faults_of (encode_symbols alphabet bytes) ≡ 0
unfolding encode_symbols faults_of
symbols_right [] fits = refl
symbols_right (a ∷ []) fits =
    let x : a < 256 = fits 0 in
    rw (fault_at (a / 4) (omega arith), fault_at (a % 4 * 16) (omega arith), bits_at (a % 4 * 16) (omega arith)) (omega arith)
symbols_right (a ∷ b ∷ []) fits =
    let x : a < 256 = fits 0 in
    let y : b < 256 = fits 1 in
    rw (
      fault_at (a / 4) (omega arith),
      fault_at (a % 4 * 16 + b / 16) (omega arith),
      fault_at (b % 16 * 4) (omega arith),
      bits_at (b % 16 * 4) (omega arith),
    ) (omega arith)
symbols_right (a ∷ b ∷ c ∷ rest) fits =
    let x : a < 256 = fits 0 in
    let y : b < 256 = fits 1 in
    let z : c < 256 = fits 2 in
    rw (
      fault_at (a / 4) (omega arith),
      fault_at (a % 4 * 16 + b / 16) (omega arith),
      fault_at (b % 16 * 4 + c / 64) (omega arith),
      fault_at (c % 64) (omega arith),
    ) (omega (arith, symbols_right rest (λ i. fits (suc (suc (suc i))))))

-- a string of bytes is an item exactly if the string has no faults
pub faults_tell : (text : List ℕ) → IsBytes text → (faults_of text ≡ 0) ↔ IsSomeItem text
faults_tell text fits = (
  λ none. (bytes_read text, record { encoded = symbols_again text fits none ∙ sym (base64-symbols (bytes_read text)); bytes_fit = read_bytes text }),
  λ (bytes, item). ap faults_of (item.encoded ∙ base64-symbols bytes) ∙ symbols_right bytes item.bytes_fit,
)

-- a string that is an item is the base64 of the bytes that `bytes_read` reads from it
pub item_read : (text : List ℕ) → IsBytes text → IsSomeItem text → IsItem text (bytes_read text)
item_read text fits some =
    let none = (faults_tell text fits).1 some in
    record { encoded = symbols_again text fits none ∙ sym (base64-symbols (bytes_read text)); bytes_fit = read_bytes text }

-- ---- lists of a known length

-- the first n values of f
abbrev pub listed : (ℕ → ℕ) → ℕ → List ℕ
listed f zero = []
listed f (suc n) = f 0 ∷ listed (λ i. f (suc i)) n

-- a list of length n equals the list of its elements at the indices below n
pub placed : (l : List ℕ) (n : ℕ) → length l ≡ n → l ≡ listed (λ i. get_or l i 0) n
placed [] n e = rw (← e) refl
placed (x ∷ l) n e = rw (← e) (ap (λ (t : List ℕ). x ∷ t) (placed l (length l) refl))

-- ---- a string in groups of four letters

-- the faults of four letters are the sum of the faults of each letter
pub group_faults : (group : List ℕ) → length group ≡ 4
    → faults_of group ≡ fault_of (get_or group 0 0) + fault_of (get_or group 1 0) + fault_of (get_or group 2 0) + fault_of (get_or group 3 0)
unfolding faults_of
group_faults group four = omega (arith, ap faults_of (placed group 4 four))

-- the faults of four letters and a rest are the faults of the four letters plus the faults of the rest
pub faults_behind : (group rest : List ℕ) → length group ≡ 4 → faults_of (group ++ rest) ≡ faults_of group + faults_of rest
unfolding faults_of
faults_behind group rest four =
    let places = placed group 4 four in
    omega (arith, ap (λ (g : List ℕ). faults_of (g ++ rest)) places, ap faults_of places)

-- ---- the bytes, group by group

-- the bytes of four letters and a rest are the bytes of the four letters and then the bytes of the rest
pub read_behind : (group rest : List ℕ) → length group ≡ 4 → bytes_read (group ++ rest) ≡ bytes_read group ++ bytes_read rest
unfolding bytes_read
read_behind group rest four =
    subst (λ (g : List ℕ). bytes_read (g ++ rest) ≡ bytes_read g ++ bytes_read rest) (sym (placed group 4 four)) refl

-- fewer than two letters have no byte
pub none_read : (tail : List ℕ) → length tail < 2 → [] ≡ bytes_read tail
unfolding bytes_read
none_read [] short = refl
none_read (a ∷ []) short = refl
none_read (a ∷ b ∷ rest) short = absurd (omega arith)

-- ---- the letters, group by group

-- the four letters computed from three bytes are the base64 of these bytes
pub three_written : (group : List ℕ) → length group ≡ 3 → IsBytes group → letter_of (get_or group 0 0 / 4)
    ∷ letter_of (get_or group 0 0 % 4 * 16 + get_or group 1 0 / 16) ∷ letter_of (get_or group 1 0 % 16 * 4 + get_or group 2 0 / 64)
    ∷ letter_of (get_or group 2 0 % 64) ∷ [] ≡ base64 group
unfolding encode_symbols
three_written group three fits =
    let x : get_or group 0 0 < 256 = fits 0 in
    let y : get_or group 1 0 < 256 = fits 1 in
    let z : get_or group 2 0 < 256 = fits 2 in
    rw (
      letter_at (get_or group 0 0 / 4) (omega arith),
      letter_at (get_or group 0 0 % 4 * 16 + get_or group 1 0 / 16) (omega arith),
      letter_at (get_or group 1 0 % 16 * 4 + get_or group 2 0 / 64) (omega arith),
      letter_at (get_or group 2 0 % 64) (omega arith),
    ) (sym (ap base64 (placed group 3 three)))

-- the base64 of no byte is empty
pub none_written : (tail : List ℕ) → length tail < 1 → [] ≡ base64 tail
unfolding encode_symbols
none_written tail short = sym (ap base64 (placed tail 0 (omega arith)))

-- the two letters computed from one byte are the base64 of this byte
pub one_written : (tail : List ℕ) → 1 ≤ length tail → length tail < 2 → IsBytes tail
    → letter_of (get_or tail 0 0 / 4) ∷ letter_of (get_or tail 0 0 % 4 * 16) ∷ [] ≡ base64 tail
unfolding encode_symbols
one_written tail long short fits =
    let x : get_or tail 0 0 < 256 = fits 0 in
    rw (letter_at (get_or tail 0 0 / 4) (omega arith), letter_at (get_or tail 0 0 % 4 * 16) (omega arith)) (sym (ap base64 (placed tail 1 (omega arith))))

-- the three letters computed from two bytes are the base64 of these bytes
pub two_written : (tail : List ℕ) → 2 ≤ length tail → length tail < 3 → IsBytes tail → letter_of (get_or tail 0 0 / 4)
    ∷ letter_of (get_or tail 0 0 % 4 * 16 + get_or tail 1 0 / 16) ∷ letter_of (get_or tail 1 0 % 16 * 4) ∷ [] ≡ base64 tail
unfolding encode_symbols
two_written tail long short fits =
    let x : get_or tail 0 0 < 256 = fits 0 in
    let y : get_or tail 1 0 < 256 = fits 1 in
    rw (
      letter_at (get_or tail 0 0 / 4) (omega arith),
      letter_at (get_or tail 0 0 % 4 * 16 + get_or tail 1 0 / 16) (omega arith),
      letter_at (get_or tail 1 0 % 16 * 4) (omega arith),
    ) (sym (ap base64 (placed tail 2 (omega arith))))

-- the base64 of three bytes and a rest is the base64 of the three bytes and then the base64 of the rest
pub written_behind : (group rest : List ℕ) → length group ≡ 3 → base64 (group ++ rest) ≡ base64 group ++ base64 rest
written_behind group rest three = encode_of-append standard_no_pad group rest (omega (arith, three))
