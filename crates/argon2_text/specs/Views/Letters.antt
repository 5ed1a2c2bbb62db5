-- Base64 letter by letter, in the sums by which the code computes it.
use Rattle.std.specs.Prelude.{ℕ, ◌+◌, ◌-◌, ◌*◌, ◌/◌, ◌%◌, List, [], ◌∷◌, ◌++◌}

-- 1 where a byte is not below a bound, else 0
abbrev pub reaches : ℕ → ℕ → ℕ
reaches byte bound = (byte + 256 - bound) / 256

-- the letter of six bits
abbrev pub letter_of : ℕ → ℕ
letter_of bits = 65 + bits + 6 * reaches bits 26 + 3 * reaches bits 63 - 75 * reaches bits 52 - 15 * reaches bits 62

-- the six bits of a letter, and some number for what is no letter
abbrev pub bits_of : ℕ → ℕ
bits_of letter = letter + 19 - 3 * reaches letter 47 - 12 * reaches letter 48 - 69 * reaches letter 65 - 6 * reaches letter 97

-- 0 for a letter, and 1 for any other byte
abbrev pub fault_of : ℕ → ℕ
fault_of letter = 1 + reaches letter 44 + reaches letter 58 + reaches letter 91 + reaches letter 123
    - reaches letter 43 - reaches letter 47 - reaches letter 65 - reaches letter 97

-- how many faults a string has: bytes that are not base64, a single leftover letter, and bits after the
-- last whole byte
unfoldable pub faults_of : List ℕ → ℕ
faults_of [] = 0
faults_of (a ∷ []) = 1
faults_of (a ∷ b ∷ []) = fault_of a + fault_of b + bits_of b % 16
faults_of (a ∷ b ∷ c ∷ []) = fault_of a + fault_of b + fault_of c + bits_of c % 4
faults_of (a ∷ b ∷ c ∷ d ∷ rest) = fault_of a + fault_of b + fault_of c + fault_of d + faults_of rest

-- the first, the second and the third byte of a group of letters
abbrev pub first_byte : ℕ → ℕ → ℕ
first_byte a b = (bits_of a * 4 + bits_of b / 16) % 256

abbrev pub second_byte : ℕ → ℕ → ℕ
second_byte b c = (bits_of b * 16 + bits_of c / 4) % 256

abbrev pub third_byte : ℕ → ℕ → ℕ
third_byte c d = (bits_of c * 64 + bits_of d) % 256

-- the bytes of a string
unfoldable pub bytes_read : List ℕ → List ℕ
bytes_read [] = []
bytes_read (a ∷ []) = []
bytes_read (a ∷ b ∷ []) = first_byte a b ∷ []
bytes_read (a ∷ b ∷ c ∷ []) = first_byte a b ∷ second_byte b c ∷ []
bytes_read (a ∷ b ∷ c ∷ d ∷ rest) = (first_byte a b ∷ second_byte b c ∷ third_byte c d ∷ []) ++ bytes_read rest
