-- Cutting a string into its pieces from left to right, as the code does.
use Rattle.std.specs.Prelude.{ℕ, ◌==◌, if◌then◌else◌, List, [], ◌∷◌, codes, Option, Some, None, option_map}
use Rattle.argon2_standard.specs.Standard.Grammar.{Pieces, dollar}
use Rattle.argon2_text.specs.Views.Faults.{comma}

infixl 10 ◌>>=◌
abbrev pub ◌>>=◌ : {A B : Type 0} → Option A → (A → Option B) → Option B
None >>= f = None
(Some x) >>= f = f x

-- the rest of a string that begins with `front`
abbrev pub strip : List ℕ → List ℕ → Option (List ℕ)
strip [] text = Some text
strip (x ∷ front) [] = None
strip (x ∷ front) (y ∷ text) = if x == y then strip front text else None

-- what is before the first mark, and what is after it
abbrev pub cut : ℕ → List ℕ → Option (List ℕ × List ℕ)
cut mark [] = None
cut mark (b ∷ text) = if b == mark then Some ([], text) else option_map (λ x. (b ∷ x.0, x.1)) (cut mark text)

-- if a string begins with `front`: the piece up to the next mark, and what is after the mark
unfoldable pub piece : List ℕ → ℕ → List ℕ → Option (List ℕ × List ℕ)
piece front mark text = strip front text >>= cut mark

-- the version before the first `$`, and what is after that `$`. The second argument is what follows `v=` in `text`. If
-- `text` does not begin with `v=`, there is no version, and all of `text` is left
abbrev pub version_behind : List ℕ → Option (List ℕ) → Option (Option (List ℕ) × List ℕ)
version_behind text None = Some (None, text)
version_behind text (Some rest) = cut dollar rest >>= λ x. Some (Some x.0, x.1)

unfoldable pub version_piece : List ℕ → Option (Option (List ℕ) × List ℕ)
version_piece text = version_behind text (strip (codes "v=") text)

-- all pieces, if the string has them. The hash is the whole rest, even if it has a `$`
unfoldable pub pieces_of : List ℕ → Option Pieces
pieces_of text = do
  name ← piece (codes "$") dollar text
  version ← version_piece name.1
  memory ← piece (codes "m=") comma version.1
  time ← piece (codes "t=") comma memory.1
  lanes ← piece (codes "p=") dollar time.1
  items ← cut dollar lanes.1
  Some (record {
    name = name.0;
    version = version.0;
    memory = memory.0;
    time = time.0;
    lanes = lanes.0;
    salt = items.0;
    hash = items.1;
  })
