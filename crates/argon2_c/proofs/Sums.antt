-- Lemmas on the sum of a function's first n values, and on updates of functions.
use Rattle.std.proofs.Common.{◌≡◌, ◌≢◌, ◌⊎◌, ℕ, zero, suc, ◌+◌, ◌<◌, ◌≤◌, cond, ltb, refl, sym, subst, ap, inl, inr, arith}
use Rattle.std.proofs.lemmas.Bool.Decides.{eqb_tells, leb_tells}
use Rattle.argon2_c.specs.Team.{updated}
use Rattle.argon2_c.proofs.Team.{hit, miss}

abbrev pub total : ℕ → (ℕ → ℕ) → ℕ
total zero f = 0
total (suc n) f = total n f + f n

pub total_same : (n : ℕ) (f g : ℕ → ℕ) → ((k : ℕ) → k < n → g k ≡ f k) → total n g ≡ total n f
total_same zero f g same = refl
total_same (suc n) f g same = let e = total_same n f g (λ k h. same k (omega (arith, h))) in omega (arith, e, same n (omega arith))

pub total_change : (n i : ℕ) (f g : ℕ → ℕ) → i < n → ((k : ℕ) → k < n → k ≢ i → g k ≡ f k) → total n g + f i ≡ total n f + g i
total_change zero i f g inside same = absurd (omega (arith, inside))
total_change (suc n) i f g inside same = elim (eqb_tells i n) [
  | inl x ↦
      let e = total_same n f g (λ k h. same k (omega (arith, h)) (λ ke. omega (arith, ke, h, x.1))) in
      let one = ap f x.1 in let two = ap g x.1 in omega (arith, e, one, two)
  | inr x ↦
      let e = total_change n i f g (omega (arith, inside, x.1)) (λ k h. same k (omega (arith, h))) in
      let last = same n (omega arith) (λ ke. x.1 (sym ke)) in omega (arith, e, last)
]

pub total_least : (n i : ℕ) (f : ℕ → ℕ) → i < n → f i ≤ total n f
total_least zero i f inside = absurd (omega (arith, inside))
total_least (suc n) i f inside = elim (eqb_tells i n) [
  | inl x ↦ let e = ap f x.1 in omega (arith, e)
  | inr x ↦ let h = total_least n i f (omega (arith, inside, x.1)) in omega (arith, h)
]

pub total_most : (n : ℕ) (f : ℕ → ℕ) → ((k : ℕ) → f k ≤ 1) → total n f ≤ n
total_most zero f most = omega arith
total_most (suc n) f most = let h = total_most n f most in omega (arith, h, most n)

pub total_full : (n : ℕ) (f : ℕ → ℕ) → ((k : ℕ) → f k ≤ 1) → n ≤ total n f → (i : ℕ) → i < n → f i ≡ 1
total_full zero f most full i inside = absurd (omega (arith, inside))
total_full (suc n) f most full i inside =
    let h = total_most n f most in
    elim (eqb_tells i n) [
      | inl x ↦ let e = ap f x.1 in omega (arith, e, h, full, most n)
      | inr x ↦ total_full n f most (omega (arith, h, full, most n)) i (omega (arith, inside, x.1))
    ]

pub total_none : (n : ℕ) (f : ℕ → ℕ) → ((k : ℕ) → k < n → f k ≡ 0) → total n f ≡ 0
total_none zero f none = refl
total_none (suc n) f none = let h = total_none n f (λ k inside. none k (omega (arith, inside))) in omega (arith, h, none n (omega arith))

pub total_all : (n : ℕ) (f : ℕ → ℕ) → ((k : ℕ) → k < n → f k ≡ 1) → total n f ≡ n
total_all zero f all = refl
total_all (suc n) f all = let h = total_all n f (λ k inside. all k (omega (arith, inside))) in omega (arith, h, all n (omega arith))

-- an updated function has the new value at `place`, and (next lemma) its old value at any other place
pub there : {A : Type 0} (f : ℕ → A) (place : ℕ) (value : A) → updated f place value place ≡ value
there f place value = elim (eqb_tells place place) [ inl x ↦ hit f place value place x.0 | inr x ↦ absurd (x.1 refl) ]

pub elsewhere : {A : Type 0} (f : ℕ → A) (place : ℕ) (value : A) (i : ℕ) → i ≢ place → updated f place value i ≡ f i
elsewhere f place value i ne = elim (eqb_tells i place) [ inl x ↦ absurd (ne x.1) | inr x ↦ miss f place value i x.0 ]

-- if each number below n has the property P or Q, all numbers below n have P, or a number below n has Q
pub search_below : (n : ℕ) (P Q : ℕ → Type 0) → ((i : ℕ) → i < n → P i ⊎ Q i) → ((i : ℕ) → i < n → P i) ⊎ ((i : ℕ) × (i < n) × Q i)
search_below zero P Q each = inl (λ i inside. absurd (omega (arith, inside)))
search_below (suc n) P Q each = elim (search_below n P Q (λ i inside. each i (omega (arith, inside)))) [
  | inr x ↦ inr (x.0, omega (arith, x.1), x.2)
  | inl all ↦ elim (each n (omega arith)) [
    | inr q ↦ inr (n, omega arith, q)
    | inl p ↦ inl (λ i inside. elim (eqb_tells i n) [ inl x ↦ subst P (sym x.1) p | inr x ↦ all i (omega (arith, inside, x.1)) ])
  ]
]

pub below : (j k low high : ℕ) → ((j < k) × (cond (ltb j k) low high ≡ low)) ⊎ ((k ≤ j) × (cond (ltb j k) low high ≡ high))
below j k low high = elim (leb_tells (suc j) k) [
  | inl x ↦ inl (omega (arith, x.1), rw x.0 refl)
  | inr x ↦ inr (omega (arith, x.1), rw x.0 refl)
]
