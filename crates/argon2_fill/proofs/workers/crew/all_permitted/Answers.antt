use Rattle.std.proofs.Common.{◌≡◌, ◌+◌, ℕ, zero, suc, Bool, true, rules, arith, refl, ap, sym, ◌∙◌}
use Rattle.std.specs.List.{list_all, range_with_len}
use Rattle.std.proofs.lemmas.Iterator.{YieldsList-from_range}
use Rattle.std.proofs.lemmas.Iterator.Search.{all_from_yields_List}
use Rattle.argon2_fill.specs.Views.Boards.{PermitsAll}
use Rattle.std.proofs.lemmas.Bool.{and_parts}
use Rattle.argon2_fill.proofs.workers.crew.all_permitted.Goals as goal

-- if `list_all` of p over the n numbers from a on is true, p permits each of these numbers
permits_all : (p : ℕ → Bool) (a n : ℕ) → list_all p (range_with_len a n) ≡ true → PermitsAll p a n
permits_all p a zero e k h = absurd (omega arith)
permits_all p a (suc n) e zero h = ap p (omega arith) ∙ (and_parts (p a) (list_all p (range_with_len (a + 1) n)) e).0
permits_all p a (suc n) e (suc k) h = ap p (omega arith) ∙ permits_all p (a + 1) n (and_parts (p a) (list_all p (range_with_len (a + 1) n)) e).1 k (omega arith)

-- if p permits each of the n numbers from a on, `list_all` of p over these numbers is true
list_all-permitted : (p : ℕ → Bool) (a n : ℕ) → PermitsAll p a n → list_all p (range_with_len a n) ≡ true
list_all-permitted p a zero each = refl
list_all-permitted p a (suc n) each =
    let now : p a ≡ true = ap p (omega arith) ∙ each 0 (omega arith) in
    rw now (list_all-permitted p (a + 1) n (λ k h. ap p (omega arith) ∙ each (k + 1) (omega arith)))

pub returns : goal.returns
returns g c =
    let permits : ℕ → Bool = λ k. g.P.Permit.permits c.args.permit.now (c.args.first + k) in
    let e : c.all.result ≡ list_all permits (range_with_len 0 c.args.count) =
    all_from_yields_List permits _ _ c.all.result c.all.ensures.ran (YieldsList-from_range 0 c.args.count c.args.count refl (omega arith))
    (λ x b q k. search rules) in (
      (λ t k h. ap permits (omega arith) ∙ permits_all permits 0 c.args.count (sym e ∙ t) k h),
      (λ each. e ∙ list_all-permitted permits 0 c.args.count (λ k h. ap permits (omega arith) ∙ each k h)),
    )
