-- What holds in each state that the threads of a call can reach, and why they do not deadlock.
use Rattle.std.proofs.Common.{◌≡◌, ◌≢◌, ◌⊎◌, ℕ, zero, suc, ◌+◌, ◌-◌, ◌*◌, ◌<◌, ◌≤◌, Bool, true, false, cond, ltb, leb, refl, sym, ◌∙◌, subst, ap, inl, inr, arith}
use Rattle.std.proofs.lemmas.Bool.Decides.{eqb_tells, leb_tells}
use Rattle.argon2_c.specs.Team as T
use Rattle.argon2_c.specs.Threads as H
use Rattle.argon2_c.proofs.Team.{hit, miss}
use Rattle.argon2_c.proofs.Team as P
use Rattle.argon2_c.proofs.Sums.{total, total_same, total_change, total_least, total_most, total_full, total_none, total_all, there, elsewhere, search_below, below}

-- how many finished parts a thread has not yet told the caller's thread, and how many the caller's thread knows
abbrev untold : H.Place → ℕ
untold (H.Taking part n) = n
untold (H.Working part n) = n
untold (H.Telling n) = n
untold other = 0

abbrev known : H.Place → ℕ
known (H.Taking part n) = n
known (H.Working part n) = n
known (H.Counting n) = n
known other = 0

-- 1 if the caller's thread, at this place, has woken thread j for the last time, otherwise 0
abbrev last_wake : H.Place → ℕ → ℕ
last_wake (H.Ending k) j = cond (ltb j k) 1 0
last_wake H.Ended j = 1
last_wake other j = 0

abbrev is_done : ℕ → ℕ → ℕ
is_done step state = cond (leb (2 * step + 2) state) 1 0

done_yes : (step state : ℕ) → 2 * step + 2 ≤ state → is_done step state ≡ 1
done_yes step state h = elim (leb_tells (2 * step + 2) state) [ inl x ↦ rw x.0 refl | inr x ↦ absurd (omega (arith, x.1, h)) ]

done_no : (step state : ℕ) → state < 2 * step + 2 → is_done step state ≡ 0
done_no step state h = elim (leb_tells (2 * step + 2) state) [ inl x ↦ absurd (omega (arith, x.1, h)) | inr x ↦ rw x.0 refl ]

done_most : (step state : ℕ) → is_done step state ≤ 1
done_most step state = elim (leb_tells (2 * step + 2) state) [ inl x ↦ rw x.0 (omega arith) | inr x ↦ rw x.0 (omega arith) ]

done_is : (step state : ℕ) → is_done step state ≡ 1 → 2 * step + 2 ≤ state
done_is step state e = elim (leb_tells (2 * step + 2) state) [ inl x ↦ x.1 | inr x ↦ absurd (let no = done_no step state x.1 in omega (arith, no, e)) ]

-- a thread j may take w.tasks parts, or w.tasks - members as the caller's thread (j = 0), or 1 as another thread
most_cases : (w : T.Work) (members : ℕ) (is_long : Bool) (j : ℕ) → let most = H.most w members is_long j in
    (most ≡ w.tasks) ⊎ ((j ≡ 0) × (most ≡ w.tasks - members)) ⊎ ((j ≢ 0) × (most ≡ 1))
most_cases w members false j = inl refl
most_cases w members true j = elim (eqb_tells j 0) [
  | inl x ↦ inr (inl (x.1, rw x.0 refl))
  | inr x ↦ inr (inr (x.1, rw x.0 refl))
]

module _ (w : T.Work) (members : ℕ) (is_long : Bool) where
  abbrev Threads : Type 0
  Threads = H.Threads w members is_long

  abbrev IsMember : ℕ → Type 0
  IsMember j = H.IsMember w members is_long j

  abbrev most : ℕ → ℕ
  most j = H.most w members is_long j

  abbrev next : ℕ → ℕ
  next part = H.next w members is_long part

  abbrev pub IsClaimed : Threads → ℕ → Type 0
  IsClaimed s i = 2 * s.team.step < s.team.state i

  -- `part` is n places below thread j's own part, counted in a circle
  pub record Position (j part n : ℕ) : Type 0 where
    pub exists : part < w.tasks
    pub at : (part + n ≡ j) ⊎ (part + n ≡ j + w.tasks)

  -- pending wakes plus taken wakes are the wakes that a thread got
  abbrev Owes : Threads → ℕ → ℕ → Type 0
  Owes s j taken = s.wakes j + taken ≡ s.team.woken j + last_wake (s.place 0) j

  pub record MemberTakes (s : Threads) (j part n : ℕ) : Type 0 where
    pub owes : Owes s j (s.team.entered j)
    pub entered : 0 < s.team.entered j
    pub position : Position j part n
    pub few : n ≤ most j

  pub record MemberWorks (s : Threads) (j part n : ℕ) : Type 0 where
    pub owes : Owes s j (s.team.entered j)
    pub entered : s.team.entered j ≡ suc s.team.step
    pub position : Position j part n
    pub few : n < most j
    pub owner : s.owner part ≡ j
    pub at_work : s.team.state part ≡ 2 * s.team.step + 1

  abbrev pub Member : Threads → ℕ → H.Place → Type 0
  Member s j (H.Taking part n) = MemberTakes s j part n
  Member s j (H.Working part n) = MemberWorks s j part n
  Member s j (H.Telling n) = Owes s j (s.team.entered j)
  Member s j H.Waiting = Owes s j (s.team.entered j)
  Member s j H.Woken = Owes s j (suc (s.team.entered j))
  Member s j H.Ended = s.team.is_over ≡ true
  Member s j other = ⊥

  -- a step is under way, for which all threads have been woken
  pub record Going (s : Threads) : Type 0 where
    pub over : s.team.is_over ≡ false
    pub more : s.team.step < w.steps
    pub woken : (j : ℕ) → IsMember j → s.team.woken j ≡ suc s.team.step

  pub record CallerWakes (s : Threads) (k : ℕ) : Type 0 where
    pub over : s.team.is_over ≡ false
    pub more : s.team.step < w.steps
    pub first : 0 < k
    pub last : k ≤ suc members
    pub woken : (j : ℕ) → IsMember j → s.team.woken j ≡ cond (ltb j k) (suc s.team.step) s.team.step

  pub record CallerTakes (s : Threads) (part n : ℕ) : Type 0 where
    pub going : Going s
    pub position : Position 0 part n
    pub few : n ≤ most 0
    pub first : (n ≡ 0) ⊎ IsClaimed s 0

  pub record CallerWorks (s : Threads) (part n : ℕ) : Type 0 where
    pub going : Going s
    pub position : Position 0 part n
    pub few : n < most 0
    pub owner : s.owner part ≡ 0
    pub at_work : s.team.state part ≡ 2 * s.team.step + 1
    pub first : IsClaimed s 0

  abbrev pub Caller : Threads → H.Place → Type 0
  Caller s (H.Waking k) = CallerWakes s k
  Caller s (H.Taking part n) = CallerTakes s part n
  Caller s (H.Working part n) = CallerWorks s part n
  Caller s (H.Counting n) = Going s × IsClaimed s 0
  Caller s H.Left = (s.team.is_over ≡ false) × (s.team.step ≡ w.steps)
  Caller s (H.Ending k) = (s.team.is_over ≡ true) × (0 < k) × (k ≤ suc members)
  Caller s H.Ended = (s.team.is_over ≡ true) × ((j : ℕ) → IsMember j → s.place j ≡ H.Ended)
  Caller s other = ⊥

  -- thread j's own part, part j, is claimed, unless thread j is about to claim its first part of the step
  abbrev pub Own : Threads → ℕ → H.Place → Type 0
  Own s j (H.Taking part n) = (n ≡ 0) ⊎ IsClaimed s j
  Own s j other = IsClaimed s j

  -- the thread that claimed part i in this step works on part i, or is about to claim part `next i`
  pub record GoesOn (s : Threads) (i : ℕ) : Type 0 where
    pub inside : s.owner i ≤ members
    pub now : H.own_step w members is_long s (s.owner i) ≡ s.team.step
    pub taken : ℕ
    pub place : (s.place (s.owner i) ≡ H.Working i taken) ⊎ (s.place (s.owner i) ≡ H.Taking (next i) taken)

  abbrev Count : Threads → Type 0
  Count s = known (s.place 0) + s.wakes 0 + total members (λ k. untold (s.place (suc k))) ≡ total w.tasks (λ i. is_done s.team.step (s.team.state i))

  pub record Holds (s : Threads) : Type 0 where
    pub team : T.IsReached w s.team
    pub fewer : members < w.tasks
    pub caller : Caller s (s.place 0)
    pub member : (j : ℕ) → IsMember j → Member s j (s.place j)
    pub owned : (j : ℕ) → IsMember j → s.team.entered j ≡ suc s.team.step → Own s j (s.place j)
    pub busy : (i : ℕ) → i < w.tasks → s.team.state i ≡ 2 * s.team.step + 1 → (s.owner i ≤ members) × (n : ℕ) × (s.place (s.owner i) ≡ H.Working i n)
    pub chain : s.team.is_over ≡ false → (i : ℕ) → i < w.tasks → IsClaimed s i → members < next i → IsClaimed s (next i) ⊎ GoesOn s i
    pub count : s.team.is_over ≡ false → Count s

  -- what can happen next. A quiet move changes nothing of the team but `woken` and `entered`
  pub data Next (s : Threads) : Type 0 where
    Quiet : (m : H.Move w members is_long) (woken entered : ℕ → ℕ) → H.Can w members is_long s m
        → (H.after w members is_long s m).team ≡ record s.team { woken = woken; entered = entered } → (H.IsWrite w members is_long m → ⊥) → Next s
    Claim : (j part n : ℕ) → H.Can w members is_long s (H.Claims j part n) → Next s
    Work : (j part n : ℕ) → j ≤ members → s.place j ≡ H.Working part n → Next s
    Through : s.place 0 ≡ H.Counting w.tasks → Next s
    AllTaken : s.place 0 ≡ H.Left → Next s

  -- ---- what a move of one thread leaves unchanged in the others

  pub record Changes (s t : Threads) (j : ℕ) : Type 0 where
    pub place : (k : ℕ) → k ≢ j → t.place k ≡ s.place k
    pub step : t.team.step ≡ s.team.step
    pub over : t.team.is_over ≡ s.team.is_over
    pub entered : (k : ℕ) → k ≢ j → t.team.entered k ≡ s.team.entered k
    pub grows : (i : ℕ) → s.team.state i ≤ t.team.state i
    pub works : (k i : ℕ) → k ≢ j → s.team.state i ≡ 2 * s.team.step + 1 → s.owner i ≡ k → (t.team.state i ≡ 2 * s.team.step + 1) × (t.owner i ≡ k)
    pub owes : (k : ℕ) → IsMember k → k ≢ j → (taken : ℕ) → Owes s k taken → Owes t k taken

  module _ (s t : Threads) (j : ℕ) (c : Changes s t j) where
    member_moved : (k : ℕ) → IsMember k → k ≢ j → (at : H.Place) → Member s k at → Member t k at
    member_moved k is ne (H.Taking part n) m = record {
      owes = rw (c.entered k ne) (c.owes k is ne (s.team.entered k) m.owes);
      entered = rw (c.entered k ne) m.entered;
      position = m.position;
      few = m.few;
    }
    member_moved k is ne (H.Working part n) m = record {
      owes = rw (c.entered k ne) (c.owes k is ne (s.team.entered k) m.owes);
      entered = rw (c.entered k ne, c.step) m.entered;
      position = m.position;
      few = m.few;
      owner = (c.works k part ne m.at_work m.owner).1;
      at_work = rw c.step ((c.works k part ne m.at_work m.owner).0);
    }
    member_moved k is ne (H.Telling n) m = rw (c.entered k ne) (c.owes k is ne (s.team.entered k) m)
    member_moved k is ne H.Waiting m = rw (c.entered k ne) (c.owes k is ne (s.team.entered k) m)
    member_moved k is ne H.Woken m = rw (c.entered k ne) (c.owes k is ne (suc (s.team.entered k)) m)
    member_moved k is ne H.Ended m = c.over ∙ m
    member_moved k is ne other m = m

    claimed_moved : (i : ℕ) → IsClaimed s i → IsClaimed t i
    claimed_moved i h = omega (arith, c.step, c.grows i, h)

    own_moved : (k : ℕ) (at : H.Place) → Own s k at → Own t k at
    own_moved k (H.Taking part n) o = elim o [ inl e ↦ inl e | inr h ↦ inr (claimed_moved k h) ]
    own_moved k other o = claimed_moved k o

    -- a move of a thread j other than the caller's keeps what `Caller` says of the caller's thread (`caller_moved`)
    module _ (other : 0 ≢ j) (woken : (k : ℕ) → t.team.woken k ≡ s.team.woken k)
        (ended : ((k : ℕ) → IsMember k → s.place k ≡ H.Ended) → (k : ℕ) → IsMember k → t.place k ≡ H.Ended) where
      going_moved : Going s → Going t
      going_moved g = record {
        over = c.over ∙ g.over;
        more = omega (arith, c.step, g.more);
        woken = λ k is. omega (arith, woken k, g.woken k is, c.step);
      }

      caller_moved : (at : H.Place) → Caller s at → Caller t at
      caller_moved (H.Waking k) m = record {
        over = c.over ∙ m.over;
        more = omega (arith, c.step, m.more);
        first = m.first;
        last = m.last;
        woken = λ i is. rw c.step (woken i ∙ m.woken i is);
      }
      caller_moved (H.Taking part n) m = record {
        going = going_moved m.going;
        position = m.position;
        few = m.few;
        first = elim m.first [ inl e ↦ inl e | inr h ↦ inr (claimed_moved 0 h) ];
      }
      caller_moved (H.Working part n) m = record {
        going = going_moved m.going;
        position = m.position;
        few = m.few;
        owner = (c.works 0 part other m.at_work m.owner).1;
        at_work = rw c.step ((c.works 0 part other m.at_work m.owner).0);
        first = claimed_moved 0 m.first;
      }
      caller_moved (H.Counting n) m = (going_moved m.0, claimed_moved 0 m.1)
      caller_moved H.Left m = (c.over ∙ m.0, c.step ∙ m.1)
      caller_moved (H.Ending k) m = (c.over ∙ m.0, m.1, m.2)
      caller_moved H.Ended m = (c.over ∙ m.0, ended m.1)
      caller_moved other m = m

    -- a move that claims and finishes no part keeps the invariants `busy` and `chain`
    module _ (inv : Holds s) (state : (i : ℕ) → t.team.state i ≡ s.team.state i) (owner : (i : ℕ) → t.owner i ≡ s.owner i)
        (idle : (part n : ℕ) → s.place j ≢ H.Working part n)
        (leaves : s.team.is_over ≡ false → (i n : ℕ) → i < w.tasks → IsClaimed s i → members < next i → H.own_step w members is_long s j ≡ s.team.step → s.place j ≡ H.Taking (next i) n → IsClaimed s (next i)) where
      busy_quiet : (i : ℕ) → i < w.tasks → t.team.state i ≡ 2 * t.team.step + 1 → (t.owner i ≤ members) × (n : ℕ) × (t.place (t.owner i) ≡ H.Working i n)
      busy_quiet i exists e =
          let b = inv.busy i exists (omega (arith, e, state i, c.step)) in
          let ne : s.owner i ≢ j = λ same. idle i b.1 (subst (λ (k : ℕ). s.place k ≡ H.Working i b.1) same b.2) in
          rw (owner i) (b.0, b.1, c.place (s.owner i) ne ∙ b.2)

      goes_on_quiet : s.team.is_over ≡ false → (i : ℕ) → i < w.tasks → IsClaimed s i → members < next i → GoesOn s i → IsClaimed t (next i) ⊎ GoesOn t i
      goes_on_quiet over i exists claimed far g = elim (eqb_tells (s.owner i) j) [
        | inl x ↦ elim g.place [
          | inl e ↦ absurd (idle i g.taken (subst (λ (k : ℕ). s.place k ≡ H.Working i g.taken) x.1 e))
          | inr e ↦ inl (claimed_moved (next i) (leaves over i g.taken exists claimed far
              (subst (λ (k : ℕ). H.own_step w members is_long s k ≡ s.team.step) x.1 g.now)
              (subst (λ (k : ℕ). s.place k ≡ H.Taking (next i) g.taken) x.1 e)))
        ]
        | inr x ↦ inr (record {
          inside = rw (owner i) g.inside;
          now = rw (owner i, c.entered (s.owner i) x.1, c.step) g.now;
          taken = g.taken;
          place = rw (owner i, c.place (s.owner i) x.1) g.place;
        })
      ]

      chain_quiet : t.team.is_over ≡ false → (i : ℕ) → i < w.tasks → IsClaimed t i → members < next i → IsClaimed t (next i) ⊎ GoesOn t i
      chain_quiet over i exists claimed far =
          let was : IsClaimed s i = omega (arith, claimed, state i, c.step) in
          elim (inv.chain (sym c.over ∙ over) i exists was far) [
            | inl h ↦ inl (claimed_moved (next i) h)
            | inr g ↦ goes_on_quiet (sym c.over ∙ over) i exists was far g
          ]

  -- ---- what holds at the start, and after each move

  module _ (apart : T.IsApart w) where
    holds_at_start : (s : Threads) → H.IsStart w members is_long s → Holds s
    holds_at_start s b = record {
      team = T.starts s.team b.team;
      fewer = b.fewer;
      caller = rw b.caller (record {
        over = b.team.goes_on;
        more = omega (arith, b.team.step, b.some);
        first = omega arith;
        last = omega arith;
        woken = λ j is. elim (below j 1 (suc s.team.step) s.team.step) [
          | inl x ↦ absurd (omega (arith, x.0, is.0))
          | inr x ↦ omega (arith, x.1, b.team.woken j, b.team.step)
        ];
      });
      member = λ j is. rw (b.others j is) (
          let l : last_wake (s.place 0) j ≡ 0 = rw b.caller refl in omega (arith, l, b.wakes j, b.team.entered j, b.team.woken j));
      owned = λ j is e. absurd (omega (arith, e, b.team.entered j));
      busy = λ i exists e. absurd (omega (arith, e, b.team.state i));
      chain = λ over i exists claimed. absurd (omega (arith, claimed, b.team.state i, b.team.step));
      count = λ over.
          let k : known (s.place 0) ≡ 0 = rw b.caller refl in
          let told = total_none members (λ k. untold (s.place (suc k))) (λ k inside. rw (b.others (suc k) (omega (arith), omega (arith, inside))) refl) in
          let done = total_none w.tasks (λ i. is_done s.team.step (s.team.state i)) (λ i inside. done_no s.team.step (s.team.state i) (omega (arith, b.team.state i, b.team.step))) in
          omega (arith, k, told, done, b.wakes 0);
    }

    module _ (s : Threads) (inv : Holds s) where
      facts : P.Holds w s.team
      facts = P.holds w apart s.team inv.team

      -- how a move of the caller's thread, or of another thread, changes the totals in `Count`
      module _ (t : Threads) (j : ℕ) (c : Changes s t j) where
        told_same : j ≡ 0 → total members (λ k. untold (t.place (suc k))) ≡ total members (λ k. untold (s.place (suc k)))
        told_same e = total_same members (λ k. untold (s.place (suc k))) (λ k. untold (t.place (suc k)))
            (λ k inside. ap untold (c.place (suc k) (λ same. omega (arith, same, e))))

        told_change : IsMember j → total members (λ k. untold (t.place (suc k))) + untold (s.place j) ≡ total members (λ k. untold (s.place (suc k))) + untold (t.place j)
        told_change is =
            let e : suc (j - 1) ≡ j = omega (arith, is.0) in
            let change = total_change members (j - 1) (λ k. untold (s.place (suc k))) (λ k. untold (t.place (suc k))) (omega (arith, is.0, is.1))
            (λ k inside ne. ap untold (c.place (suc k) (λ same. ne (omega (arith, same, is.0))))) in
            rw e at change

        done_same : ((i : ℕ) → is_done t.team.step (t.team.state i) ≡ is_done s.team.step (s.team.state i))
            → total w.tasks (λ i. is_done t.team.step (t.team.state i)) ≡ total w.tasks (λ i. is_done s.team.step (s.team.state i))
        done_same same = total_same w.tasks (λ i. is_done s.team.step (s.team.state i)) (λ i. is_done t.team.step (t.team.state i)) (λ i inside. same i)

      -- a move of thread j, not the caller's, that claims and finishes no part keeps `Holds`, under these hypotheses
      module _ (t : Threads) (j : ℕ) (is : IsMember j) (c : Changes s t j) (team : T.IsReached w t.team) (from : H.Place) (was : s.place j ≡ from)
          (state : (i : ℕ) → t.team.state i ≡ s.team.state i) (owner : (i : ℕ) → t.owner i ≡ s.owner i) (woken : (k : ℕ) → t.team.woken k ≡ s.team.woken k)
          (idle : (part n : ℕ) → from ≢ H.Working part n) (alive : from ≢ H.Ended)
          (leaves : s.team.is_over ≡ false → (i n : ℕ) → i < w.tasks → IsClaimed s i → members < next i → H.own_step w members is_long s j ≡ s.team.step → from ≡ H.Taking (next i) n → IsClaimed s (next i))
          (member : Member t j (t.place j)) (owned : t.team.entered j ≡ suc t.team.step → Own t j (t.place j)) (count : s.team.is_over ≡ false → Count t) where
        quiet_member : Holds t
        quiet_member = record {
          team = team;
          fewer = inv.fewer;
          caller = let ne : 0 ≢ j = λ e. omega (arith, e, is.0) in
              rw (c.place 0 ne) (caller_moved s t j c ne woken (λ all. absurd (alive (sym was ∙ all j is))) (s.place 0) inv.caller);
          member = λ k is_k. elim (eqb_tells k j) [
            | inl x ↦ subst (λ (i : ℕ). Member t i (t.place i)) (sym x.1) member
            | inr x ↦ rw (c.place k x.1) (member_moved s t j c k is_k x.1 (s.place k) (inv.member k is_k))
          ];
          owned = λ k is_k e. elim (eqb_tells k j) [
            | inl x ↦ subst (λ (i : ℕ). Own t i (t.place i)) (sym x.1) (owned (sym (ap t.team.entered x.1) ∙ e))
            | inr x ↦ rw (c.place k x.1) (own_moved s t j c k (s.place k) (inv.owned k is_k (omega (arith, e, c.entered k x.1, c.step))))
          ];
          busy = busy_quiet s t j c inv state owner (λ part n e. idle part n (sym was ∙ e)) (λ over i n exists claimed far now e. leaves over i n exists claimed far now (sym was ∙ e));
          chain = chain_quiet s t j c inv state owner (λ part n e. idle part n (sym was ∙ e)) (λ over i n exists claimed far now e. leaves over i n exists claimed far now (sym was ∙ e));
          count = λ over. count (sym c.over ∙ over);
        }

      -- a move of the caller's thread that claims and finishes no part keeps `Holds`, under these hypotheses
      module _ (t : Threads) (c : Changes s t 0) (team : T.IsReached w t.team) (from : H.Place) (was : s.place 0 ≡ from)
          (state : (i : ℕ) → t.team.state i ≡ s.team.state i) (owner : (i : ℕ) → t.owner i ≡ s.owner i)
          (idle : (part n : ℕ) → from ≢ H.Working part n)
          (leaves : s.team.is_over ≡ false → (i n : ℕ) → i < w.tasks → IsClaimed s i → members < next i → H.own_step w members is_long s 0 ≡ s.team.step → from ≡ H.Taking (next i) n → IsClaimed s (next i))
          (caller : Caller t (t.place 0)) (count : s.team.is_over ≡ false → Count t) where
        quiet_caller : Holds t
        quiet_caller = record {
          team = team;
          fewer = inv.fewer;
          caller = caller;
          member = λ k is_k. let ne : k ≢ 0 = λ e. omega (arith, e, is_k.0) in rw (c.place k ne) (member_moved s t 0 c k is_k ne (s.place k) (inv.member k is_k));
          owned = λ k is_k e. let ne : k ≢ 0 = λ e. omega (arith, e, is_k.0) in
              rw (c.place k ne) (own_moved s t 0 c k (s.place k) (inv.owned k is_k (omega (arith, e, c.entered k ne, c.step))));
          busy = busy_quiet s t 0 c inv state owner (λ part n e. idle part n (sym was ∙ e)) (λ over i n exists claimed far now e. leaves over i n exists claimed far now (sym was ∙ e));
          chain = chain_quiet s t 0 c inv state owner (λ part n e. idle part n (sym was ∙ e)) (λ over i n exists claimed far now e. leaves over i n exists claimed far now (sym was ∙ e));
          count = λ over. count (sym c.over ∙ over);
        }

      -- ---- the caller's thread

      module _ (k : ℕ) (can : H.Can w members is_long s (H.Wakes k)) where
        abbrev wakes_t : Threads
        wakes_t = H.after w members is_long s (H.Wakes k)

        waking : CallerWakes s k
        waking = subst (Caller s) can.0 inv.caller

        pub woken_k : s.team.woken k ≡ s.team.step
        woken_k = waking.woken k (waking.first, omega (arith, can.1)) ∙ elim (below k k (suc s.team.step) s.team.step) [
          | inl x ↦ absurd (omega (arith, x.0))
          | inr x ↦ x.1
        ]

        wakes_changes : Changes s wakes_t 0
        wakes_changes = record {
          place = λ i ne. elsewhere s.place 0 (H.Waking (suc k)) i ne;
          step = refl;
          over = refl;
          entered = λ i ne. refl;
          grows = λ i. omega arith;
          works = λ i part ne e owner. (e, owner);
          owes = λ i is ne taken o.
              let l : last_wake (s.place 0) i ≡ 0 = rw can.0 refl in
              elim (eqb_tells i k) [
                | inl x ↦ let one = ap s.wakes x.1 in let two = ap s.team.woken x.1 in
                    omega (arith, o, l, one, two, hit s.wakes k (suc (s.wakes k)) i x.0, hit s.team.woken k (suc (s.team.woken k)) i x.0)
                | inr x ↦ omega (arith, o, l, miss s.wakes k (suc (s.wakes k)) i x.0, miss s.team.woken k (suc (s.team.woken k)) i x.0)
              ];
        }

        wakes_kept : Holds wakes_t
        wakes_kept = quiet_caller wakes_t wakes_changes
            (T.moves s.team (T.after w s.team (T.Wakes k)) (T.Wakes k) inv.team ((waking.over, waking.more), omega (arith, woken_k)) refl)
            (H.Waking k) can.0 (λ i. refl) (λ i. refl) (λ part n e. cc) (λ over i n exists claimed far now e. absurd (cc))
            (record {
              over = waking.over;
              more = waking.more;
              first = omega arith;
              last = omega (arith, can.1);
              woken = λ i is. elim (eqb_tells i k) [
                | inl x ↦ hit s.team.woken k (suc (s.team.woken k)) i x.0 ∙ ap suc woken_k ∙ elim (below i (suc k) (suc s.team.step) s.team.step) [
                  | inl y ↦ sym y.1
                  | inr y ↦ absurd (omega (arith, y.0, x.1))
                ]
                | inr x ↦ miss s.team.woken k (suc (s.team.woken k)) i x.0 ∙ waking.woken i is ∙ elim (below i k (suc s.team.step) s.team.step) [
                  | inl y ↦ y.1 ∙ elim (below i (suc k) (suc s.team.step) s.team.step) [ inl z ↦ sym z.1 | inr z ↦ absurd (omega (arith, y.0, z.0)) ]
                  | inr y ↦ y.1 ∙ elim (below i (suc k) (suc s.team.step) s.team.step) [ inl z ↦ absurd (omega (arith, y.0, z.0, x.1)) | inr z ↦ sym z.1 ]
                ]
              ];
            })
            (λ over.
            let one : known (s.place 0) ≡ 0 = rw can.0 refl in
            let w0 = elsewhere s.wakes k (suc (s.wakes k)) 0 (λ e. omega (arith, e, waking.first)) in
            let told = told_same wakes_t 0 wakes_changes refl in
            omega (arith, one, w0, told, inv.count over))

      module _ (can : H.Can w members is_long s H.Begins) where
        abbrev begins_t : Threads
        begins_t = H.after w members is_long s H.Begins

        awake : CallerWakes s (suc members)
        awake = subst (Caller s) can inv.caller

        begins_changes : Changes s begins_t 0
        begins_changes = record {
          place = λ i ne. elsewhere s.place 0 (H.Taking 0 0) i ne;
          step = refl;
          over = refl;
          entered = λ i ne. refl;
          grows = λ i. omega arith;
          works = λ i part ne e owner. (e, owner);
          owes = λ i is ne taken o. let l : last_wake (s.place 0) i ≡ 0 = rw can refl in omega (arith, o, l);
        }

        begins_kept : Holds begins_t
        begins_kept = quiet_caller begins_t begins_changes inv.team (H.Waking (suc members)) can (λ i. refl) (λ i. refl) (λ part n e. cc) (λ over i n exists claimed far now e. absurd (cc))
            (record {
              going = record {
                over = awake.over;
                more = awake.more;
                woken = λ j is. awake.woken j is ∙ elim (below j (suc members) (suc s.team.step) s.team.step) [
                  | inl x ↦ x.1
                  | inr x ↦ absurd (omega (arith, x.0, is.1))
                ];
              };
              position = record { exists = omega (arith, inv.fewer); at = inl (omega arith) };
              few = omega arith;
              first = inl refl;
            })
            (λ over.
            let one : known (s.place 0) ≡ 0 = rw can refl in
            let told = told_same begins_t 0 begins_changes refl in
            omega (arith, one, told, inv.count over))

      module _ (n : ℕ) (can : H.Can w members is_long s (H.Counts n)) where
        abbrev counts_t : Threads
        counts_t = H.after w members is_long s (H.Counts n)

        counting : Going s × IsClaimed s 0
        counting = subst (Caller s) can.0 inv.caller

        counts_changes : Changes s counts_t 0
        counts_changes = record {
          place = λ i ne. elsewhere s.place 0 (H.Counting (suc n)) i ne;
          step = refl;
          over = refl;
          entered = λ i ne. refl;
          grows = λ i. omega arith;
          works = λ i part ne e owner. (e, owner);
          owes = λ i is ne taken o.
              let l : last_wake (s.place 0) i ≡ 0 = rw can.0 refl in omega (arith, o, l, elsewhere s.wakes 0 (s.wakes 0 - 1) i ne);
        }

        counts_kept : Holds counts_t
        counts_kept = quiet_caller counts_t counts_changes inv.team (H.Counting n) can.0 (λ i. refl) (λ i. refl) (λ part n e. cc) (λ over i n exists claimed far now e. absurd (cc))
            (record { over = counting.0.over; more = counting.0.more; woken = counting.0.woken }, counting.1)
            (λ over.
            let one : known (s.place 0) ≡ n = rw can.0 refl in
            let told = told_same counts_t 0 counts_changes refl in
            omega (arith, one, told, there s.wakes 0 (s.wakes 0 - 1), inv.count over, can.2))

      module _ (k : ℕ) (can : H.Can w members is_long s (H.Dismisses k)) where
        abbrev dismisses_t : Threads
        dismisses_t = H.after w members is_long s (H.Dismisses k)

        dismissing : (s.team.is_over ≡ true) × (0 < k) × (k ≤ suc members)
        dismissing = subst (Caller s) can.0 inv.caller

        dismisses_changes : Changes s dismisses_t 0
        dismisses_changes = record {
          place = λ i ne. elsewhere s.place 0 (H.Ending (suc k)) i ne;
          step = refl;
          over = refl;
          entered = λ i ne. refl;
          grows = λ i. omega arith;
          works = λ i part ne e owner. (e, owner);
          owes = λ i is ne taken o.
              let l : last_wake (s.place 0) i ≡ cond (ltb i k) 1 0 = rw can.0 refl in
              elim (eqb_tells i k) [
                | inl x ↦ let one = ap s.wakes x.1 in
                    elim (below i k 1 0) [
                      | inl y ↦ absurd (omega (arith, y.0, x.1))
                      | inr y ↦ elim (below i (suc k) 1 0) [
                        | inl z ↦ omega (arith, o, l, one, y.1, z.1, hit s.wakes k (suc (s.wakes k)) i x.0)
                        | inr z ↦ absurd (omega (arith, z.0, x.1))
                      ]
                    ]
                | inr x ↦ elim (below i k 1 0) [
                  | inl y ↦ elim (below i (suc k) 1 0) [
                    | inl z ↦ omega (arith, o, l, y.1, z.1, miss s.wakes k (suc (s.wakes k)) i x.0)
                    | inr z ↦ absurd (omega (arith, y.0, z.0))
                  ]
                  | inr y ↦ elim (below i (suc k) 1 0) [
                    | inl z ↦ absurd (omega (arith, y.0, z.0, x.1))
                    | inr z ↦ omega (arith, o, l, y.1, z.1, miss s.wakes k (suc (s.wakes k)) i x.0)
                  ]
                ]
              ];
        }

        dismisses_kept : Holds dismisses_t
        dismisses_kept = quiet_caller dismisses_t dismisses_changes inv.team (H.Ending k) can.0 (λ i. refl) (λ i. refl) (λ part n e. cc) (λ over i n exists claimed far now e. absurd (cc))
            (dismissing.0, omega arith, omega (arith, can.1)) (λ over. absurd (let e = dismissing.0 in cc))

      module _ (can : H.Can w members is_long s H.Returns) where
        abbrev returns_t : Threads
        returns_t = H.after w members is_long s H.Returns

        over_then : (s.team.is_over ≡ true) × (0 < suc members) × (suc members ≤ suc members)
        over_then = subst (Caller s) can.0 inv.caller

        returns_changes : Changes s returns_t 0
        returns_changes = record {
          place = λ i ne. elsewhere s.place 0 H.Ended i ne;
          step = refl;
          over = refl;
          entered = λ i ne. refl;
          grows = λ i. omega arith;
          works = λ i part ne e owner. (e, owner);
          owes = λ i is ne taken o.
              let l : last_wake (s.place 0) i ≡ cond (ltb i (suc members)) 1 0 = rw can.0 refl in
              elim (below i (suc members) 1 0) [
                | inl y ↦ omega (arith, o, l, y.1)
                | inr y ↦ absurd (omega (arith, y.0, is.1))
              ];
        }

        returns_kept : Holds returns_t
        returns_kept = quiet_caller returns_t returns_changes inv.team (H.Ending (suc members)) can.0 (λ i. refl) (λ i. refl) (λ part n e. cc) (λ over i n exists claimed far now e. absurd (cc))
            (over_then.0, λ j is. elsewhere s.place 0 H.Ended j (λ e. omega (arith, e, is.0)) ∙ can.1 j is) (λ over. absurd (let e = over_then.0 in cc))

      -- ---- the other threads

      module _ (j : ℕ) (is : IsMember j) (place : H.Place) (wakes : ℕ) where
        -- the state s after thread j went to `place` and its semaphore was set to `wakes`
        abbrev moved : Threads
        moved = record s { place = T.updated s.place j place; wakes = T.updated s.wakes j wakes }

        not_caller : 0 ≢ j
        not_caller e = omega (arith, e, is.0)

        moved_caller : moved.place 0 ≡ s.place 0
        moved_caller = elsewhere s.place j place 0 not_caller

        moved_changes : Changes s moved j
        moved_changes = record {
          place = λ i ne. elsewhere s.place j place i ne;
          step = refl;
          over = refl;
          entered = λ i ne. refl;
          grows = λ i. omega arith;
          works = λ i part ne e owner. (e, owner);
          owes = λ i is ne taken o. rw moved_caller (omega (arith, o, elsewhere s.wakes j wakes i ne));
        }

        moved_count : untold place ≡ untold (s.place j) → s.team.is_over ≡ false → Count moved
        moved_count same over =
            let told = told_change moved j moved_changes is in
            let now = ap untold (there s.place j place) in
            let k = ap known moved_caller in
            let w0 = elsewhere s.wakes j wakes 0 not_caller in
            omega (arith, told, now, k, w0, same, inv.count over)

      module _ (j n : ℕ) (can : H.Can w members is_long s (H.Tells j n)) where
        abbrev tells_t : Threads
        tells_t = H.after w members is_long s (H.Tells j n)

        tells_caller : tells_t.place 0 ≡ s.place 0
        tells_caller = elsewhere s.place j (H.Telling n) 0 (λ e. omega (arith, e, can.0.0))

        tells_changes : Changes s tells_t j
        tells_changes = record {
          place = λ i ne. elsewhere s.place j (H.Telling n) i ne;
          step = refl;
          over = refl;
          entered = λ i ne. refl;
          grows = λ i. omega arith;
          works = λ i part ne e owner. (e, owner);
          owes = λ i is ne taken o. rw tells_caller (omega (arith, o, elsewhere s.wakes 0 (suc (s.wakes 0)) i (λ e. omega (arith, e, is.0))));
        }

        tells_member : Member tells_t j (tells_t.place j)
        tells_member =
            let o : Owes s j (s.team.entered j) = subst (Member s j) can.1 (inv.member j can.0) in
            rw (there s.place j (H.Telling n), tells_caller) (omega (arith, o, elsewhere s.wakes 0 (suc (s.wakes 0)) j (λ e. omega (arith, e, can.0.0))))

        tells_kept : Holds tells_t
        tells_kept = quiet_member tells_t j can.0 tells_changes inv.team (H.Telling (suc n)) can.1 (λ i. refl) (λ i. refl) (λ i. refl)
            (λ part n e. cc) (λ e. cc) (λ over i n exists claimed far now e. absurd (cc)) tells_member
            (λ e. rw (there s.place j (H.Telling n)) (subst (Own s j) can.1 (inv.owned j can.0 e)))
            (λ over.
            let told = told_change tells_t j tells_changes can.0 in
            let now = ap untold (there s.place j (H.Telling n)) in
            let was = ap untold can.1 in
            let k = ap known tells_caller in
            omega (arith, told, now, was, k, there s.wakes 0 (suc (s.wakes 0)), inv.count over))

      module _ (j : ℕ) (can : H.Can w members is_long s (H.Waits j)) where
        abbrev waits_t : Threads
        waits_t = H.after w members is_long s (H.Waits j)

        same_wakes : (k : ℕ) → T.updated s.wakes j (s.wakes j) k ≡ s.wakes k
        same_wakes k = elim (eqb_tells k j) [ inl x ↦ hit s.wakes j (s.wakes j) k x.0 ∙ ap s.wakes (sym x.1) | inr x ↦ miss s.wakes j (s.wakes j) k x.0 ]

        waits_caller : waits_t.place 0 ≡ s.place 0
        waits_caller = elsewhere s.place j H.Waiting 0 (λ e. omega (arith, e, can.0.0))

        waits_changes : Changes s waits_t j
        waits_changes = record {
          place = λ i ne. elsewhere s.place j H.Waiting i ne;
          step = refl;
          over = refl;
          entered = λ i ne. refl;
          grows = λ i. omega arith;
          works = λ i part ne e owner. (e, owner);
          owes = λ i is ne taken o. rw waits_caller o;
        }

        waits_kept : Holds waits_t
        waits_kept = quiet_member waits_t j can.0 waits_changes inv.team (H.Telling 0) can.1 (λ i. refl) (λ i. refl) (λ i. refl)
            (λ part n e. cc) (λ e. cc) (λ over i n exists claimed far now e. absurd (cc))
            (rw (there s.place j H.Waiting, waits_caller) (subst (Member s j) can.1 (inv.member j can.0)))
            (λ e. rw (there s.place j H.Waiting) (subst (Own s j) can.1 (inv.owned j can.0 e)))
            (λ over.
            let told = told_change waits_t j waits_changes can.0 in
            let now = ap untold (there s.place j H.Waiting) in
            let was = ap untold can.1 in
            let k = ap known waits_caller in
            omega (arith, told, now, was, k, inv.count over))

      module _ (j : ℕ) (can : H.Can w members is_long s (H.Awakes j)) where
        abbrev awakes_t : Threads
        awakes_t = H.after w members is_long s (H.Awakes j)

        awakes_member : Member awakes_t j (awakes_t.place j)
        awakes_member =
            let o : Owes s j (s.team.entered j) = subst (Member s j) can.1 (inv.member j can.0) in
            rw (there s.place j H.Woken, moved_caller j can.0 H.Woken (s.wakes j - 1)) (omega (arith, o, there s.wakes j (s.wakes j - 1), can.2))

        awakes_kept : Holds awakes_t
        awakes_kept = quiet_member awakes_t j can.0 (moved_changes j can.0 H.Woken (s.wakes j - 1)) inv.team H.Waiting can.1 (λ i. refl) (λ i. refl) (λ i. refl)
            (λ part n e. cc) (λ e. cc) (λ over i n exists claimed far now e. absurd (cc)) awakes_member
            (λ e. rw (there s.place j H.Woken) (subst (Own s j) can.1 (inv.owned j can.0 e)))
            (moved_count j can.0 H.Woken (s.wakes j - 1) (rw can.1 refl))

      module _ (j : ℕ) (is : IsMember j) (place : H.Place) where
        abbrev gone : Threads
        gone = H.goes w members is_long s j place

        gone_caller : gone.place 0 ≡ s.place 0
        gone_caller = elsewhere s.place j place 0 (λ e. omega (arith, e, is.0))

        gone_changes : Changes s gone j
        gone_changes = record {
          place = λ i ne. elsewhere s.place j place i ne;
          step = refl;
          over = refl;
          entered = λ i ne. refl;
          grows = λ i. omega arith;
          works = λ i part ne e owner. (e, owner);
          owes = λ i is ne taken o. rw gone_caller o;
        }

        gone_count : untold place ≡ untold (s.place j) → s.team.is_over ≡ false → Count gone
        gone_count same over =
            let told = told_change gone j gone_changes is in
            let now = ap untold (there s.place j place) in
            let k = ap known gone_caller in
            omega (arith, told, now, k, same, inv.count over)

      exits_kept : (j : ℕ) (can : H.Can w members is_long s (H.Exits j)) → Holds (H.after w members is_long s (H.Exits j))
      exits_kept j can = quiet_member (gone j can.0 H.Ended) j can.0 (gone_changes j can.0 H.Ended) inv.team H.Woken can.1 (λ i. refl) (λ i. refl) (λ i. refl)
          (λ part n e. cc) (λ e. cc) (λ over i n exists claimed far now e. absurd (cc))
          (rw (there s.place j H.Ended) can.2)
          (λ e. rw (there s.place j H.Ended) (subst (Own s j) can.1 (inv.owned j can.0 e)))
          (gone_count j can.0 H.Ended (rw can.1 refl))

      module _ (j : ℕ) (can : H.Can w members is_long s (H.Enters j)) where
        abbrev enters_t : Threads
        enters_t = H.after w members is_long s (H.Enters j)

        awoken : Owes s j (suc (s.team.entered j))
        awoken = subst (Member s j) can.1 (inv.member j can.0)

        not_dismissed : (at : H.Place) → Caller s at → last_wake at j ≡ 0
        not_dismissed (H.Waking k) c = refl
        not_dismissed (H.Taking part n) c = refl
        not_dismissed (H.Working part n) c = refl
        not_dismissed (H.Counting n) c = refl
        not_dismissed H.Left c = refl
        not_dismissed (H.Ending k) c = absurd (let e = c.0 in let no = can.2 in cc)
        not_dismissed H.Ended c = absurd (let e = c.0 in let no = can.2 in cc)
        not_dismissed other c = refl

        enters_caller : enters_t.place 0 ≡ s.place 0
        enters_caller = elsewhere s.place j (H.Taking j 0) 0 (λ e. omega (arith, e, can.0.0))

        own_entered : enters_t.team.entered j ≡ suc (s.team.entered j)
        own_entered = there s.team.entered j (suc (s.team.entered j))

        enters_changes : Changes s enters_t j
        enters_changes = record {
          place = λ i ne. elsewhere s.place j (H.Taking j 0) i ne;
          step = refl;
          over = refl;
          entered = λ i ne. elsewhere s.team.entered j (suc (s.team.entered j)) i ne;
          grows = λ i. omega arith;
          works = λ i part ne e owner. (e, owner);
          owes = λ i is ne taken o. rw enters_caller o;
        }

        enters_kept : Holds enters_t
        enters_kept = quiet_member enters_t j can.0 enters_changes
            (T.moves s.team (T.after w s.team (T.Enters j)) (T.Enters j) inv.team
            (can.2, let l = not_dismissed (s.place 0) inv.caller in omega (arith, awoken, l)) refl)
            H.Woken can.1 (λ i. refl) (λ i. refl) (λ i. refl)
            (λ part n e. cc) (λ e. cc) (λ over i n exists claimed far now e. absurd (cc))
            (rw (there s.place j (H.Taking j 0)) (record {
              owes = rw (enters_caller, own_entered) awoken;
              entered = omega (arith, own_entered);
              position = record { exists = omega (arith, can.0.1, inv.fewer); at = inl (omega arith) };
              few = omega arith;
            }))
            (λ e. rw (there s.place j (H.Taking j 0)) (inl refl))
            (λ over.
            let told = told_change enters_t j enters_changes can.0 in
            let now = ap untold (there s.place j (H.Taking j 0)) in
            let was = ap untold can.1 in
            let k = ap known enters_caller in
            omega (arith, told, now, was, k, inv.count over))

      -- ---- parts

      -- the next lemmas lead to `own_claimed` and `left_claimed`: when a thread takes no more parts, its own
      -- part is claimed, and so is the part that the thread has reached, unless this is a thread's own part
      pub own_at_member : (j : ℕ) → IsMember j → H.own_step w members is_long s j ≡ s.team.entered j - 1
      own_at_member j is = elim (eqb_tells j 0) [ inl x ↦ absurd (omega (arith, x.1, is.0)) | inr x ↦ rw x.0 refl ]

      pub all_done : s.team.is_over ≡ false → w.tasks ≤ known (s.place 0) + total members (λ k. untold (s.place (suc k))) → (i : ℕ) → i < w.tasks → 2 * s.team.step + 2 ≤ s.team.state i
      all_done over full i exists =
          let counted = inv.count over in
          done_is s.team.step (s.team.state i) (total_full w.tasks (λ i. is_done s.team.step (s.team.state i)) (λ i. done_most s.team.step (s.team.state i)) (omega (arith, full, counted)) i exists)

      claimed_if_not_free : (i : ℕ) → i < w.tasks → s.team.state i ≢ 2 * s.team.step → IsClaimed s i
      claimed_if_not_free i exists ne = omega (arith, ne, facts.states.least i exists)

      -- if thread j has taken `most j` parts, the part that it has reached is claimed, unless it is a thread's own part
      claimed_after_most : s.team.is_over ≡ false → (j part n : ℕ) → j ≤ members → s.place j ≡ H.Taking part n → Position j part n → n ≤ most j → most j ≤ n
          → members < part → IsClaimed s part
      claimed_after_most over j part n inside is position few full far = elim (most_cases w members is_long j) [
        | inl all ↦
            let told : n ≤ known (s.place 0) + total members (λ k. untold (s.place (suc k))) = elim (eqb_tells j 0) [
              | inl x ↦ let e = ap (λ (k : ℕ). known (s.place k)) x.1 in let f = ap known is in omega (arith, e, f)
              | inr x ↦
                  let e : suc (j - 1) ≡ j = omega (arith, x.1) in
                  let l = total_least members (j - 1) (λ k. untold (s.place (suc k))) (omega (arith, inside, x.1)) in
                  let f = ap untold is in let g = ap (λ (k : ℕ). untold (s.place k)) e in omega (arith, l, f, g)
            ] in
            let done = all_done over (omega (arith, told, full, all)) part position.exists in omega (arith, done)
        | inr x ↦ elim x [
          | inl y ↦ absurd (elim position.at [
            | inl e ↦ omega (arith, e, y.0, y.1, full, inv.fewer)
            | inr e ↦ omega (arith, e, y.0, y.1, full, few, inv.fewer, far)
          ])
          | inr y ↦ absurd (elim position.at [
            | inl e ↦ omega (arith, e, y.1, full, few, inside, far)
            | inr e ↦ omega (arith, e, y.0, y.1, full, few, position.exists)
          ])
        ]
      ]

      most_is_some : (j : ℕ) → 0 < most j
      most_is_some j = elim (most_cases w members is_long j) [
        | inl all ↦ omega (arith, all, inv.fewer)
        | inr x ↦ elim x [ inl y ↦ omega (arith, y.1, inv.fewer) | inr y ↦ omega (arith, y.1) ]
      ]

      most_is_few : (j : ℕ) → most j ≤ w.tasks
      most_is_few j = elim (most_cases w members is_long j) [
        | inl all ↦ omega (arith, all)
        | inr x ↦ elim x [ inl y ↦ omega (arith, y.1) | inr y ↦ omega (arith, y.1, inv.fewer) ]
      ]

      first_part : (j part : ℕ) → Position j part 0 → part ≡ j
      first_part j part position = elim position.at [ inl e ↦ omega (arith, e) | inr e ↦ absurd (omega (arith, e, position.exists)) ]

      -- when thread j takes no more parts of the present step, its own part, part j, is claimed
      own_claimed : (j part n : ℕ) → Position j part n → H.own_step w members is_long s j ≡ s.team.step → (n ≡ 0) ⊎ IsClaimed s j
          → (most j ≤ n) ⊎ (s.team.state part ≢ 2 * H.own_step w members is_long s j) → IsClaimed s j
      own_claimed j part n position now first why = elim first [
        | inr h ↦ h
        | inl none ↦ elim why [
          | inl full ↦ absurd (omega (arith, full, none, most_is_some j))
          | inr ne ↦
              let own : part ≡ j = first_part j part (subst (Position j part) none position) in
              let e = ap s.team.state own in
              let exists = position.exists in
              claimed_if_not_free j (omega (arith, own, exists)) (λ same. ne (omega (arith, same, e, now)))
        ]
      ]

      module _ (j part n : ℕ) (can : H.Can w members is_long s (H.Leaves j part n)) where
        left_claimed : Position j part n → n ≤ most j → s.team.is_over ≡ false → (i m : ℕ) → i < w.tasks → IsClaimed s i → members < next i
            → H.own_step w members is_long s j ≡ s.team.step → H.Taking part n ≡ H.Taking (next i) m → IsClaimed s (next i)
        left_claimed position few over i m exists claimed far now e =
            let same : part ≡ next i = cc in
            subst (IsClaimed s) same (elim can.2 [
              | inl full ↦ claimed_after_most over j part n can.0 can.1 position few full (subst (λ (k : ℕ). members < k) (sym same) far)
              | inr ne ↦ claimed_if_not_free part position.exists (λ free. ne (omega (arith, free, now)))
            ])

      module _ (part n : ℕ) (can : H.Can w members is_long s (H.Leaves 0 part n)) where
        abbrev leaves_t : Threads
        leaves_t = H.after w members is_long s (H.Leaves 0 part n)

        taking : CallerTakes s part n
        taking = subst (Caller s) can.1 inv.caller

        leaves_changes : Changes s leaves_t 0
        leaves_changes = record {
          place = λ i ne. elsewhere s.place 0 (H.Counting n) i ne;
          step = refl;
          over = refl;
          entered = λ i ne. refl;
          grows = λ i. omega arith;
          works = λ i part ne e owner. (e, owner);
          owes = λ i is ne taken o. let l : last_wake (s.place 0) i ≡ 0 = rw can.1 refl in omega (arith, o, l);
        }

        leaves_kept : Holds leaves_t
        leaves_kept = quiet_caller leaves_t leaves_changes inv.team (H.Taking part n) can.1 (λ i. refl) (λ i. refl) (λ part n e. cc)
            (left_claimed 0 part n can taking.position taking.few)
            (record { over = taking.going.over; more = taking.going.more; woken = taking.going.woken }, own_claimed 0 part n taking.position refl taking.first can.2)
            (λ over.
            let one : known (s.place 0) ≡ n = rw can.1 refl in
            let told = told_same leaves_t 0 leaves_changes refl in
            omega (arith, one, told, inv.count over))

      module _ (j part n : ℕ) (is : IsMember j) (can : H.Can w members is_long s (H.Leaves j part n)) where
        member_taking : MemberTakes s j part n
        member_taking = subst (Member s j) can.1 (inv.member j is)

        member_leaves_kept : Holds (gone j is (H.Telling n))
        member_leaves_kept = quiet_member (gone j is (H.Telling n)) j is (gone_changes j is (H.Telling n)) inv.team (H.Taking part n) can.1 (λ i. refl) (λ i. refl) (λ i. refl)
            (λ part n e. cc) (λ e. cc) (left_claimed j part n can member_taking.position member_taking.few)
            (rw (there s.place j (H.Telling n), gone_caller j is (H.Telling n)) member_taking.owes)
            (λ e. rw (there s.place j (H.Telling n)) (own_claimed j part n member_taking.position (own_at_member j is ∙ (omega (arith, e)))
            (subst (Own s j) can.1 (inv.owned j is e)) can.2))
            (gone_count j is (H.Telling n) (rw can.1 refl))

        pub told_place : H.after w members is_long s (H.Leaves j part n) ≡ gone j is (H.Telling n)
        told_place = elim (eqb_tells j 0) [
          | inl x ↦ absurd (omega (arith, x.1, is.0))
          | inr x ↦ rw x.0 refl
        ]

      -- if thread j claims `part`, thread j is in the present step (`now`), and the claim keeps `busy` and `chain`
      module _ (j part n : ℕ) (can : H.Can w members is_long s (H.Claims j part n)) (exists : part < w.tasks)
          (is_in : T.IsIn w s.team (H.own_step w members is_long s j)) where
        abbrev claims_t : Threads
        claims_t = H.after w members is_long s (H.Claims j part n)

        abbrev own_now : ℕ
        own_now = H.own_step w members is_long s j

        team_can : T.Can w s.team (T.Claims own_now part)
        team_can = (is_in, record { exists = exists; free = can.3 })

        pub now : own_now ≡ s.team.step
        now = P.present w apart s.team facts own_now part team_can

        state_there : claims_t.team.state part ≡ 2 * s.team.step + 1
        state_there = there s.team.state part (2 * own_now + 1) ∙ (omega (arith, now))

        state_elsewhere : (i : ℕ) → i ≢ part → claims_t.team.state i ≡ s.team.state i
        state_elsewhere i ne = elsewhere s.team.state part (2 * own_now + 1) i ne

        was_free : (i : ℕ) → 2 * s.team.step < s.team.state i → i ≢ part
        was_free i h e = let same = ap s.team.state e in let free = can.3 in omega (arith, h, same, free, now)

        claims_changes : Changes s claims_t j
        claims_changes = record {
          place = λ i ne. elsewhere s.place j (H.Working part n) i ne;
          step = refl;
          over = refl;
          entered = λ i ne. refl;
          grows = λ i. elim (eqb_tells i part) [
            | inl x ↦ let e = ap s.team.state x.1 in let f = ap claims_t.team.state x.1 in let free = can.3 in omega (arith, e, f, state_there, free, now)
            | inr x ↦ omega (arith, state_elsewhere i x.1)
          ];
          works = λ k i ne e owner.
              let other : i ≢ part = was_free i (omega (arith, e)) in
              (state_elsewhere i other ∙ e, elsewhere s.owner part j i other ∙ owner);
          owes = λ i is ne taken o. rw (caller_wakes i) o;
        }
          where
            same_kind : (at : H.Place) → s.place 0 ≡ at → (i : ℕ) → j ≡ 0 → last_wake (H.Working part n) i ≡ last_wake (s.place 0) i
            same_kind at e i zero_j = let is : s.place 0 ≡ H.Taking part n = subst (λ (k : ℕ). s.place k ≡ H.Taking part n) zero_j can.1 in rw is refl

            caller_wakes : (i : ℕ) → last_wake (claims_t.place 0) i ≡ last_wake (s.place 0) i
            caller_wakes i = elim (eqb_tells 0 j) [
              | inl x ↦ ap (λ (at : H.Place). last_wake at i) (hit s.place j (H.Working part n) 0 x.0) ∙ same_kind (s.place 0) refl i (sym x.1)
              | inr x ↦ ap (λ (at : H.Place). last_wake at i) (miss s.place j (H.Working part n) 0 x.0)
            ]

        claims_busy : (i : ℕ) → i < w.tasks → claims_t.team.state i ≡ 2 * s.team.step + 1 → (claims_t.owner i ≤ members) × (m : ℕ) × (claims_t.place (claims_t.owner i) ≡ H.Working i m)
        claims_busy i exists_i e = elim (eqb_tells i part) [
          | inl x ↦ rw (hit s.owner part j i x.0) (can.0, n, there s.place j (H.Working part n) ∙ ap (λ (k : ℕ). H.Working k n) (sym x.1))
          | inr x ↦
              let b = inv.busy i exists_i (sym (state_elsewhere i x.1) ∙ e) in
              let ne : s.owner i ≢ j = λ same. let at = subst (λ (k : ℕ). s.place k ≡ H.Working i b.1) same b.2 in let is = can.1 in cc in
              rw (miss s.owner part j i x.0) (b.0, b.1, elsewhere s.place j (H.Working part n) (s.owner i) ne ∙ b.2)
        ]

        claims_goes_on : (i : ℕ) → i ≢ part → GoesOn s i → IsClaimed claims_t (next i) ⊎ GoesOn claims_t i
        claims_goes_on i ne g = elim (eqb_tells (s.owner i) j) [
          | inl x ↦ elim g.place [
            | inl e ↦ absurd (let at = subst (λ (k : ℕ). s.place k ≡ H.Working i g.taken) x.1 e in let is = can.1 in cc)
            | inr e ↦
                let at = subst (λ (k : ℕ). s.place k ≡ H.Taking (next i) g.taken) x.1 e in let is = can.1 in
                let same : part ≡ next i = cc in
                inl (subst (IsClaimed claims_t) same (omega (arith, state_there)))
          ]
          | inr x ↦ inr (record {
            inside = rw (elsewhere s.owner part j i ne) g.inside;
            now = rw (elsewhere s.owner part j i ne) g.now;
            taken = g.taken;
            place = rw (elsewhere s.owner part j i ne, elsewhere s.place j (H.Working part n) (s.owner i) x.1) g.place;
          })
        ]

        claims_chain : s.team.is_over ≡ false → (i : ℕ) → i < w.tasks → IsClaimed claims_t i → members < next i → IsClaimed claims_t (next i) ⊎ GoesOn claims_t i
        claims_chain over i exists_i claimed far = elim (eqb_tells i part) [
          | inl x ↦ inr (record {
            inside = rw (hit s.owner part j i x.0) can.0;
            now = rw (hit s.owner part j i x.0) now;
            taken = n;
            place = rw (hit s.owner part j i x.0) (inl (there s.place j (H.Working part n) ∙ ap (λ (k : ℕ). H.Working k n) (sym x.1)));
          })
          | inr x ↦ elim (inv.chain over i exists_i (omega (arith, claimed, state_elsewhere i x.1)) far) [
            | inl h ↦ inl (claimed_moved s claims_t j claims_changes (next i) h)
            | inr g ↦ claims_goes_on i x.1 g
          ]
        ]

        claims_done : total w.tasks (λ i. is_done claims_t.team.step (claims_t.team.state i)) ≡ total w.tasks (λ i. is_done s.team.step (s.team.state i))
        claims_done = done_same claims_t j claims_changes (λ i. elim (eqb_tells i part) [
          | inl x ↦
              let e = ap s.team.state x.1 in let f = ap claims_t.team.state x.1 in let free = can.3 in
              done_no s.team.step (claims_t.team.state i) (omega (arith, f, state_there))
              ∙ sym (done_no s.team.step (s.team.state i) (omega (arith, e, free, now)))
          | inr x ↦ ap (is_done s.team.step) (state_elsewhere i x.1)
        ])

        claims_team : T.IsReached w claims_t.team
        claims_team = T.moves s.team claims_t.team (T.Claims own_now part) inv.team team_can refl

      module _ (part n : ℕ) (can : H.Can w members is_long s (H.Claims 0 part n)) where
        caller_taking : CallerTakes s part n
        caller_taking = subst (Caller s) can.1 inv.caller

        caller_in : T.IsIn w s.team (H.own_step w members is_long s 0)
        caller_in = inl (caller_taking.going.over, caller_taking.going.more, refl)

        abbrev caller_exists : part < w.tasks
        caller_exists = caller_taking.position.exists

        abbrev caller_t : Threads
        caller_t = H.after w members is_long s (H.Claims 0 part n)

        abbrev caller_changes : Changes s caller_t 0
        caller_changes = claims_changes 0 part n can caller_exists caller_in

        caller_claims_kept : Holds caller_t
        caller_claims_kept = record {
          team = claims_team 0 part n can caller_exists caller_in;
          fewer = inv.fewer;
          caller = record {
            going = record { over = caller_taking.going.over; more = caller_taking.going.more; woken = caller_taking.going.woken };
            position = caller_taking.position;
            few = can.2;
            owner = there s.owner part 0;
            at_work = state_there 0 part n can caller_exists caller_in;
            first = elim caller_taking.first [
              | inl none ↦
                  let own : part ≡ 0 = first_part 0 part (subst (Position 0 part) none caller_taking.position) in
                  subst (IsClaimed caller_t) own (omega (arith, state_there 0 part n can caller_exists caller_in))
              | inr h ↦ claimed_moved s caller_t 0 caller_changes 0 h
            ];
          };
          member = λ k is_k. let ne : k ≢ 0 = λ e. omega (arith, e, is_k.0) in
              rw (elsewhere s.place 0 (H.Working part n) k ne) (member_moved s caller_t 0 caller_changes k is_k ne (s.place k) (inv.member k is_k));
          owned = λ k is_k e. let ne : k ≢ 0 = λ e. omega (arith, e, is_k.0) in
              rw (elsewhere s.place 0 (H.Working part n) k ne) (own_moved s caller_t 0 caller_changes k (s.place k) (inv.owned k is_k e));
          busy = claims_busy 0 part n can caller_exists caller_in;
          chain = claims_chain 0 part n can caller_exists caller_in;
          count = λ over.
              let one : known (s.place 0) ≡ n = rw can.1 refl in
              let told = told_same caller_t 0 caller_changes refl in
              let done = claims_done 0 part n can caller_exists caller_in in
              omega (arith, one, told, done, inv.count over);
        }

      module _ (j part n : ℕ) (is : IsMember j) (can : H.Can w members is_long s (H.Claims j part n)) where
        abbrev taking_j : MemberTakes s j part n
        taking_j = subst (Member s j) can.1 (inv.member j is)

        member_in : T.IsIn w s.team (H.own_step w members is_long s j)
        member_in = let o = own_at_member j is in let e = taking_j.entered in inr (j, omega (arith, o, e))

        abbrev member_exists : part < w.tasks
        member_exists = taking_j.position.exists

        abbrev member_t : Threads
        member_t = H.after w members is_long s (H.Claims j part n)

        abbrev member_changes : Changes s member_t j
        member_changes = claims_changes j part n can member_exists member_in

        entered_now : s.team.entered j ≡ suc s.team.step
        entered_now = let o = own_at_member j is in let e = taking_j.entered in omega (arith, o, e, now j part n can member_exists member_in)

        pub member_place : member_t.place 0 ≡ s.place 0
        member_place = elsewhere s.place j (H.Working part n) 0 (λ e. omega (arith, e, is.0))

        works_j : MemberWorks member_t j part n
        works_j = record {
          owes = rw member_place taking_j.owes;
          entered = entered_now;
          position = taking_j.position;
          few = can.2;
          owner = there s.owner part j;
          at_work = state_there j part n can member_exists member_in;
        }

        own_j : IsClaimed member_t j
        own_j = elim (subst (Own s j) can.1 (inv.owned j is entered_now)) [
          | inl none ↦
              let own : part ≡ j = first_part j part (subst (Position j part) none taking_j.position) in
              subst (IsClaimed member_t) own (omega (arith, state_there j part n can member_exists member_in))
          | inr h ↦ claimed_moved s member_t j member_changes j h
        ]

        member_claims_kept : Holds member_t
        member_claims_kept = record {
          team = claims_team j part n can member_exists member_in;
          fewer = inv.fewer;
          caller = let ne : 0 ≢ j = λ e. omega (arith, e, is.0) in
              rw member_place (caller_moved s member_t j member_changes ne (λ k. refl)
              (λ all. absurd (let at = all j is in let was = can.1 in cc)) (s.place 0) inv.caller);
          member = λ k is_k. elim (eqb_tells k j) [
            | inl x ↦ subst (λ (i : ℕ). Member member_t i (member_t.place i)) (sym x.1) (rw (there s.place j (H.Working part n)) works_j)
            | inr x ↦ rw (elsewhere s.place j (H.Working part n) k x.1) (member_moved s member_t j member_changes k is_k x.1 (s.place k) (inv.member k is_k))
          ];
          owned = λ k is_k e. elim (eqb_tells k j) [
            | inl x ↦ subst (λ (i : ℕ). Own member_t i (member_t.place i)) (sym x.1) (rw (there s.place j (H.Working part n)) own_j)
            | inr x ↦ rw (elsewhere s.place j (H.Working part n) k x.1) (own_moved s member_t j member_changes k (s.place k) (inv.owned k is_k e))
          ];
          busy = claims_busy j part n can member_exists member_in;
          chain = claims_chain j part n can member_exists member_in;
          count = λ over.
              let told = told_change member_t j member_changes is in
              let new = ap untold (there s.place j (H.Working part n)) in
              let was = ap untold can.1 in
              let k = ap known member_place in
              let done = claims_done j part n can member_exists member_in in
              omega (arith, told, new, was, k, done, inv.count over);
        }

      -- a thread j that works on `part` is in the present step, and was the last thread to claim `part`
      pub record Works (j part n : ℕ) : Type 0 where
        pub now : H.own_step w members is_long s j ≡ s.team.step
        pub position : Position j part n
        pub few : n < most j
        pub owner : s.owner part ≡ j
        pub at_work : s.team.state part ≡ 2 * s.team.step + 1

      pub works : (j part n : ℕ) → j ≤ members → s.place j ≡ H.Working part n → Works j part n
      works j part n inside is = elim (eqb_tells j 0) [
        | inl x ↦ subst (λ (k : ℕ). Works k part n) (sym x.1) (
            let at = subst (λ (k : ℕ). s.place k ≡ H.Working part n) x.1 is in
            let c : CallerWorks s part n = subst (Caller s) at inv.caller in
            record { now = refl; position = c.position; few = c.few; owner = c.owner; at_work = c.at_work })
        | inr x ↦
            let member : IsMember j = (omega (arith, x.1), inside) in
            let m : MemberWorks s j part n = subst (Member s j) is (inv.member j member) in
            record { now = own_at_member j member ∙ (let e = m.entered in omega (arith, e)); position = m.position; few = m.few; owner = m.owner; at_work = m.at_work }
      ]

      module _ (j part n : ℕ) (memory : w.Memory) (can : H.Can w members is_long s (H.Writes j part n memory)) where
        abbrev writes_t : Threads
        writes_t = H.after w members is_long s (H.Writes j part n memory)

        abbrev writer : Works j part n
        writer = works j part n can.inside can.place

        writes_changes : Changes s writes_t (suc members)
        writes_changes = record {
          place = λ k ne. refl;
          step = refl;
          over = refl;
          entered = λ k ne. refl;
          grows = λ i. omega arith;
          works = λ k i ne e owner. (e, owner);
          owes = λ k is ne taken o. o;
        }

        writes_kept : Holds writes_t
        writes_kept = record {
          team = T.moves s.team writes_t.team (T.Writes (H.own_step w members is_long s j) part memory) inv.team (record {
            can = record { exists = writer.position.exists; at_work = (let a = writer.at_work in let o = writer.now in omega (arith, a, o)) };
            keeps = can.keeps;
            others = can.others;
          }) refl;
          fewer = inv.fewer;
          caller = caller_moved s writes_t (suc members) writes_changes (λ e. omega (arith, e)) (λ k. refl) (λ all. all) (s.place 0) inv.caller;
          member = λ k is. member_moved s writes_t (suc members) writes_changes k is (λ e. omega (arith, e, is.1)) (s.place k) (inv.member k is);
          owned = λ k is e. own_moved s writes_t (suc members) writes_changes k (s.place k) (inv.owned k is e);
          busy = inv.busy;
          chain = λ over i exists claimed far. elim (inv.chain over i exists claimed far) [
            | inl h ↦ inl h
            | inr g ↦ inr (record { inside = g.inside; now = g.now; taken = g.taken; place = g.place })
          ];
          count = inv.count;
        }

      module _ (j part n code : ℕ) (can : H.Can w members is_long s (H.Finishes j part n code)) where
        abbrev finishes_t : Threads
        finishes_t = H.after w members is_long s (H.Finishes j part n code)

        abbrev worker : Works j part n
        worker = works j part n can.inside can.place

        abbrev working_step : ℕ
        working_step = H.own_step w members is_long s j

        ends : T.CanEnd w s.team working_step part
        ends = record { exists = worker.position.exists; at_work = (let a = worker.at_work in let o = worker.now in omega (arith, a, o)) }

        finishes_team : T.IsReached w finishes_t.team
        finishes_team = elim (eqb_tells code 0) [
          | inl x ↦ T.moves s.team finishes_t.team (T.Completes working_step part) inv.team (ends, can.fills x.1) (ap (T.ends w s.team working_step part) x.1)
          | inr x ↦ T.moves s.team finishes_t.team (T.Fails working_step part code) inv.team (ends, x.1) refl
        ]

        finished : finishes_t.team.state part ≡ 2 * s.team.step + 2
        finished = there s.team.state part (2 * working_step + 2) ∙ (let o = worker.now in omega (arith, o))

        unfinished : (i : ℕ) → i ≢ part → finishes_t.team.state i ≡ s.team.state i
        unfinished i ne = elsewhere s.team.state part (2 * working_step + 2) i ne

        owned_by_other : (k i : ℕ) → k ≢ j → s.owner i ≡ k → i ≢ part
        owned_by_other k i ne owner e = ne (sym owner ∙ ap s.owner e ∙ worker.owner)

        next_position : Position j (next part) (suc n)
        next_position = let p = worker.position in let few = worker.few in let most_few = most_is_few j in elim (eqb_tells part 0) [
          | inl x ↦
              let e : next part ≡ w.tasks - 1 = rw x.0 refl in
              record {
                exists = omega (arith, e, p.exists);
                at = inr (elim p.at [ inl y ↦ omega (arith, y, e, x.1, p.exists) | inr y ↦ absurd (omega (arith, y, x.1, few, most_few)) ]);
              }
          | inr x ↦
              let e : next part ≡ part - 1 = rw x.0 refl in
              record {
                exists = omega (arith, e, p.exists);
                at = elim p.at [ inl y ↦ inl (omega (arith, y, e, x.1)) | inr y ↦ inr (omega (arith, y, e, x.1)) ];
              }
        ]

        finishes_changes : Changes s finishes_t j
        finishes_changes = record {
          place = λ i ne. elsewhere s.place j (H.Taking (next part) (suc n)) i ne;
          step = refl;
          over = refl;
          entered = λ i ne. refl;
          grows = λ i. elim (eqb_tells i part) [
            | inl x ↦ let e = ap s.team.state x.1 in let f = ap finishes_t.team.state x.1 in let a = worker.at_work in omega (arith, e, f, finished, a)
            | inr x ↦ omega (arith, unfinished i x.1)
          ];
          works = λ k i ne e owner. (unfinished i (owned_by_other k i ne owner) ∙ e, owner);
          owes = λ i is ne taken o. rw (caller_wakes i) o;
        }
          where
            same_kind : (i : ℕ) → j ≡ 0 → last_wake (H.Taking (next part) (suc n)) i ≡ last_wake (s.place 0) i
            same_kind i zero_j = let is : s.place 0 ≡ H.Working part n = subst (λ (k : ℕ). s.place k ≡ H.Working part n) zero_j can.place in rw is refl

            caller_wakes : (i : ℕ) → last_wake (finishes_t.place 0) i ≡ last_wake (s.place 0) i
            caller_wakes i = elim (eqb_tells 0 j) [
              | inl x ↦ ap (λ (at : H.Place). last_wake at i) (hit s.place j (H.Taking (next part) (suc n)) 0 x.0) ∙ same_kind i (sym x.1)
              | inr x ↦ ap (λ (at : H.Place). last_wake at i) (miss s.place j (H.Taking (next part) (suc n)) 0 x.0)
            ]

        finishes_busy : (i : ℕ) → i < w.tasks → finishes_t.team.state i ≡ 2 * s.team.step + 1 → (s.owner i ≤ members) × (m : ℕ) × (finishes_t.place (s.owner i) ≡ H.Working i m)
        finishes_busy i exists e = elim (eqb_tells i part) [
          | inl x ↦ absurd (let f = ap finishes_t.team.state x.1 in omega (arith, e, f, finished))
          | inr x ↦
              let b = inv.busy i exists (sym (unfinished i x.1) ∙ e) in
              let ne : s.owner i ≢ j = λ same. let at = subst (λ (k : ℕ). s.place k ≡ H.Working i b.1) same b.2 in let is = can.place in
              let equal : i ≡ part = cc in x.1 equal in
              (b.0, b.1, elsewhere s.place j (H.Taking (next part) (suc n)) (s.owner i) ne ∙ b.2)
        ]

        finishes_goes_on : (i : ℕ) → i ≢ part → GoesOn s i → GoesOn finishes_t i
        finishes_goes_on i ne g =
            let other : s.owner i ≢ j = λ same. elim g.place [
              | inl e ↦ let at = subst (λ (k : ℕ). s.place k ≡ H.Working i g.taken) same e in let is = can.place in let equal : i ≡ part = cc in ne equal
              | inr e ↦ let at = subst (λ (k : ℕ). s.place k ≡ H.Taking (next i) g.taken) same e in let is = can.place in absurd (cc)
            ] in
            record { inside = g.inside; now = g.now; taken = g.taken; place = rw (elsewhere s.place j (H.Taking (next part) (suc n)) (s.owner i) other) g.place }

        finishes_chain : s.team.is_over ≡ false → (i : ℕ) → i < w.tasks → IsClaimed finishes_t i → members < next i → IsClaimed finishes_t (next i) ⊎ GoesOn finishes_t i
        finishes_chain over i exists claimed far = elim (eqb_tells i part) [
          | inl x ↦
              let owner : s.owner i ≡ j = ap s.owner x.1 ∙ worker.owner in
              inr (record {
                inside = rw owner can.inside;
                now = rw owner worker.now;
                taken = suc n;
                place = rw owner (inr (there s.place j (H.Taking (next part) (suc n)) ∙ ap (λ (k : ℕ). H.Taking (next k) (suc n)) (sym x.1)));
              })
          | inr x ↦ elim (inv.chain over i exists (omega (arith, claimed, unfinished i x.1)) far) [
            | inl h ↦ inl (claimed_moved s finishes_t j finishes_changes (next i) h)
            | inr g ↦ inr (finishes_goes_on i x.1 g)
          ]
        ]

        finishes_done : total w.tasks (λ i. is_done finishes_t.team.step (finishes_t.team.state i)) ≡ suc (total w.tasks (λ i. is_done s.team.step (s.team.state i)))
        finishes_done =
            let change = total_change w.tasks part (λ i. is_done s.team.step (s.team.state i)) (λ i. is_done s.team.step (finishes_t.team.state i)) worker.position.exists
            (λ k inside ne. ap (is_done s.team.step) (unfinished k ne)) in
            let a = worker.at_work in
            let no = done_no s.team.step (s.team.state part) (omega (arith, a)) in
            let yes = done_yes s.team.step (finishes_t.team.state part) (omega (arith, finished)) in
            omega (arith, change, no, yes)

      module _ (part n code : ℕ) (can : H.Can w members is_long s (H.Finishes 0 part n code)) where
        abbrev caller_ft : Threads
        caller_ft = H.after w members is_long s (H.Finishes 0 part n code)

        abbrev caller_works : CallerWorks s part n
        caller_works = subst (Caller s) can.place inv.caller

        abbrev caller_fchanges : Changes s caller_ft 0
        caller_fchanges = finishes_changes 0 part n code can

        caller_finishes_kept : Holds caller_ft
        caller_finishes_kept = record {
          team = finishes_team 0 part n code can;
          fewer = inv.fewer;
          caller = record {
            going = record { over = caller_works.going.over; more = caller_works.going.more; woken = caller_works.going.woken };
            position = next_position 0 part n code can;
            few = let f = caller_works.few in omega (arith, f);
            first = inr (claimed_moved s caller_ft 0 caller_fchanges 0 caller_works.first);
          };
          member = λ k is_k. let ne : k ≢ 0 = λ e. omega (arith, e, is_k.0) in
              rw (elsewhere s.place 0 (H.Taking (next part) (suc n)) k ne) (member_moved s caller_ft 0 caller_fchanges k is_k ne (s.place k) (inv.member k is_k));
          owned = λ k is_k e. let ne : k ≢ 0 = λ e. omega (arith, e, is_k.0) in
              rw (elsewhere s.place 0 (H.Taking (next part) (suc n)) k ne) (own_moved s caller_ft 0 caller_fchanges k (s.place k) (inv.owned k is_k e));
          busy = finishes_busy 0 part n code can;
          chain = finishes_chain 0 part n code can;
          count = λ over.
              let one : known (s.place 0) ≡ n = rw can.place refl in
              let told = told_same caller_ft 0 caller_fchanges refl in
              let done = finishes_done 0 part n code can in
              omega (arith, one, told, done, inv.count over);
        }

      module _ (j part n code : ℕ) (is : IsMember j) (can : H.Can w members is_long s (H.Finishes j part n code)) where
        abbrev member_ft : Threads
        member_ft = H.after w members is_long s (H.Finishes j part n code)

        abbrev member_works : MemberWorks s j part n
        member_works = subst (Member s j) can.place (inv.member j is)

        abbrev member_fchanges : Changes s member_ft j
        member_fchanges = finishes_changes j part n code can

        member_fplace : member_ft.place 0 ≡ s.place 0
        member_fplace = elsewhere s.place j (H.Taking (next part) (suc n)) 0 (λ e. omega (arith, e, is.0))

        takes_next : MemberTakes member_ft j (next part) (suc n)
        takes_next = record {
          owes = rw member_fplace member_works.owes;
          entered = let e = member_works.entered in omega (arith, e);
          position = next_position j part n code can;
          few = let f = member_works.few in omega (arith, f);
        }

        own_still : IsClaimed member_ft j
        own_still = claimed_moved s member_ft j member_fchanges j (subst (Own s j) can.place (inv.owned j is member_works.entered))

        member_finishes_kept : Holds member_ft
        member_finishes_kept = record {
          team = finishes_team j part n code can;
          fewer = inv.fewer;
          caller = let ne : 0 ≢ j = λ e. omega (arith, e, is.0) in
              rw member_fplace (caller_moved s member_ft j member_fchanges ne (λ k. refl)
              (λ all. absurd (let at = all j is in let was = can.place in cc)) (s.place 0) inv.caller);
          member = λ k is_k. elim (eqb_tells k j) [
            | inl x ↦ subst (λ (i : ℕ). Member member_ft i (member_ft.place i)) (sym x.1) (rw (there s.place j (H.Taking (next part) (suc n))) takes_next)
            | inr x ↦ rw (elsewhere s.place j (H.Taking (next part) (suc n)) k x.1) (member_moved s member_ft j member_fchanges k is_k x.1 (s.place k) (inv.member k is_k))
          ];
          owned = λ k is_k e. elim (eqb_tells k j) [
            | inl x ↦ subst (λ (i : ℕ). Own member_ft i (member_ft.place i)) (sym x.1) (rw (there s.place j (H.Taking (next part) (suc n))) (inr own_still))
            | inr x ↦ rw (elsewhere s.place j (H.Taking (next part) (suc n)) k x.1) (own_moved s member_ft j member_fchanges k (s.place k) (inv.owned k is_k e))
          ];
          busy = finishes_busy j part n code can;
          chain = finishes_chain j part n code can;
          count = λ over.
              let told = told_change member_ft j member_fchanges is in
              let new = ap untold (there s.place j (H.Taking (next part) (suc n))) in
              let was = ap untold can.place in
              let k = ap known member_fplace in
              let done = finishes_done j part n code can in
              omega (arith, told, new, was, k, done, inv.count over);
        }

      -- ---- the end of a step

      module _ (at : s.place 0 ≡ H.Counting w.tasks) where
        counted_all : Going s × IsClaimed s 0
        counted_all = subst (Caller s) at inv.caller

        pub through : (i : ℕ) → i < w.tasks → s.team.state i ≡ 2 * s.team.step + 2
        through i exists =
            let k : known (s.place 0) ≡ w.tasks = rw at refl in
            let done = all_done counted_all.0.over (omega (arith, k)) i exists in omega (arith, done, facts.states.most i exists)

        none_left : (s.wakes 0 ≡ 0) × (total members (λ k. untold (s.place (suc k))) ≡ 0)
        none_left =
            let k : known (s.place 0) ≡ w.tasks = rw at refl in
            let c = inv.count counted_all.0.over in
            let most = total_most w.tasks (λ i. is_done s.team.step (s.team.state i)) (λ i. done_most s.team.step (s.team.state i)) in
            (omega (arith, k, c, most), omega (arith, k, c, most))

      module _ (can : H.Can w members is_long s H.Advances) where
        abbrev advances_t : Threads
        advances_t = H.after w members is_long s H.Advances

        going_on : Going s
        going_on = (counted_all can.0).0

        abbrev pub new_place : H.Place
        new_place = cond (ltb (suc s.team.step) w.steps) (H.Waking 1) H.Left

        pub place_cases : ((suc s.team.step < w.steps) × (new_place ≡ H.Waking 1)) ⊎ ((w.steps ≤ suc s.team.step) × (new_place ≡ H.Left))
        place_cases = elim (leb_tells (suc (suc s.team.step)) w.steps) [
          | inl x ↦ inl (omega (arith, x.1), rw x.0 refl)
          | inr x ↦ inr (omega (arith, x.1), rw x.0 refl)
        ]

        nothing_known : (known new_place ≡ 0) × ((i : ℕ) → last_wake new_place i ≡ 0)
        nothing_known = elim place_cases [
          | inl x ↦ (rw x.1 refl, λ i. rw x.1 refl)
          | inr x ↦ (rw x.1 refl, λ i. rw x.1 refl)
        ]

        elsewhere_now : (k : ℕ) → IsMember k → advances_t.place k ≡ s.place k
        elsewhere_now k is = elsewhere s.place 0 new_place k (λ e. omega (arith, e, is.0))

        owes_still : (k : ℕ) (taken : ℕ) → Owes s k taken → Owes advances_t k taken
        owes_still k taken o = let l : last_wake (s.place 0) k ≡ 0 = rw can.0 refl in omega (arith, o, l, nothing_known.1 k)

        member_advanced : (k : ℕ) (at : H.Place) → Member s k at → Member advances_t k at
        member_advanced k (H.Taking part n) m = record { owes = owes_still k (s.team.entered k) m.owes; entered = m.entered; position = m.position; few = m.few }
        member_advanced k (H.Working part n) m = absurd (omega (arith, m.at_work, through can.0 part m.position.exists))
        member_advanced k (H.Telling n) m = owes_still k (s.team.entered k) m
        member_advanced k H.Waiting m = owes_still k (s.team.entered k) m
        member_advanced k H.Woken m = owes_still k (suc (s.team.entered k)) m
        member_advanced k other m = m

        caller_advanced : Caller advances_t new_place
        caller_advanced = elim place_cases [
          | inl x ↦ rw x.1 (record {
            over = going_on.over;
            more = x.0;
            first = omega arith;
            last = omega arith;
            woken = λ j is. elim (below j 1 (suc (suc s.team.step)) (suc s.team.step)) [
              | inl y ↦ absurd (omega (arith, y.0, is.0))
              | inr y ↦ going_on.woken j is ∙ sym y.1
            ];
          })
          | inr x ↦ rw x.1 (going_on.over, let more = going_on.more in omega (arith, x.0, more))
        ]

        team_can_advance : T.CanAdvance w s.team
        team_can_advance = record { goes_on = going_on.over; more = going_on.more; through = through can.0; ok = λ i exists. omega (arith, can.1 i exists) }

        advances_kept : Holds advances_t
        advances_kept = record {
          team = T.moves s.team advances_t.team T.Advances inv.team team_can_advance refl;
          fewer = inv.fewer;
          caller = caller_advanced;
          member = λ k is. rw (elsewhere_now k is) (member_advanced k (s.place k) (inv.member k is));
          owned = λ k is e. absurd (omega (arith, e, facts.counts.behind k, facts.counts.most k));
          busy = λ i exists e. absurd (omega (arith, e, through can.0 i exists));
          chain = λ over i exists claimed. absurd (omega (arith, claimed, through can.0 i exists));
          count = λ over.
              let told = total_same members (λ k. untold (s.place (suc k))) (λ k. untold (advances_t.place (suc k)))
              (λ k inside. ap untold (elsewhere s.place 0 new_place (suc k) (λ e. omega (arith, e)))) in
              let done = total_none w.tasks (λ i. is_done (suc s.team.step) (s.team.state i))
              (λ i exists. done_no (suc s.team.step) (s.team.state i) (omega (arith, through can.0 i exists))) in
              omega (arith, told, done, nothing_known.0, (none_left can.0).0, (none_left can.0).1);
        }

      module _ (can : H.Can w members is_long s H.Stops) where
        abbrev stops_t : Threads
        stops_t = H.after w members is_long s H.Stops

        not_over_yet : s.team.is_over ≡ false
        not_over_yet = elim can [
          | inl at ↦ (counted_all at).0.over
          | inr at ↦ let c : Caller s H.Left = subst (Caller s) at inv.caller in c.0
        ]

        why : (s.team.step ≡ w.steps) ⊎ T.AreThrough w s.team
        why = elim can [
          | inl at ↦ inr (through at)
          | inr at ↦ let c : Caller s H.Left = subst (Caller s) at inv.caller in inl c.1
        ]

        no_last_wake : (i : ℕ) → last_wake (s.place 0) i ≡ 0
        no_last_wake i = elim can [ inl at ↦ rw at refl | inr at ↦ rw at refl ]

        owes_then : (k : ℕ) → IsMember k → (taken : ℕ) → Owes s k taken → Owes stops_t k taken
        owes_then k is taken o = elim (below k 1 1 0) [
          | inl y ↦ absurd (omega (arith, y.0, is.0))
          | inr y ↦ omega (arith, o, no_last_wake k, y.1)
        ]

        member_stopped : (k : ℕ) → IsMember k → (at : H.Place) → Member s k at → Member stops_t k at
        member_stopped k is (H.Taking part n) m = record { owes = owes_then k is (s.team.entered k) m.owes; entered = m.entered; position = m.position; few = m.few }
        member_stopped k is (H.Working part n) m = record {
          owes = owes_then k is (s.team.entered k) m.owes;
          entered = m.entered;
          position = m.position;
          few = m.few;
          owner = m.owner;
          at_work = m.at_work;
        }
        member_stopped k is (H.Telling n) m = owes_then k is (s.team.entered k) m
        member_stopped k is H.Waiting m = owes_then k is (s.team.entered k) m
        member_stopped k is H.Woken m = owes_then k is (suc (s.team.entered k)) m
        member_stopped k is H.Ended m = refl
        member_stopped k is other m = m

        own_stopped : (k : ℕ) (at : H.Place) → Own s k at → Own stops_t k at
        own_stopped k other o = o

        place_then : (k : ℕ) → IsMember k → stops_t.place k ≡ s.place k
        place_then k is = elsewhere s.place 0 (H.Ending 1) k (λ e. omega (arith, e, is.0))

        nobody_works : (i : ℕ) → i < w.tasks → s.team.state i ≢ 2 * s.team.step + 1
        nobody_works i exists e = elim why [
          | inl end ↦ omega (arith, e, facts.states.end end i exists)
          | inr all ↦ omega (arith, e, all i exists)
        ]

        stops_kept : Holds stops_t
        stops_kept = record {
          team = T.moves s.team stops_t.team T.Stops inv.team (record { goes_on = not_over_yet; why = why }) refl;
          fewer = inv.fewer;
          caller = (refl, omega arith, omega arith);
          member = λ k is. rw (place_then k is) (member_stopped k is (s.place k) (inv.member k is));
          owned = λ k is e. rw (place_then k is) (own_stopped k (s.place k) (inv.owned k is e));
          busy = λ i exists e. absurd (nobody_works i exists e);
          chain = λ over. absurd (cc);
          count = λ over. absurd (cc);
        }

      pub member_or_caller : (j : ℕ) → j ≤ members → (j ≡ 0) ⊎ IsMember j
      member_or_caller j inside = elim (eqb_tells j 0) [ inl x ↦ inl x.1 | inr x ↦ inr (omega (arith, x.1), inside) ]

      kept : (m : H.Move w members is_long) → H.Can w members is_long s m → Holds (H.after w members is_long s m)
      kept (H.Wakes k) can = wakes_kept k can
      kept H.Begins can = begins_kept can
      kept (H.Claims j part n) can = elim (member_or_caller j can.0) [
        | inl e ↦ subst (λ (k : ℕ). H.Can w members is_long s (H.Claims k part n) → Holds (H.after w members is_long s (H.Claims k part n))) (sym e)
            (caller_claims_kept part n) can
        | inr is ↦ member_claims_kept j part n is can
      ]
      kept (H.Leaves j part n) can = elim (member_or_caller j can.0) [
        | inl e ↦ subst (λ (k : ℕ). H.Can w members is_long s (H.Leaves k part n) → Holds (H.after w members is_long s (H.Leaves k part n))) (sym e)
            (leaves_kept part n) can
        | inr is ↦ subst Holds (sym (told_place j part n is can)) (member_leaves_kept j part n is can)
      ]
      kept (H.Writes j part n memory) can = writes_kept j part n memory can
      kept (H.Finishes j part n code) can = elim (member_or_caller j can.inside) [
        | inl e ↦ subst (λ (k : ℕ). H.Can w members is_long s (H.Finishes k part n code) → Holds (H.after w members is_long s (H.Finishes k part n code))) (sym e)
            (caller_finishes_kept part n code) can
        | inr is ↦ member_finishes_kept j part n code is can
      ]
      kept (H.Tells j n) can = tells_kept j n can
      kept (H.Waits j) can = waits_kept j can
      kept (H.Awakes j) can = awakes_kept j can
      kept (H.Enters j) can = enters_kept j can
      kept (H.Exits j) can = exits_kept j can
      kept (H.Counts n) can = counts_kept n can
      kept H.Advances can = advances_kept can
      kept H.Stops can = stops_kept can
      kept (H.Dismisses k) can = dismisses_kept k can
      kept H.Returns can = returns_kept can

      -- ---- some thread can go on

      -- thread j cannot go on: it waits and has no pending wake, or it has ended
      abbrev Stuck : ℕ → Type 0
      Stuck j = ((s.place j ≡ H.Waiting) × (s.wakes j ≡ 0)) ⊎ (s.place j ≡ H.Ended)

      -- a move that changes nothing of the team
      still : (m : H.Move w members is_long) → H.Can w members is_long s m → (H.after w members is_long s m).team ≡ s.team
          → (H.IsWrite w members is_long m → ⊥) → Next s
      still m can same no_write = Quiet m s.team.woken s.team.entered can same no_write

      takes : (j part n : ℕ) → j ≤ members → s.place j ≡ H.Taking part n → Next s
      takes j part n inside is = elim (eqb_tells (s.team.state part) (2 * H.own_step w members is_long s j)) [
        | inr x ↦ still (H.Leaves j part n) (inside, is, inr x.1) refl (λ e. e)
        | inl x ↦ elim (leb_tells (suc n) (most j)) [
          | inl y ↦ Claim j part n (inside, is, omega (arith, y.1), x.1)
          | inr y ↦ still (H.Leaves j part n) (inside, is, inl (omega (arith, y.1))) refl (λ e. e)
        ]
      ]

      tells : (j n : ℕ) → IsMember j → s.place j ≡ H.Telling n → Next s
      tells j zero member is = still (H.Waits j) (member, is) refl (λ e. e)
      tells j (suc n) member is = still (H.Tells j n) (member, is) refl (λ e. e)

      looks : (j : ℕ) (over : Bool) → s.team.is_over ≡ over → IsMember j → s.place j ≡ H.Woken → Next s
      looks j true over member is = still (H.Exits j) (member, is, over) refl (λ e. e)
      looks j false over member is = Quiet (H.Enters j) s.team.woken (T.updated s.team.entered j (suc (s.team.entered j))) (member, is, over) refl (λ e. e)

      member_goes : (j : ℕ) → IsMember j → (at : H.Place) → s.place j ≡ at → Member s j at → Next s ⊎ Stuck j
      member_goes j member (H.Taking part n) is m = inl (takes j part n member.1 is)
      member_goes j member (H.Working part n) is m = inl (Work j part n member.1 is)
      member_goes j member (H.Telling n) is m = inl (tells j n member is)
      member_goes j member H.Waiting is m = elim (eqb_tells (s.wakes j) 0) [
        | inl x ↦ inr (inl (is, x.1))
        | inr x ↦ inl (still (H.Awakes j) (member, is, omega (arith, x.1)) refl (λ e. e))
      ]
      member_goes j member H.Woken is m = inl (looks j s.team.is_over refl member is)
      member_goes j member H.Ended is m = inr (inr is)
      member_goes j member other is m = absurd m

      -- if the caller's thread waits for parts and all other threads are stuck, all parts are done (`all_through`);
      -- if no wake is pending for the caller's thread either, d is w.tasks (`all_counted`)
      module _ (d : ℕ) (at : s.place 0 ≡ H.Counting d) (stuck : (j : ℕ) → IsMember j → Stuck j) where
        going_then : Going s × IsClaimed s 0
        going_then = subst (Caller s) at inv.caller

        waits : (j : ℕ) → IsMember j → (s.place j ≡ H.Waiting) × (s.wakes j ≡ 0)
        waits j is = elim (stuck j is) [
          | inl x ↦ x
          | inr x ↦ absurd (let m : s.team.is_over ≡ true = subst (Member s j) x (inv.member j is) in let no = going_then.0.over in cc)
        ]

        nobody_at : (j part n : ℕ) → j ≤ members → (s.place j ≡ H.Working part n) ⊎ ((k : ℕ) × (s.place j ≡ H.Taking k n)) → ⊥
        nobody_at j part n inside is = elim (member_or_caller j inside) [
          | inl e ↦
              let here : s.place j ≡ H.Counting d = subst (λ (k : ℕ). s.place k ≡ H.Counting d) (sym e) at in
              elim is [ inl x ↦ cc | inr x ↦ let e = x.1 in cc ]
          | inr member ↦
              let here = (waits j member).0 in
              elim is [ inl x ↦ cc | inr x ↦ let e = x.1 in cc ]
        ]

        member_claimed : (j : ℕ) → IsMember j → IsClaimed s j
        member_claimed j is =
            let o : Owes s j (s.team.entered j) = subst (Member s j) (waits j is).0 (inv.member j is) in
            let l : last_wake (s.place 0) j ≡ 0 = rw at refl in
            subst (Own s j) (waits j is).0 (inv.owned j is (omega (arith, o, l, (waits j is).1, going_then.0.woken j is)))

        next_claimed : (i : ℕ) → i < w.tasks → IsClaimed s i → members < next i → IsClaimed s (next i)
        next_claimed i exists claimed far = elim (inv.chain going_then.0.over i exists claimed far) [
          | inl h ↦ h
          | inr g ↦ absurd (elim g.place [
            | inl e ↦ nobody_at (s.owner i) i g.taken g.inside (inl e)
            | inr e ↦ nobody_at (s.owner i) i g.taken g.inside (inr (next i, e))
          ])
        ]

        next_of_first : next 0 ≡ w.tasks - 1
        next_of_first = refl

        next_of : (i : ℕ) → 0 < i → next i ≡ i - 1
        next_of i h = elim (eqb_tells i 0) [ inl x ↦ absurd (omega (arith, x.1, h)) | inr x ↦ rw x.0 refl ]

        last_claimed : (k : ℕ) → members + 1 + k < w.tasks → IsClaimed s (w.tasks - 1 - k)
        last_claimed zero h =
            let e : next 0 ≡ w.tasks - 1 - 0 = omega (arith, next_of_first) in
            subst (IsClaimed s) e (next_claimed 0 (omega (arith, h)) going_then.1 (omega (arith, e, h)))
        last_claimed (suc k) h =
            let before = last_claimed k (omega (arith, h)) in
            let e : next (w.tasks - 1 - k) ≡ w.tasks - 1 - suc k = omega (arith, next_of (w.tasks - 1 - k) (omega (arith, h)), h) in
            subst (IsClaimed s) e (next_claimed (w.tasks - 1 - k) (omega (arith, h)) before (omega (arith, e, h)))

        all_claimed : (i : ℕ) → i < w.tasks → IsClaimed s i
        all_claimed i exists = elim (eqb_tells i 0) [
          | inl x ↦ subst (IsClaimed s) (sym x.1) going_then.1
          | inr x ↦ elim (leb_tells i members) [
            | inl y ↦ member_claimed i (omega (arith, x.1), y.1)
            | inr y ↦
                let e : w.tasks - 1 - (w.tasks - 1 - i) ≡ i = omega (arith, exists) in
                subst (IsClaimed s) e (last_claimed (w.tasks - 1 - i) (omega (arith, y.1, exists)))
          ]
        ]

        all_through : (i : ℕ) → i < w.tasks → is_done s.team.step (s.team.state i) ≡ 1
        all_through i exists =
            let idle : s.team.state i ≢ 2 * s.team.step + 1 = λ e. let b = inv.busy i exists e in nobody_at (s.owner i) i b.1 b.0 (inl b.2) in
            done_yes s.team.step (s.team.state i) (omega (arith, idle, all_claimed i exists))

        none_untold : total members (λ k. untold (s.place (suc k))) ≡ 0
        none_untold = total_none members (λ k. untold (s.place (suc k))) (λ k inside. rw ((waits (suc k) (omega (arith), omega (arith, inside))).0) refl)

        all_counted : s.wakes 0 ≡ 0 → d ≡ w.tasks
        all_counted none =
            let k : known (s.place 0) ≡ d = rw at refl in
            let all = total_all w.tasks (λ i. is_done s.team.step (s.team.state i)) all_through in
            omega (arith, k, all, none, none_untold, inv.count going_then.0.over)

      search_members : (P : ℕ → Type 0) → ((j : ℕ) → IsMember j → Next s ⊎ P j) → Next s ⊎ ((j : ℕ) → IsMember j → P j)
      search_members P each = elim (search_below members (λ i. P (suc i)) (λ i. Next s) (λ i inside. elim (each (suc i) (omega (arith), omega (arith, inside))) [
        | inl x ↦ inr x
        | inr x ↦ inl x
      ])) [
        | inr x ↦ inl x.2
        | inl all ↦ inr (λ j is.
            let e : suc (j - 1) ≡ j = omega (arith, is.0) in
            subst P e (all (j - 1) (omega (arith, is.0, is.1))))
      ]

      counts_or_other : (d : ℕ) → s.place 0 ≡ H.Counting d → Next s
      counts_or_other d at = elim (leb_tells (suc d) w.tasks) [
        | inr x ↦
            let k : known (s.place 0) ≡ d = rw at refl in
            let going : Going s × IsClaimed s 0 = subst (Caller s) at inv.caller in
            let most = total_most w.tasks (λ i. is_done s.team.step (s.team.state i)) (λ i. done_most s.team.step (s.team.state i)) in
            let full : d ≡ w.tasks = omega (arith, x.1, k, most, inv.count going.0.over) in
            Through (at ∙ ap H.Counting full)
        | inl x ↦ elim (eqb_tells (s.wakes 0) 0) [
          | inr y ↦ still (H.Counts d) (at, omega (arith, x.1), omega (arith, y.1)) refl (λ e. e)
          | inl y ↦ elim (search_members Stuck (λ j is. member_goes j is (s.place j) refl (inv.member j is))) [
            | inl some ↦ some
            | inr stuck ↦ absurd (let full = all_counted d at stuck y.1 in omega (arith, full, x.1))
          ]
        ]
      ]

      ends_or_other : (k : ℕ) → s.place 0 ≡ H.Ending k → Next s
      ends_or_other k at = elim (leb_tells k members) [
        | inl x ↦ still (H.Dismisses k) (at, x.1) refl (λ e. e)
        | inr x ↦
            let c : (s.team.is_over ≡ true) × (0 < k) × (k ≤ suc members) = subst (Caller s) at inv.caller in
            let e : k ≡ suc members = omega (arith, x.1, c.2) in
            elim (search_members (λ j. s.place j ≡ H.Ended) (λ j is. elim (member_goes j is (s.place j) refl (inv.member j is)) [
              | inl some ↦ inl some
              | inr stuck ↦ elim stuck [
                | inr ended ↦ inr ended
                | inl waits ↦ absurd (
                    let o : Owes s j (s.team.entered j) = subst (Member s j) waits.0 (inv.member j is) in
                    let l : last_wake (s.place 0) j ≡ cond (ltb j k) 1 0 = rw at refl in
                    elim (below j k 1 0) [
                      | inl y ↦ omega (arith, o, l, y.1, waits.1, facts.counts.behind j)
                      | inr y ↦ omega (arith, y.0, e, is.1)
                    ])
              ]
            ])) [
              | inl some ↦ some
              | inr all ↦ still H.Returns (at ∙ ap H.Ending e, all) refl (λ e. e)
            ]
      ]

      wakes_or_begins : (k : ℕ) → s.place 0 ≡ H.Waking k → Next s
      wakes_or_begins k at = elim (leb_tells k members) [
        | inl x ↦ Quiet (H.Wakes k) (T.updated s.team.woken k (suc (s.team.woken k))) s.team.entered (at, x.1) refl (λ e. e)
        | inr x ↦
            let c : CallerWakes s k = subst (Caller s) at inv.caller in
            let e : k ≡ suc members = (let last = c.last in omega (arith, x.1, last)) in still H.Begins (at ∙ ap H.Waking e) refl (λ e. e)
      ]

      pub caller_goes : (at : H.Place) → s.place 0 ≡ at → Caller s at → Next s ⊎ (at ≡ H.Ended)
      caller_goes (H.Waking k) is c = inl (wakes_or_begins k is)
      caller_goes (H.Taking part n) is c = inl (takes 0 part n (omega arith) is)
      caller_goes (H.Working part n) is c = inl (Work 0 part n (omega arith) is)
      caller_goes (H.Counting d) is c = inl (counts_or_other d is)
      caller_goes H.Left is c = inl (AllTaken is)
      caller_goes (H.Ending k) is c = inl (ends_or_other k is)
      caller_goes H.Ended is c = inr refl
      caller_goes other is c = absurd c

      pub move_of : Next s → (m : H.Move w members is_long) × H.Can w members is_long s m
      move_of (Quiet m woken entered can same no_write) = (m, can)
      move_of (Claim j part n can) = (H.Claims j part n, can)
      move_of (Work j part n inside is) = (H.Finishes j part n 1, record { inside = inside; place = is; fills = λ e. absurd (omega (arith, e)) })
      move_of (Through at) = (H.Stops, inl at)
      move_of (AllTaken at) = (H.Stops, inr at)

    pub all_hold : (s : Threads) → H.IsReached w members is_long s → Holds s
    all_hold s (H.starts u b) = holds_at_start u b
    all_hold t (H.moves s u m r can e) = subst Holds (sym e) (kept s (all_hold s r) m can)

pub threads_are_a_team : (w : T.Work) (members : ℕ) (is_long : Bool) → T.IsApart w → H.ThreadsAreATeam w members is_long
threads_are_a_team w members is_long apart s r = (all_hold w members is_long apart s r).team

pub some_thread_can_go_on : (w : T.Work) (members : ℕ) (is_long : Bool) → T.IsApart w → H.SomeThreadCanGoOn w members is_long
some_thread_can_go_on w members is_long apart s r ne =
    let inv = all_hold w members is_long apart s r in
    elim (caller_goes w members is_long apart s inv (s.place 0) refl inv.caller) [
      | inl next ↦ move_of w members is_long apart s inv next
      | inr e ↦ absurd (ne e)
    ]

pub all_threads_end : (w : T.Work) (members : ℕ) (is_long : Bool) → T.IsApart w → H.AllThreadsEnd w members is_long
all_threads_end w members is_long apart s r ended =
    let inv = all_hold w members is_long apart s r in
    let c : Caller w members is_long s H.Ended = subst (Caller w members is_long s) ended inv.caller in c.1
