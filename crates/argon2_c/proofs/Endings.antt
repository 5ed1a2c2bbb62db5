-- Each move of a thread except Writes makes the number `left` smaller; Writes leaves `left` unchanged.
use Rattle.std.proofs.Common.{◌≡◌, ◌≢◌, ◌⊎◌, ℕ, suc, ◌+◌, ◌-◌, ◌*◌, ◌<◌, ◌≤◌, Bool, true, eqb, refl, sym, subst, ap, inl, inr, arith}
use Rattle.std.proofs.lemmas.Bool.Decides.{eqb_tells}
use Rattle.argon2_c.specs.Team as T
use Rattle.argon2_c.specs.Threads as H
use Rattle.argon2_c.proofs.Team.{hit, miss}
use Rattle.argon2_c.proofs.Team as P
use Rattle.argon2_c.proofs.Sums.{total, total_same, total_change, there, elsewhere}
use Rattle.argon2_c.proofs.Threads as B

-- how many moves at most a thread still makes until its next wait, without those that `parts_left` counts; a Tells
-- counts as 2, since the caller's thread then makes one move more (Counts)
abbrev member_left : H.Place → ℕ
member_left (H.Taking part n) = 2 * n + 2
member_left (H.Working part n) = 2 * n + 2
member_left (H.Telling n) = 2 * n + 1
member_left H.Woken = 3
member_left other = 0

module _ (w : T.Work) (members : ℕ) (is_long : Bool) where
  abbrev Threads : Type 0
  Threads = H.Threads w members is_long

  abbrev IsMember : ℕ → Type 0
  IsMember j = H.IsMember w members is_long j

  -- how many moves the caller's thread still makes until it returns, if no step follows, without Counts and those that
  -- `parts_left` counts; a Dismisses counts as 5, since the woken thread then makes 4 moves at most
  abbrev caller_left : H.Place → ℕ
  caller_left (H.Waking k) = 5 * members + 5 + (members + 1 - k)
  caller_left (H.Taking part n) = 5 * members + 4
  caller_left (H.Working part n) = 5 * members + 4
  caller_left (H.Counting n) = 5 * members + 3
  caller_left H.Left = 5 * members + 2
  caller_left (H.Ending k) = 5 * (members + 1 - k) + 1
  caller_left other = 0

  abbrev thread_left : Threads → ℕ → ℕ
  thread_left s j = 4 * (w.steps - s.team.woken j) + 4 * s.wakes j + member_left (s.place j)

  abbrev members_left : Threads → ℕ
  members_left s = total members (λ k. thread_left s (suc k))

  abbrev parts_left : Threads → ℕ
  parts_left s = total w.tasks (λ i. 3 * (2 * w.steps - s.team.state i))

  abbrev left : Threads → ℕ
  left s = (members + 4) * (w.steps - s.team.step) + members_left s + parts_left s + s.wakes 0 + caller_left (s.place 0)

  module _ (s t : Threads) where
    members_same : ((k : ℕ) → IsMember k → thread_left t k ≡ thread_left s k) → members_left t ≡ members_left s
    members_same same = total_same members (λ k. thread_left s (suc k)) (λ k. thread_left t (suc k)) (λ k inside. same (suc k) (omega (arith), omega (arith, inside)))

    members_change : (j : ℕ) → IsMember j → ((k : ℕ) → IsMember k → k ≢ j → thread_left t k ≡ thread_left s k)
        → members_left t + thread_left s j ≡ members_left s + thread_left t j
    members_change j is same =
        let e : suc (j - 1) ≡ j = omega (arith, is.0) in
        let change = total_change members (j - 1) (λ k. thread_left s (suc k)) (λ k. thread_left t (suc k)) (omega (arith, is.0, is.1))
        (λ k inside ne. same (suc k) (omega (arith), omega (arith, inside)) (λ equal. ne (omega (arith, equal, is.0)))) in
        rw e at change

    parts_same : ((i : ℕ) → t.team.state i ≡ s.team.state i) → parts_left t ≡ parts_left s
    parts_same same = total_same w.tasks (λ i. 3 * (2 * w.steps - s.team.state i)) (λ i. 3 * (2 * w.steps - t.team.state i)) (λ i inside. omega (arith, same i))

    parts_less : (part : ℕ) → part < w.tasks → ((i : ℕ) → i ≢ part → t.team.state i ≡ s.team.state i) → t.team.state part ≡ suc (s.team.state part)
        → s.team.state part < 2 * w.steps → parts_left t + 3 ≡ parts_left s
    parts_less part exists same more few =
        let change = total_change w.tasks part (λ i. 3 * (2 * w.steps - s.team.state i)) (λ i. 3 * (2 * w.steps - t.team.state i)) exists
        (λ i inside ne. omega (arith, same i ne)) in
        omega (arith, change, more, few)

    by_caller : t.team.step ≡ s.team.step → parts_left t ≡ parts_left s → ((k : ℕ) → IsMember k → thread_left t k ≡ thread_left s k)
        → t.wakes 0 + caller_left (t.place 0) < s.wakes 0 + caller_left (s.place 0) → left t < left s
    by_caller step parts same less =
        let all = members_same same in
        let steps : (members + 4) * (w.steps - t.team.step) ≡ (members + 4) * (w.steps - s.team.step) = ap (λ (n : ℕ). (members + 4) * (w.steps - n)) step in
        omega (arith, all, steps, parts, less)

    by_member : (j : ℕ) → IsMember j → t.team.step ≡ s.team.step → parts_left t ≡ parts_left s → ((k : ℕ) → IsMember k → k ≢ j → thread_left t k ≡ thread_left s k)
        → thread_left t j + t.wakes 0 + caller_left (t.place 0) < thread_left s j + s.wakes 0 + caller_left (s.place 0) → left t < left s
    by_member j is step parts same less =
        let all = members_change j is same in
        let steps : (members + 4) * (w.steps - t.team.step) ≡ (members + 4) * (w.steps - s.team.step) = ap (λ (n : ℕ). (members + 4) * (w.steps - n)) step in
        omega (arith, all, steps, parts, less)

    by_part : (j : ℕ) → j ≤ members → t.team.step ≡ s.team.step → parts_left t + 3 ≡ parts_left s → ((k : ℕ) → k ≢ j → IsMember k → thread_left t k ≡ thread_left s k)
        → (j ≡ 0 → t.wakes 0 + caller_left (t.place 0) ≤ s.wakes 0 + caller_left (s.place 0))
        → (IsMember j → thread_left t j + t.wakes 0 + caller_left (t.place 0) ≤ thread_left s j + s.wakes 0 + caller_left (s.place 0) + 2)
        → left t < left s
    by_part j inside step parts same as_caller as_member =
        let steps : (members + 4) * (w.steps - t.team.step) ≡ (members + 4) * (w.steps - s.team.step) = ap (λ (n : ℕ). (members + 4) * (w.steps - n)) step in
        elim (eqb_tells j 0) [
          | inl x ↦ let all = members_same (λ k is. same k (λ e. omega (arith, e, x.1, is.0)) is) in let more = as_caller x.1 in omega (arith, all, steps, parts, more)
          | inr x ↦
              let is : IsMember j = (omega (arith, x.1), inside) in
              let all = members_change j is (λ k is_k ne. same k ne is_k) in let more = as_member is in omega (arith, all, steps, parts, more)
        ]

  module _ (apart : T.IsApart w) (s : Threads) (inv : B.Holds w members is_long s) where
    facts : P.Holds w s.team
    facts = P.holds w apart s.team inv.team

    abbrev next_of : H.Move w members is_long → Threads
    next_of m = H.after w members is_long s m

    -- if thread j goes to another place and thread k keeps its wakes, `thread_left` of k is unchanged
    others_stay : (j : ℕ) (place : H.Place) (wakes : ℕ → ℕ) (k : ℕ) → k ≢ j → wakes k ≡ s.wakes k
        → 4 * (w.steps - s.team.woken k) + 4 * wakes k + member_left (T.updated s.place j place k) ≡ thread_left s k
    others_stay j place wakes k ne same = let e = ap member_left (elsewhere s.place j place k ne) in omega (arith, e, same)

    wakes_less : (k : ℕ) → H.Can w members is_long s (H.Wakes k) → left (next_of (H.Wakes k)) < left s
    wakes_less k can =
        let waking : B.CallerWakes w members is_long s k = subst (B.Caller w members is_long s) can.0 inv.caller in
        let is : IsMember k = (waking.first, omega (arith, can.1)) in
        let t = next_of (H.Wakes k) in
        let ne : k ≢ 0 = λ e. omega (arith, e, is.0) in
        let woken = B.woken_k w members is_long apart s inv k can in
        let at = ap caller_left can.0 in
        let place = ap member_left (elsewhere s.place 0 (H.Waking (suc k)) k ne) in
        by_member s t k is refl refl
        (λ i is_i other. let e = ap member_left (elsewhere s.place 0 (H.Waking (suc k)) i (λ z. omega (arith, z, is_i.0))) in
        omega (arith, e, elsewhere s.wakes k (suc (s.wakes k)) i other, elsewhere s.team.woken k (suc (s.team.woken k)) i other))
        (omega (
          arith,
          at,
          place,
          there s.wakes k (suc (s.wakes k)),
          there s.team.woken k (suc (s.team.woken k)),
          woken,
          waking.more,
          can.1,
          elsewhere s.wakes k (suc (s.wakes k)) 0 (λ e. ne (sym e)),
        ))

    begins_less : H.Can w members is_long s H.Begins → left (next_of H.Begins) < left s
    begins_less can = let at = ap caller_left can in
        by_caller s (next_of H.Begins) refl refl (λ k is. others_stay 0 (H.Taking 0 0) s.wakes k (λ e. omega (arith, e, is.0)) refl) (omega (arith, at))

    counts_less : (n : ℕ) → H.Can w members is_long s (H.Counts n) → left (next_of (H.Counts n)) < left s
    counts_less n can = let at = ap caller_left can.0 in let some = can.2 in
        by_caller s (next_of (H.Counts n)) refl refl
        (λ k is. let ne : k ≢ 0 = λ e. omega (arith, e, is.0) in
        others_stay 0 (H.Counting (suc n)) (T.updated s.wakes 0 (s.wakes 0 - 1)) k ne (elsewhere s.wakes 0 (s.wakes 0 - 1) k ne))
        (omega (arith, at, some, there s.wakes 0 (s.wakes 0 - 1)))

    dismisses_less : (k : ℕ) → H.Can w members is_long s (H.Dismisses k) → left (next_of (H.Dismisses k)) < left s
    dismisses_less k can =
        let ending : (s.team.is_over ≡ true) × (0 < k) × (k ≤ suc members) = subst (B.Caller w members is_long s) can.0 inv.caller in
        let is : IsMember k = (ending.1, can.1) in
        let ne : k ≢ 0 = λ e. omega (arith, e, is.0) in
        let at = ap caller_left can.0 in
        let place = ap member_left (elsewhere s.place 0 (H.Ending (suc k)) k ne) in
        by_member s (next_of (H.Dismisses k)) k is refl refl
        (λ i is_i other. others_stay 0 (H.Ending (suc k)) (T.updated s.wakes k (suc (s.wakes k))) i (λ z. omega (arith, z, is_i.0)) (elsewhere s.wakes k (suc (s.wakes k)) i other))
        (omega (arith, at, place, can.1, there s.wakes k (suc (s.wakes k)), elsewhere s.wakes k (suc (s.wakes k)) 0 (λ e. ne (sym e))))

    returns_less : H.Can w members is_long s H.Returns → left (next_of H.Returns) < left s
    returns_less can = let at = ap caller_left can.0 in
        by_caller s (next_of H.Returns) refl refl (λ k is. others_stay 0 H.Ended s.wakes k (λ e. omega (arith, e, is.0)) refl) (omega (arith, at))

    stops_less : H.Can w members is_long s H.Stops → left (next_of H.Stops) < left s
    stops_less can =
        let at : 5 * members + 2 ≤ caller_left (s.place 0) = elim can [
          | inl e ↦ let at = ap caller_left e in omega (arith, at)
          | inr e ↦ let at = ap caller_left e in omega (arith, at)
        ] in
        by_caller s (next_of H.Stops) refl refl (λ k is. others_stay 0 (H.Ending 1) s.wakes k (λ e. omega (arith, e, is.0)) refl) (omega (arith, at))

    -- if thread j, not the caller's, goes to a place with a smaller `member_left`, `left` becomes smaller (`gone_less`)
    module _ (j : ℕ) (is : IsMember j) (from to : H.Place) (was : s.place j ≡ from) where
      not_caller : 0 ≢ j
      not_caller e = omega (arith, e, is.0)

      caller_stays : (wakes : ℕ → ℕ) → caller_left (T.updated s.place j to 0) ≡ caller_left (s.place 0)
      caller_stays wakes = ap caller_left (elsewhere s.place j to 0 not_caller)

      now_there : member_left (T.updated s.place j to j) ≡ member_left to
      now_there = ap member_left (there s.place j to)

      was_there : member_left (s.place j) ≡ member_left from
      was_there = ap member_left was

      gone_less : member_left to < member_left from → left (H.goes w members is_long s j to) < left s
      gone_less less = by_member s (H.goes w members is_long s j to) j is refl refl (λ k is_k ne. others_stay j to s.wakes k ne refl)
          (omega (arith, less, now_there, was_there, caller_stays s.wakes))

    tells_less : (j n : ℕ) → H.Can w members is_long s (H.Tells j n) → left (next_of (H.Tells j n)) < left s
    tells_less j n can =
        let is = can.0 in
        let ne : j ≢ 0 = λ e. omega (arith, e, is.0) in
        by_member s (next_of (H.Tells j n)) j is refl refl
        (λ k is_k other. others_stay j (H.Telling n) (T.updated s.wakes 0 (suc (s.wakes 0))) k other (elsewhere s.wakes 0 (suc (s.wakes 0)) k (λ e. omega (arith, e, is_k.0))))
        (let one = now_there j is (H.Telling (suc n)) (H.Telling n) can.1 in let two = was_there j is (H.Telling (suc n)) (H.Telling n) can.1 in
        let three = caller_stays j is (H.Telling (suc n)) (H.Telling n) can.1 s.wakes in
        omega (arith, one, two, three, there s.wakes 0 (suc (s.wakes 0)), elsewhere s.wakes 0 (suc (s.wakes 0)) j ne))

    awakes_less : (j : ℕ) → H.Can w members is_long s (H.Awakes j) → left (next_of (H.Awakes j)) < left s
    awakes_less j can =
        let is = can.0 in
        let some = can.2 in
        by_member s (next_of (H.Awakes j)) j is refl refl
        (λ k is_k other. others_stay j H.Woken (T.updated s.wakes j (s.wakes j - 1)) k other (elsewhere s.wakes j (s.wakes j - 1) k other))
        (let one = now_there j is H.Waiting H.Woken can.1 in let two = was_there j is H.Waiting H.Woken can.1 in let three = caller_stays j is H.Waiting H.Woken can.1 s.wakes in
        omega (arith, one, two, three, some, there s.wakes j (s.wakes j - 1), elsewhere s.wakes j (s.wakes j - 1) 0 (not_caller j is H.Waiting H.Woken can.1)))

    enters_less : (j : ℕ) → H.Can w members is_long s (H.Enters j) → left (next_of (H.Enters j)) < left s
    enters_less j can =
        let is = can.0 in
        by_member s (next_of (H.Enters j)) j is refl refl (λ k is_k ne. others_stay j (H.Taking j 0) s.wakes k ne refl)
        (let one = now_there j is H.Woken (H.Taking j 0) can.1 in let two = was_there j is H.Woken (H.Taking j 0) can.1 in
        let three = caller_stays j is H.Woken (H.Taking j 0) can.1 s.wakes in omega (arith, one, two, three))

    leaves_less : (j part n : ℕ) → H.Can w members is_long s (H.Leaves j part n) → left (next_of (H.Leaves j part n)) < left s
    leaves_less j part n can = elim (B.member_or_caller w members is_long apart s inv j can.0) [
      | inl e ↦ subst (λ (k : ℕ). H.Can w members is_long s (H.Leaves k part n) → left (next_of (H.Leaves k part n)) < left s) (sym e)
          (λ can. let at = ap caller_left can.1 in
          by_caller s (next_of (H.Leaves 0 part n)) refl refl (λ k is. others_stay 0 (H.Counting n) s.wakes k (λ e. omega (arith, e, is.0)) refl) (omega (arith, at))) can
      | inr is ↦ subst (λ (t : Threads). left t < left s) (sym (B.told_place w members is_long apart s inv j part n is can))
          (gone_less j is (H.Taking part n) (H.Telling n) can.1 (omega (arith)))
    ]

    -- ---- parts

    claims_less : (j part n : ℕ) → H.Can w members is_long s (H.Claims j part n) → part < w.tasks → H.own_step w members is_long s j < w.steps
        → left (next_of (H.Claims j part n)) < left s
    claims_less j part n can exists more =
        let free = can.3 in
        by_part s (next_of (H.Claims j part n)) j can.0 refl
        (parts_less s (next_of (H.Claims j part n)) part exists (λ i ne. elsewhere s.team.state part (2 * H.own_step w members is_long s j + 1) i ne)
        (omega (arith, there s.team.state part (2 * H.own_step w members is_long s j + 1), free)) (omega (arith, free, more)))
        (λ k ne is. others_stay j (H.Working part n) s.wakes k ne refl)
        (λ e. let at = ap caller_left (subst (λ (k : ℕ). s.place k ≡ H.Taking part n) e can.1) in
        let now = ap caller_left (hit s.place j (H.Working part n) 0 (zero_is j e)) in omega (arith, at, now))
        (λ is.
        let one = now_there j is (H.Taking part n) (H.Working part n) can.1 in let two = was_there j is (H.Taking part n) (H.Working part n) can.1 in
        let three = caller_stays j is (H.Taking part n) (H.Working part n) can.1 s.wakes in omega (arith, one, two, three))
      where
        zero_is : (j : ℕ) → j ≡ 0 → eqb 0 j ≡ true
        zero_is j e = elim (eqb_tells 0 j) [ inl x ↦ x.0 | inr x ↦ absurd (x.1 (sym e)) ]

    takes_less : (j part n : ℕ) → H.Can w members is_long s (H.Claims j part n) → left (next_of (H.Claims j part n)) < left s
    takes_less j part n can = elim (B.member_or_caller w members is_long apart s inv j can.0) [
      | inl e ↦ subst (λ (k : ℕ). H.Can w members is_long s (H.Claims k part n) → left (next_of (H.Claims k part n)) < left s) (sym e)
          (λ can. let c : B.CallerTakes w members is_long s part n = subst (B.Caller w members is_long s) can.1 inv.caller in
          claims_less 0 part n can c.position.exists c.going.more) can
      | inr is ↦
          let m : B.MemberTakes w members is_long s j part n = subst (B.Member w members is_long s j) can.1 (inv.member j is) in
          let own = B.own_at_member w members is_long apart s inv j is in let some = m.entered in
          claims_less j part n can m.position.exists (omega (arith, own, some, facts.counts.behind j, facts.counts.wakes j))
    ]

    finishes_less : (j part n code : ℕ) → H.Can w members is_long s (H.Finishes j part n code) → left (next_of (H.Finishes j part n code)) < left s
    finishes_less j part n code can =
        let work = B.works w members is_long apart s inv j part n can.inside can.place in
        let at_work = work.at_work in let now_step = work.now in
        let more : s.team.step < w.steps = elim (eqb_tells s.team.step w.steps) [
          | inl x ↦ absurd (omega (arith, at_work, facts.states.end x.1 part work.position.exists))
          | inr x ↦ omega (arith, x.1, facts.few)
        ] in
        let to : H.Place = H.Taking (H.next w members is_long part) (suc n) in
        by_part s (next_of (H.Finishes j part n code)) j can.inside refl
        (parts_less s (next_of (H.Finishes j part n code)) part work.position.exists (λ i ne. elsewhere s.team.state part (2 * H.own_step w members is_long s j + 2) i ne)
        (omega (arith, there s.team.state part (2 * H.own_step w members is_long s j + 2), at_work, now_step)) (omega (arith, at_work, more)))
        (λ k ne is. others_stay j to s.wakes k ne refl)
        (λ e. let at = ap caller_left (subst (λ (k : ℕ). s.place k ≡ H.Working part n) e can.place) in
        let now = ap caller_left (hit s.place j to 0 (zero_is j e)) in omega (arith, at, now))
        (λ is.
        let one = now_there j is (H.Working part n) to can.place in let two = was_there j is (H.Working part n) to can.place in
        let three = caller_stays j is (H.Working part n) to can.place s.wakes in omega (arith, one, two, three))
      where
        zero_is : (j : ℕ) → j ≡ 0 → eqb 0 j ≡ true
        zero_is j e = elim (eqb_tells 0 j) [ inl x ↦ x.0 | inr x ↦ absurd (x.1 (sym e)) ]

    times : (a d : ℕ) → a * suc d ≡ a * d + a
    times a d = omega arith

    advances_less : H.Can w members is_long s H.Advances → left (next_of H.Advances) < left s
    advances_less can =
        let going : B.Going w members is_long s × B.IsClaimed w members is_long s 0 = subst (B.Caller w members is_long s) can.0 inv.caller in
        let more = going.0.more in
        let all = members_same s (next_of H.Advances) (λ k is. others_stay 0 (B.new_place w members is_long apart s inv can) s.wakes k (λ e. omega (arith, e, is.0)) refl) in
        let d : suc (w.steps - suc s.team.step) ≡ w.steps - s.team.step = omega (arith, more) in
        let steps = times (members + 4) (w.steps - suc s.team.step) in
        let steps_before = ap (λ (n : ℕ). (members + 4) * n) d in
        let at = ap caller_left can.0 in
        let place : caller_left (B.new_place w members is_long apart s inv can) ≤ 5 * members + 5 + members = elim (B.place_cases w members is_long apart s inv can) [
          | inl x ↦ let e = ap caller_left x.1 in omega (arith, e)
          | inr x ↦ let e = ap caller_left x.1 in omega (arith, e)
        ] in
        omega (arith, all, steps, steps_before, at, place)

    some_less : (m : H.Move w members is_long) → H.Can w members is_long s m → (left (next_of m) < left s) ⊎ (H.IsWrite w members is_long m × (left (next_of m) ≡ left s))
    some_less (H.Wakes k) can = inl (wakes_less k can)
    some_less H.Begins can = inl (begins_less can)
    some_less (H.Claims j part n) can = inl (takes_less j part n can)
    some_less (H.Leaves j part n) can = inl (leaves_less j part n can)
    some_less (H.Writes j part n memory) can = inr (tt, refl)
    some_less (H.Finishes j part n code) can = inl (finishes_less j part n code can)
    some_less (H.Tells j n) can = inl (tells_less j n can)
    some_less (H.Waits j) can = inl (gone_less j can.0 (H.Telling 0) H.Waiting can.1 (omega arith))
    some_less (H.Awakes j) can = inl (awakes_less j can)
    some_less (H.Enters j) can = inl (enters_less j can)
    some_less (H.Exits j) can = inl (gone_less j can.0 H.Woken H.Ended can.1 (omega arith))
    some_less (H.Counts n) can = inl (counts_less n can)
    some_less H.Advances can = inl (advances_less can)
    some_less H.Stops can = inl (stops_less can)
    some_less (H.Dismisses k) can = inl (dismisses_less k can)
    some_less H.Returns can = inl (returns_less can)

pub every_run_ends : (w : T.Work) (members : ℕ) (is_long : Bool) → T.IsApart w → H.EveryRunEnds w members is_long
every_run_ends w members is_long apart = (left w members is_long, λ s m r can. some_less w members is_long apart s (B.all_hold w members is_long apart s r) m can)
