-- The threads of a call can complete all steps, and return: they make the moves that `Next` names, and fill each part that
-- one of them claimed.
use Rattle.std.proofs.Common.{◌≡◌, ◌≢◌, ◌⊎◌, ℕ, zero, suc, ◌+◌, ◌*◌, ◌<◌, ◌≤◌, Bool, true, false, refl, sym, ◌∙◌, subst, ap, inl, inr, arith}
use Rattle.std.proofs.lemmas.Bool.Decides.{eqb_tells}
use Rattle.argon2_c.specs.Team as T
use Rattle.argon2_c.specs.Threads as H
use Rattle.argon2_c.proofs.Team.{hit, miss}
use Rattle.argon2_c.proofs.Team as P
use Rattle.argon2_c.proofs.Threads as B
use Rattle.argon2_c.proofs.Endings.{every_run_ends}

module _ (w : T.Work) (apart : T.IsApart w) (IsSuitable : w.Memory → Type 0) (can_fill : H.CanFill w IsSuitable) where
  -- ---- the lanes of a part

  -- step n has filled those lanes of this part that are below k
  record IsPartly (n part k : ℕ) (before after : w.Memory) : Type 0 where
    pub suitable : IsSuitable after
    pub keeps : w.Keeps n before after
    pub others : (l : ℕ) → (w.worker l ≢ part) ⊎ (k ≤ l) → w.segment n l after ≡ w.segment n l before
    pub fills : (l : ℕ) → l < k → w.worker l ≡ part → w.Fills n l after (w.segment n l before) (w.segment n l after)

  module _ (n part : ℕ) (few : n < w.steps) where
    fill_next : (k : ℕ) → k < w.lanes → w.worker k ≡ part → (before middle : w.Memory) → IsPartly n part k before middle
        → (after : w.Memory) × IsPartly n part (suc k) before after
    fill_next k fits is before middle so_far =
        let one = can_fill n k middle few fits so_far.suitable in (
          one.0,
          record {
            suitable = one.1;
            keeps = apart.further n before middle one.0 so_far.keeps one.2.keeps;
            others = λ l h. elim h [
              | inl ne ↦ one.2.others l (λ e. ne (ap w.worker e ∙ is)) ∙ so_far.others l (inl ne)
              | inr above ↦ one.2.others l (λ e. omega (arith, e, above)) ∙ so_far.others l (inr (omega (arith, above)))
            ];
            fills = λ l below own. elim (eqb_tells l k) [
              | inl x ↦ subst (λ (i : ℕ). w.Fills n i one.0 (w.segment n i before) (w.segment n i one.0)) (sym x.1)
                  (apart.seen n k one.0 middle _ _ one.2.back (rw (sym (so_far.others k (inr (omega arith)))) one.2.fills))
              | inr x ↦ rw (one.2.others l x.1) (apart.seen n l one.0 middle _ _ one.2.back (so_far.fills l (omega (arith, below, x.1)) own))
            ];
          },
        )

    fill_below : (k : ℕ) → k ≤ w.lanes → (before : w.Memory) → IsSuitable before → (after : w.Memory) × IsPartly n part k before after
    fill_below zero fits before suitable = (
      before,
      record {
        suitable = suitable;
        keeps = apart.none n before;
        others = λ l h. refl;
        fills = λ l below. absurd (omega (arith, below));
      },
    )
    fill_below (suc k) fits before suitable =
        let r = fill_below k (omega (arith, fits)) before suitable in
        elim (eqb_tells (w.worker k) part) [
          | inl x ↦ fill_next k fits x.1 before r.0 r.1
          | inr x ↦ (
            r.0,
            record {
              suitable = r.1.suitable;
              keeps = r.1.keeps;
              others = λ l h. elim h [ inl ne ↦ r.1.others l (inl ne) | inr above ↦ r.1.others l (inr (omega (arith, above))) ];
              fills = λ l below own. elim (eqb_tells l k) [
                | inl y ↦ absurd (x.1 (sym (ap w.worker y.1) ∙ own))
                | inr y ↦ r.1.fills l (omega (arith, below, y.1)) own
              ];
            },
          )
        ]

  -- ---- a run without errors

  module _ (members : ℕ) (is_long : Bool) (start : w.Memory) where
    abbrev Threads : Type 0
    Threads = H.Threads w members is_long

    -- no step has failed, and a claimed part is as it was before the step
    record Fine (step : ℕ) (is_over : Bool) (state code : ℕ → ℕ) (memory before first : w.Memory) : Type 0 where
      pub suitable : IsSuitable memory
      pub ok : (i : ℕ) → code i ≡ 0
      pub fresh : (l : ℕ) → l < w.lanes → state (w.worker l) ≡ 2 * step + 1 → w.segment step l memory ≡ w.segment step l before
      pub begins : first ≡ start
      pub all : is_over ≡ true → step ≡ w.steps

    abbrev IsFine : T.Team w → Type 0
    IsFine t = Fine t.step t.is_over t.state t.code t.memory (t.before t.step) (t.before 0)

    abbrev ends : H.EveryRunEnds w members is_long
    ends = every_run_ends w members is_long apart

    -- after some moves the run is still fine, and nearer to its end
    abbrev Better : Threads → Type 0
    Better s = (t : Threads) × H.IsReached w members is_long t × IsFine t.team × (ends.0 t < ends.0 s)

    module _ (s : Threads) (reached : H.IsReached w members is_long s) (fine : IsFine s.team) where
      inv : B.Holds w members is_long s
      inv = B.all_hold w members is_long apart s reached

      facts : P.Holds w s.team
      facts = P.holds w apart s.team inv.team

      moved : (m : H.Move w members is_long) → H.Can w members is_long s m → (H.IsWrite w members is_long m → ⊥)
          → IsFine (H.after w members is_long s m).team → Better s
      moved m can no_write then = (
        H.after w members is_long s m,
        H.moves s (H.after w members is_long s m) m reached can refl,
        then,
        elim (ends.1 s m reached can) [ inl less ↦ less | inr writes ↦ absurd (no_write writes.0) ],
      )

      own_most : (j : ℕ) → H.own_step w members is_long s j ≤ s.team.step
      own_most j = elim (eqb_tells j 0) [
        | inl x ↦ rw x.0 (omega arith)
        | inr x ↦ rw x.0 (omega (arith, facts.counts.behind j, facts.counts.most j))
      ]

      claim : (j part n : ℕ) → H.Can w members is_long s (H.Claims j part n) → Better s
      claim j part n can = moved (H.Claims j part n) can (λ e. e) (record {
        suitable = fine.suitable;
        ok = fine.ok;
        fresh = λ l fits at_work. elim (eqb_tells (w.worker l) part) [
          | inl x ↦
              let same = ap s.team.state x.1 in
              let least = facts.states.least (w.worker l) (apart.workers l fits) in
              facts.lanes.free l fits (omega (arith, same, can.3, least, own_most j))
          | inr x ↦ fine.fresh l fits (sym (miss s.team.state part _ (w.worker l) x.0) ∙ at_work)
        ];
        begins = fine.begins;
        all = fine.all;
      })

      module _ (j part n : ℕ) (inside : j ≤ members) (is : s.place j ≡ H.Working part n) where
        work : B.Works w members is_long apart s inv j part n
        work = B.works w members is_long apart s inv j part n inside is

        more : s.team.step < w.steps
        more = elim (eqb_tells s.team.step w.steps) [
          | inl x ↦ absurd (let at_work = work.at_work in omega (arith, at_work, facts.states.end x.1 part work.position.exists))
          | inr x ↦ omega (arith, x.1, facts.few)
        ]

        filled : (after : w.Memory) × IsPartly s.team.step part w.lanes s.team.memory after
        filled = fill_below s.team.step part more w.lanes (omega arith) s.team.memory fine.suitable

        abbrev written : Threads
        written = H.after w members is_long s (H.Writes j part n filled.0)

        can_write : H.Can w members is_long s (H.Writes j part n filled.0)
        can_write = record {
          inside = inside;
          place = is;
          keeps = rw work.now filled.1.keeps;
          others = λ l ne. rw work.now (filled.1.others l (inl ne));
        }

        reached_written : H.IsReached w members is_long written
        reached_written = H.moves s written (H.Writes j part n filled.0) reached can_write refl

        can_finish : H.Can w members is_long written (H.Finishes j part n 0)
        can_finish = record {
          inside = inside;
          place = is;
          fills = λ ok l fits own.
              let at_work : s.team.state (w.worker l) ≡ 2 * s.team.step + 1 = ap s.team.state own ∙ work.at_work in
              rw (work.now, facts.lanes.taken l fits at_work, sym (fine.fresh l fits at_work)) (filled.1.fills l fits own);
        }

        finish : Better s
        finish = (
          H.after w members is_long written (H.Finishes j part n 0),
          H.moves written (H.after w members is_long written (H.Finishes j part n 0)) (H.Finishes j part n 0) reached_written can_finish refl,
          record {
            suitable = filled.1.suitable;
            ok = λ i. elim (eqb_tells i part) [ inl x ↦ hit s.team.code part 0 i x.0 | inr x ↦ miss s.team.code part 0 i x.0 ∙ fine.ok i ];
            fresh = λ l fits at_work. elim (eqb_tells (w.worker l) part) [
              | inl x ↦ absurd (let now = work.now in omega (arith, now, at_work, hit s.team.state part (2 * H.own_step w members is_long s j + 2) (w.worker l) x.0))
              | inr x ↦ filled.1.others l (inl x.1)
                  ∙ fine.fresh l fits (sym (miss s.team.state part (2 * H.own_step w members is_long s j + 2) (w.worker l) x.0) ∙ at_work)
            ];
            begins = fine.begins;
            all = fine.all;
          },
          elim (ends.1 written (H.Finishes j part n 0) reached_written can_finish) [
            | inr writes ↦ absurd writes.0
            | inl less ↦ elim (ends.1 s (H.Writes j part n filled.0) reached can_write) [
              | inl before ↦ omega (arith, less, before)
              | inr same ↦ let e = same.1 in omega (arith, less, e)
            ]
          ],
        )

      advance : s.place 0 ≡ H.Counting w.tasks → Better s
      advance at =
          let caller : B.Going w members is_long s × B.IsClaimed w members is_long s 0 = subst (B.Caller w members is_long s) at inv.caller in
          moved H.Advances (at, λ i exists. fine.ok i) (λ e. e) (record {
            suitable = fine.suitable;
            ok = fine.ok;
            fresh = λ l fits at_work. absurd (omega (arith, at_work, B.through w members is_long apart s inv at (w.worker l) (apart.workers l fits)));
            begins = elim (eqb_tells 0 (suc s.team.step)) [
              | inl x ↦ absurd (omega (arith, x.1))
              | inr x ↦ miss s.team.before (suc s.team.step) s.team.memory 0 x.0 ∙ fine.begins
            ];
            all = λ over. absurd (let no = caller.0.over in cc);
          })

      stop : s.place 0 ≡ H.Left → Better s
      stop at =
          let caller : (s.team.is_over ≡ false) × (s.team.step ≡ w.steps) = subst (B.Caller w members is_long s) at inv.caller in
          moved H.Stops (inr at) (λ e. e) (record {
            suitable = fine.suitable;
            ok = fine.ok;
            fresh = fine.fresh;
            begins = fine.begins;
            all = λ over. caller.1;
          })

      better : B.Next w members is_long s → Better s
      better (B.Quiet m woken entered can same no_write) = moved m can no_write (subst IsFine (sym same) fine)
      better (B.Claim j part n can) = claim j part n can
      better (B.Work j part n inside is) = finish j part n inside is
      better (B.Through at) = advance at
      better (B.AllTaken at) = stop at

      better_or_ended : Better s ⊎ (s.place 0 ≡ H.Ended)
      better_or_ended = elim (B.caller_goes w members is_long apart s inv (s.place 0) refl inv.caller) [
        | inl next ↦ inl (better next)
        | inr ended ↦ inr ended
      ]

    run : (most : ℕ) (s : Threads) → H.IsReached w members is_long s → IsFine s.team → ends.0 s ≤ most
        → (t : Threads) × H.IsReached w members is_long t × IsFine t.team × (t.place 0 ≡ H.Ended)
    run zero s reached fine few = elim (better_or_ended s reached fine) [
      | inl b ↦ absurd (let less = b.3 in omega (arith, less, few))
      | inr ended ↦ (s, reached, fine, ended)
    ]
    run (suc most) s reached fine few = elim (better_or_ended s reached fine) [
      | inl b ↦ run most b.0 b.1 b.2 (let less = b.3 in omega (arith, less, few))
      | inr ended ↦ (s, reached, fine, ended)
    ]

    abbrev first : Threads
    first = record {
      team = record {
        step = 0;
        is_over = false;
        woken = λ j. 0;
        entered = λ j. 0;
        state = λ i. 0;
        code = λ i. 0;
        memory = start;
        claimed = λ l. w.segment 0 l start;
        before = λ n. start;
      };
      place = T.updated (λ j. H.Waiting) 0 (H.Waking 1);
      wakes = λ j. 0;
      owner = λ i. 0;
    }

    starts : members < w.tasks → 0 < w.steps → H.IsStart w members is_long first
    starts fewer some = record {
      fewer = fewer;
      some = omega (arith, some);
      team = record {
        step = refl;
        goes_on = refl;
        woken = λ j. refl;
        entered = λ j. refl;
        state = λ i. refl;
        before = refl;
      };
      caller = refl;
      others = λ j is. elim (eqb_tells j 0) [
        | inl x ↦ absurd (omega (arith, x.1, is.0))
        | inr x ↦ miss (λ j. H.Waiting) 0 (H.Waking 1) j x.0
      ];
      wakes = λ j. omega arith;
    }

    fine_at_first : IsSuitable start → IsFine first.team
    fine_at_first suitable = record {
      suitable = suitable;
      ok = λ i. refl;
      fresh = λ l fits at_work. refl;
      begins = refl;
      all = λ over. absurd (cc);
    }

pub a_call_can_finish : (w : T.Work) (members : ℕ) (is_long : Bool) → T.IsApart w → (IsSuitable : w.Memory → Type 0)
    → H.ACallCanFinish w members is_long IsSuitable
a_call_can_finish w members is_long apart IsSuitable can_fill fewer some start suitable =
    let s = first w apart IsSuitable can_fill members is_long start in
    let begun = H.starts s (starts w apart IsSuitable can_fill members is_long start fewer some) in
    let r = run w apart IsSuitable can_fill members is_long start ((every_run_ends w members is_long apart).0 s) s begun (fine_at_first w apart IsSuitable can_fill members is_long start suitable) (omega arith) in
    let inv = B.all_hold w members is_long apart r.0 r.1 in
    let caller : B.Caller w members is_long r.0 H.Ended = subst (B.Caller w members is_long r.0) r.3 inv.caller in
    (r.0, r.1, r.3, r.2.all caller.0, caller.0, r.2.begins)
