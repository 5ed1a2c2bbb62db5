-- The invariant `Holds` is true in each state that a team can reach.
use Rattle.std.proofs.Common.{◌≡◌, ◌≢◌, ℕ, suc, ◌+◌, ◌*◌, ◌<◌, ◌≤◌, Bool, true, false, eqb, refl, sym, ◌∙◌, subst, ap, inl, inr, arith}
use Rattle.std.proofs.lemmas.Bool.Decides.{eqb_tells}
use Rattle.argon2_c.specs.Team as T

-- an updated function has the new value at `place`, and (next lemma) its old value at any other place
pub hit : {A : Type 0} (f : ℕ → A) (place : ℕ) (value : A) (i : ℕ) → eqb i place ≡ true → T.updated f place value i ≡ value
hit f place value i e = rw e refl

pub miss : {A : Type 0} (f : ℕ → A) (place : ℕ) (value : A) (i : ℕ) → eqb i place ≡ false → T.updated f place value i ≡ f i
miss f place value i e = rw e refl

module _ (w : T.Work) where
  -- ---- the invariants, by subject

  pub record Counts (step : ℕ) (woken entered : ℕ → ℕ) : Type 0 where
    pub most : (j : ℕ) → woken j ≤ suc step
    pub wakes : (j : ℕ) → woken j ≤ w.steps
    pub behind : (j : ℕ) → entered j ≤ woken j

  pub record States (step : ℕ) (is_over : Bool) (entered state : ℕ → ℕ) : Type 0 where
    pub least : (i : ℕ) → i < w.tasks → 2 * step ≤ state i
    pub most : (i : ℕ) → i < w.tasks → state i ≤ 2 * step + 2
    pub end : step ≡ w.steps → (i : ℕ) → i < w.tasks → state i ≡ 2 * step
    pub quiet : is_over ≡ true → (i : ℕ) → i < w.tasks → state i ≢ 2 * step + 1
    pub passed : is_over ≡ true → (i j : ℕ) → i < w.tasks → 2 * entered j ≤ state i

  pub record Lanes (step : ℕ) (state code : ℕ → ℕ) (memory : w.Memory) (claimed : ℕ → w.Segment) (before : w.Memory) : Type 0 where
    pub keeps : w.Keeps step before memory
    pub free : (l : ℕ) → l < w.lanes → state (w.worker l) ≡ 2 * step → w.segment step l memory ≡ w.segment step l before
    pub taken : (l : ℕ) → l < w.lanes → state (w.worker l) ≡ 2 * step + 1 → claimed l ≡ w.segment step l before
    pub filled : (l : ℕ) → l < w.lanes → state (w.worker l) ≡ 2 * step + 2 → code (w.worker l) ≡ 0
        → w.Fills step l before (w.segment step l before) (w.segment step l memory)
    pub rest : step ≡ w.steps → memory ≡ before

  pub record Holds (s : T.Team w) : Type 0 where
    pub few : s.step ≤ w.steps
    pub past : (n : ℕ) → n < s.step → T.IsStep w n (s.before n) (s.before (suc n))
    pub counts : Counts s.step s.woken s.entered
    pub states : States s.step s.is_over s.entered s.state
    pub lanes : Lanes s.step s.state s.code s.memory s.claimed (s.before s.step)

  module _ (apart : T.IsApart w) where
    holds_at_start : (s : T.Team w) → T.IsStart w s → Holds s
    holds_at_start s b = record {
      few = omega (arith, b.step);
      past = λ n h. absurd (omega (arith, h, b.step));
      counts = record {
        most = λ j. omega (arith, b.woken j);
        wakes = λ j. omega (arith, b.woken j);
        behind = λ j. omega (arith, b.entered j);
      };
      states = record {
        least = λ i exists. omega (arith, b.step, b.state i);
        most = λ i exists. omega (arith, b.step, b.state i);
        end = λ e i exists. omega (arith, b.step, b.state i);
        quiet = λ over i exists. absurd (let e = b.goes_on in cc);
        passed = λ over i j exists. absurd (let e = b.goes_on in cc);
      };
      lanes = record {
        keeps = rw (b.step, b.before) (apart.none 0 s.memory);
        free = λ l fits e. rw (b.step, b.before) refl;
        taken = λ l fits e. absurd (omega (arith, e, b.step, b.state (w.worker l)));
        filled = λ l fits e. absurd (omega (arith, e, b.step, b.state (w.worker l)));
        rest = λ e. rw (b.step, b.before) refl;
      };
    }

    module _ (s : T.Team w) (inv : Holds s) where
      open inv use {counts, states, lanes}

      wakes_kept : (j : ℕ) → T.Can w s (T.Wakes j) → Holds (T.after w s (T.Wakes j))
      wakes_kept j can = record {
        few = inv.few;
        past = inv.past;
        counts = record {
          most = λ k. elim (eqb_tells k j) [
            | inl x ↦ omega (arith, hit s.woken j (suc (s.woken j)) k x.0, can.1)
            | inr x ↦ omega (arith, miss s.woken j (suc (s.woken j)) k x.0, counts.most k)
          ];
          wakes = λ k. elim (eqb_tells k j) [
            | inl x ↦ omega (arith, hit s.woken j (suc (s.woken j)) k x.0, can.1, can.0.1)
            | inr x ↦ omega (arith, miss s.woken j (suc (s.woken j)) k x.0, counts.wakes k)
          ];
          behind = λ k. elim (eqb_tells k j) [
            | inl x ↦ let e = ap s.entered x.1 in omega (arith, e, hit s.woken j (suc (s.woken j)) k x.0, counts.behind j)
            | inr x ↦ omega (arith, miss s.woken j (suc (s.woken j)) k x.0, counts.behind k)
          ];
        };
        states = states;
        lanes = lanes;
      }

      enters_kept : (j : ℕ) → T.Can w s (T.Enters j) → Holds (T.after w s (T.Enters j))
      enters_kept j can = record {
        few = inv.few;
        past = inv.past;
        counts = record {
          most = counts.most;
          wakes = counts.wakes;
          behind = λ k. elim (eqb_tells k j) [
            | inl x ↦ let e = ap s.woken x.1 in omega (arith, e, hit s.entered j (suc (s.entered j)) k x.0, can.1)
            | inr x ↦ omega (arith, miss s.entered j (suc (s.entered j)) k x.0, counts.behind k)
          ];
        };
        states = record {
          least = states.least;
          most = states.most;
          end = states.end;
          quiet = states.quiet;
          passed = λ over. absurd (let e = can.0 in cc);
        };
        lanes = lanes;
      }

      -- a claim of part i of the present step keeps `Holds` (`claim_kept`)
      module _ (i : ℕ) (can : T.CanClaim w s s.step i) (goes_on : s.is_over ≡ false) (more : s.step < w.steps) where
        at_claimed : (k : ℕ) → eqb k i ≡ true → T.updated s.state i (2 * s.step + 1) k ≡ 2 * s.step + 1
        at_claimed k e = hit s.state i (2 * s.step + 1) k e

        at_unclaimed : (k : ℕ) → eqb k i ≡ false → T.updated s.state i (2 * s.step + 1) k ≡ s.state k
        at_unclaimed k e = miss s.state i (2 * s.step + 1) k e

        claim_kept : Holds (T.claims w s s.step i)
        claim_kept = record {
          few = inv.few;
          past = inv.past;
          counts = counts;
          states = record {
            least = λ k exists. elim (eqb_tells k i) [
              | inl x ↦ omega (arith, at_claimed k x.0)
              | inr x ↦ omega (arith, at_unclaimed k x.0, states.least k exists)
            ];
            most = λ k exists. elim (eqb_tells k i) [
              | inl x ↦ omega (arith, at_claimed k x.0)
              | inr x ↦ omega (arith, at_unclaimed k x.0, states.most k exists)
            ];
            end = λ e. absurd (omega (arith, e, more));
            quiet = λ over. absurd (cc);
            passed = λ over. absurd (cc);
          };
          lanes = record {
            keeps = lanes.keeps;
            free = λ l fits e. elim (eqb_tells (w.worker l) i) [
              | inl x ↦ absurd (omega (arith, e, at_claimed (w.worker l) x.0))
              | inr x ↦ lanes.free l fits (omega (arith, e, at_unclaimed (w.worker l) x.0))
            ];
            taken = λ l fits e. elim (eqb_tells (w.worker l) i) [
              | inl x ↦ let was = ap s.state x.1 in rw x.0 (lanes.free l fits (omega (arith, was, can.free)))
              | inr x ↦ rw x.0 (lanes.taken l fits (omega (arith, e, at_unclaimed (w.worker l) x.0)))
            ];
            filled = λ l fits e ok. elim (eqb_tells (w.worker l) i) [
              | inl x ↦ absurd (omega (arith, e, at_claimed (w.worker l) x.0))
              | inr x ↦ lanes.filled l fits (omega (arith, e, at_unclaimed (w.worker l) x.0)) ok
            ];
            rest = lanes.rest;
          };
        }

      -- a thread claims a part only of the present step, though it counts steps itself
      module _ (n i : ℕ) (can : T.Can w s (T.Claims n i)) where
        pub present : n ≡ s.step
        present = elim can.0 [
          | inl e ↦ e.2
          | inr x ↦ omega (arith, x.1, counts.behind x.0, counts.most x.0, states.least i can.1.exists, can.1.free)
        ]

        not_over : (b : Bool) → s.is_over ≡ b → (j : ℕ) → suc n ≡ s.entered j → b ≡ false
        not_over false e j own = refl
        not_over true e j own = absurd (let p = states.passed e i j can.1.exists in omega (arith, p, own, can.1.free))

        goes_on : s.is_over ≡ false
        goes_on = elim can.0 [
          | inl e ↦ e.0
          | inr x ↦ not_over s.is_over refl x.0 x.1
        ]

        more : s.step < w.steps
        more = elim can.0 [
          | inl e ↦ e.1
          | inr x ↦ omega (arith, present, x.1, counts.behind x.0, counts.wakes x.0)
        ]

        claims_kept : Holds (T.after w s (T.Claims n i))
        claims_kept = subst (λ (k : ℕ). Holds (T.claims w s k i)) (sym present) (claim_kept i
            (record { exists = can.1.exists; free = omega (arith, can.1.free, present) }) goes_on more)

      -- ---- work

      -- if part i is being worked on for step n, n is the present step
      works_now : (n i : ℕ) → T.CanEnd w s n i → n ≡ s.step
      works_now n i can = omega (arith, states.least i can.exists, states.most i can.exists, can.at_work)

      before_the_end : (n i : ℕ) → T.CanEnd w s n i → s.step ≡ w.steps → ⊥
      before_the_end n i can e = omega (arith, states.end e i can.exists, can.at_work)

      not_over_at_work : (n i : ℕ) → T.CanEnd w s n i → s.is_over ≡ true → ⊥
      not_over_at_work n i can over = states.quiet over i can.exists (omega (arith, can.at_work, works_now n i can))

      module _ (n i : ℕ) (memory : w.Memory) (can : T.Can w s (T.Writes n i memory)) where
        abbrev now : n ≡ s.step
        now = works_now n i can.can

        other_lane : (l : ℕ) → w.worker l ≢ i → w.segment s.step l memory ≡ w.segment s.step l s.memory
        other_lane l ne = subst (λ (k : ℕ). w.segment k l memory ≡ w.segment k l s.memory) now (can.others l (omega (arith, ne)))

        -- a worker that is not at work is not the worker whose segments are written
        is_other : (l k : ℕ) → s.state (w.worker l) ≡ k → k ≢ 2 * s.step + 1 → w.worker l ≢ i
        is_other l k is ne e = let same = ap s.state e in ne (omega (arith, is, same, can.can.at_work, now))

        writes_kept : Holds (T.after w s (T.Writes n i memory))
        writes_kept = record {
          few = inv.few;
          past = inv.past;
          counts = counts;
          states = states;
          lanes = record {
            keeps = apart.further s.step (s.before s.step) s.memory memory lanes.keeps (subst (λ (k : ℕ). w.Keeps k s.memory memory) now can.keeps);
            free = λ l fits e. other_lane l (is_other l (2 * s.step) e (λ e. omega (arith, e))) ∙ lanes.free l fits e;
            taken = lanes.taken;
            filled = λ l fits e ok. rw (other_lane l (is_other l (2 * s.step + 2) e (λ e. omega (arith, e)))) (lanes.filled l fits e ok);
            rest = λ e. absurd (before_the_end n i can.can e);
          };
        }

      -- the end of part i keeps `Holds`, if the code is 0 only when the segments of part i are filled (`ends_kept`)
      module _ (n i code : ℕ) (can : T.CanEnd w s n i)
          (fills : code ≡ 0 → (l : ℕ) → l < w.lanes → w.worker l ≡ i → w.Fills n l s.memory (s.claimed l) (w.segment n l s.memory)) where
        abbrev ended : n ≡ s.step
        ended = works_now n i can

        at_ended : (k : ℕ) → eqb k i ≡ true → T.updated s.state i (2 * n + 2) k ≡ 2 * s.step + 2
        at_ended k e = hit s.state i (2 * n + 2) k e ∙ (omega (arith, ended))

        at_rest : (k : ℕ) → eqb k i ≡ false → T.updated s.state i (2 * n + 2) k ≡ s.state k
        at_rest k e = miss s.state i (2 * n + 2) k e

        was : (l : ℕ) → w.worker l ≡ i → s.state (w.worker l) ≡ 2 * s.step + 1
        was l e = let same = ap s.state e in omega (arith, same, can.at_work, ended)

        fills_now : (l : ℕ) → l < w.lanes → w.worker l ≡ i → code ≡ 0 → w.Fills s.step l (s.before s.step) (w.segment s.step l (s.before s.step)) (w.segment s.step l s.memory)
        fills_now l fits e ok = apart.seen s.step l (s.before s.step) s.memory _ _ lanes.keeps
            (subst (λ (x : w.Segment). w.Fills s.step l s.memory x (w.segment s.step l s.memory)) (lanes.taken l fits (was l e))
            (subst (λ (k : ℕ). w.Fills k l s.memory (s.claimed l) (w.segment k l s.memory)) ended (fills ok l fits e)))

        ends_kept : Holds (T.ends w s n i code)
        ends_kept = record {
          few = inv.few;
          past = inv.past;
          counts = counts;
          states = record {
            least = λ k exists. elim (eqb_tells k i) [
              | inl x ↦ omega (arith, at_ended k x.0)
              | inr x ↦ omega (arith, at_rest k x.0, states.least k exists)
            ];
            most = λ k exists. elim (eqb_tells k i) [
              | inl x ↦ omega (arith, at_ended k x.0)
              | inr x ↦ omega (arith, at_rest k x.0, states.most k exists)
            ];
            end = λ e. absurd (before_the_end n i can e);
            quiet = λ over. absurd (not_over_at_work n i can over);
            passed = λ over. absurd (not_over_at_work n i can over);
          };
          lanes = record {
            keeps = lanes.keeps;
            free = λ l fits e. elim (eqb_tells (w.worker l) i) [
              | inl x ↦ absurd (omega (arith, e, at_ended (w.worker l) x.0))
              | inr x ↦ lanes.free l fits (omega (arith, e, at_rest (w.worker l) x.0))
            ];
            taken = λ l fits e. elim (eqb_tells (w.worker l) i) [
              | inl x ↦ absurd (omega (arith, e, at_ended (w.worker l) x.0))
              | inr x ↦ lanes.taken l fits (omega (arith, e, at_rest (w.worker l) x.0))
            ];
            filled = λ l fits e ok. elim (eqb_tells (w.worker l) i) [
              | inl x ↦ fills_now l fits x.1 (sym (hit s.code i code (w.worker l) x.0) ∙ ok)
              | inr x ↦ lanes.filled l fits (omega (arith, e, at_rest (w.worker l) x.0)) (sym (miss s.code i code (w.worker l) x.0) ∙ ok)
            ];
            rest = lanes.rest;
          };
        }

      -- ---- the caller's thread

      module _ (can : T.CanAdvance w s) where
        at_next : T.updated s.before (suc s.step) s.memory (suc s.step) ≡ s.memory
        at_next = elim (eqb_tells (suc s.step) (suc s.step)) [
          | inl x ↦ hit s.before (suc s.step) s.memory (suc s.step) x.0
          | inr x ↦ absurd (x.1 refl)
        ]

        at_earlier : (n : ℕ) → n ≤ s.step → T.updated s.before (suc s.step) s.memory n ≡ s.before n
        at_earlier n h = elim (eqb_tells n (suc s.step)) [
          | inl x ↦ absurd (omega (arith, x.1, h))
          | inr x ↦ miss s.before (suc s.step) s.memory n x.0
        ]

        this_step : T.IsStep w s.step (s.before s.step) s.memory
        this_step = record {
          keeps = lanes.keeps;
          fills = λ l fits. let exists = apart.workers l fits in lanes.filled l fits (omega (arith, can.through (w.worker l) (omega (arith, exists)))) (omega (arith, can.ok (w.worker l) exists));
        }

        advances_kept : Holds (T.after w s T.Advances)
        advances_kept = record {
          few = omega (arith, can.more);
          past = λ n h. elim (eqb_tells n s.step) [
            | inl x ↦ subst (λ (k : ℕ). T.IsStep w k (T.updated s.before (suc s.step) s.memory k) (T.updated s.before (suc s.step) s.memory (suc k)))
                (sym x.1) (rw (at_earlier s.step (omega arith), at_next) this_step)
            | inr x ↦
                let earlier : n < s.step = omega (arith, h, x.1) in
                rw (at_earlier n (omega (arith, earlier)), at_earlier (suc n) (omega (arith, earlier))) (inv.past n earlier)
          ];
          counts = record {
            most = λ j. omega (arith, counts.most j);
            wakes = counts.wakes;
            behind = counts.behind;
          };
          states = record {
            least = λ i exists. omega (arith, can.through i exists);
            most = λ i exists. omega (arith, can.through i exists);
            end = λ e i exists. omega (arith, can.through i exists);
            quiet = λ over. absurd (let e = can.goes_on in cc);
            passed = λ over. absurd (let e = can.goes_on in cc);
          };
          lanes = record {
            keeps = rw at_next (apart.none (suc s.step) s.memory);
            free = λ l fits e. rw at_next refl;
            taken = λ l fits e. absurd (omega (arith, e, can.through (w.worker l) (apart.workers l fits)));
            filled = λ l fits e. absurd (omega (arith, e, can.through (w.worker l) (apart.workers l fits)));
            rest = λ e. sym at_next;
          };
        }

      module _ (can : T.CanStop w s) where
        stops_quiet : (i : ℕ) → i < w.tasks → s.state i ≢ 2 * s.step + 1
        stops_quiet i exists = elim can.why [
          | inl e ↦ λ h. omega (arith, states.end e i exists, h)
          | inr through ↦ λ h. omega (arith, through i exists, h)
        ]

        stops_passed : (i j : ℕ) → i < w.tasks → 2 * s.entered j ≤ s.state i
        stops_passed i j exists = elim can.why [
          | inl e ↦ omega (arith, states.end e i exists, counts.behind j, counts.wakes j, e)
          | inr through ↦ omega (arith, through i exists, counts.behind j, counts.most j)
        ]

        stops_kept : Holds (T.after w s T.Stops)
        stops_kept = record {
          few = inv.few;
          past = inv.past;
          counts = counts;
          states = record {
            least = states.least;
            most = states.most;
            end = states.end;
            quiet = λ over. stops_quiet;
            passed = λ over. stops_passed;
          };
          lanes = lanes;
        }

      kept : (m : T.Move w) → T.Can w s m → Holds (T.after w s m)
      kept (T.Wakes j) can = wakes_kept j can
      kept (T.Enters j) can = enters_kept j can
      kept (T.Claims n i) can = claims_kept n i can
      kept (T.Writes n i memory) can = writes_kept n i memory can
      kept (T.Completes n i) can = ends_kept n i 0 can.0 (λ e l fits is. can.1 l (omega (arith, fits)) is)
      kept (T.Fails n i code) can = ends_kept n i code can.0 (λ e. absurd (let error = can.1 in omega (arith, error, e)))
      kept T.Advances can = advances_kept can
      kept T.Stops can = stops_kept can

    pub holds : (s : T.Team w) → T.IsReached w s → Holds s
    holds s (T.starts u b) = holds_at_start u b
    holds t (T.moves s u m r can e) = subst Holds (sym e) (kept s (holds s r) m can)

pub every_step_is_whole : (w : T.Work) → T.IsApart w → T.EveryStepIsWhole w
every_step_is_whole w apart s r = let inv = holds w apart s r in (inv.past, λ e. inv.lanes.rest e ∙ ap s.before e)

pub nobody_works_after_the_end : (w : T.Work) → T.IsApart w → T.NobodyWorksAfterTheEnd w
nobody_works_after_the_end w apart s r over n i exists at_work =
    let inv = holds w apart s r in
    let now : n ≡ s.step = omega (arith, inv.states.least i exists, inv.states.most i exists, at_work) in
    inv.states.quiet over i exists (omega (arith, at_work, now))
