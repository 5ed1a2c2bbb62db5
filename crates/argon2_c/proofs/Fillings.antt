-- Each step of a job can fill each lane of four whole slices with the blocks of Argon2.
use Rattle.std.proofs.Common.{◌≡◌, ◌≢◌, ℕ, zero, suc, ◌+◌, ◌*◌, ◌/◌, ◌%◌, ◌<◌, ◌≤◌, List, [], ◌++◌, length, take, drop, set, get_or, Some}
use Rattle.std.proofs.Common.{refl, sym, ◌∙◌, subst, ap, inl, inr, arith}
use Rattle.std.specs.List.{remove}
use Rattle.std.proofs.Math.Nat.{mul-le-mul_right}
use Rattle.std.proofs.lemmas.Bool.{cases_lt}
use Rattle.std.proofs.lemmas.Bool.Decides.{eqb_tells}
use Rattle.std.proofs.lemmas.List.{drop_all, drop_at, get_or-set_other, get_or-set_same, length-append, length-drop, length-set, length-take, take_at}
use Rattle.std.proofs.lemmas.List.Edits.{get_or-remove_above, get_or-remove_below}
use Rattle.std.proofs.lemmas.List.FromFn.{length-map-range_with_len}
use Rattle.argon2_standard.specs.Standard.Setting.{Setting}
use Rattle.argon2_memory.specs.Views.Places.{blocks_of_lane}
use Rattle.argon2_memory.specs.Views.Segments.{segment_at, segment_block}
use Rattle.argon2_memory.proofs.Slices.{length-blocks_of_lane, remove-set}
use Rattle.argon2_fill.proofs.CallerBlocks.{others-stay}
use Rattle.argon2_c.specs.Jobs.{job_of, setting_of_job}
use Rattle.argon2_c.specs.Steps.{AreBlocks, IsPlace}
use Rattle.argon2_c.specs.Runs.{slice_at}
use Rattle.argon2_c.specs.Threads.{CanFill}
use Rattle.argon2_c.specs.Driver.{FillsSegment, KeepsSlices, segment_in_step, slice_of_step, work_of}

-- ---- a slice with other blocks in one lane

abbrev put_lane : Setting → List (List ℕ) → ℕ → List (List ℕ) → List (List ℕ)
put_lane s slice lane new =
    take (lane * s.segment_length) slice ++ (new ++ drop s.segment_length (drop (lane * s.segment_length) slice))

module _ (s : Setting) (slice : List (List ℕ)) (lane : ℕ) (new : List (List ℕ)) (long : length slice ≡ s.lanes * s.segment_length)
    (fits : lane < s.lanes) (same : length new ≡ s.segment_length) where
  abbrev place : ℕ
  place = lane * s.segment_length

  abbrev changed : List (List ℕ)
  changed = put_lane s slice lane new

  room : place + s.segment_length ≤ s.lanes * s.segment_length
  room = let next : lane + 1 ≤ s.lanes = omega arith in let m = mul-le-mul_right s.segment_length next in omega (arith, m)

  length-front : length (take place slice) ≡ place
  length-front = let t = length-take place slice in omega (arith, t, long, room)

  pub length-put_lane : length changed ≡ s.lanes * s.segment_length
  length-put_lane =
      let a = length-append (take place slice) (new ++ drop s.segment_length (drop place slice)) in
      let b = length-append new (drop s.segment_length (drop place slice)) in
      let d = length-drop s.segment_length (drop place slice) in
      let e = length-drop place slice in
      omega (arith, a, b, d, e, long, room, same, length-front)

  pub own-put_lane : blocks_of_lane s changed lane ≡ new
  own-put_lane =
      ap (λ (b : List (List ℕ)). take s.segment_length b) (drop_at (take place slice) (new ++ drop s.segment_length (drop place slice)) place length-front)
      ∙ take_at new (drop s.segment_length (drop place slice)) s.segment_length same

  -- a lane that does not exist has no blocks
  beyond : (l : ℕ) → s.lanes ≤ l → (b : List (List ℕ)) → length b ≡ s.lanes * s.segment_length → blocks_of_lane s b l ≡ take s.segment_length []
  beyond l above b all =
      let m = mul-le-mul_right s.segment_length above in
      ap (λ (x : List (List ℕ)). take s.segment_length x) (drop_all (l * s.segment_length) b (omega (arith, m, all)))

  pub others-put_lane : (l : ℕ) → l ≢ lane → blocks_of_lane s changed l ≡ blocks_of_lane s slice l
  others-put_lane l ne = elim (cases_lt l s.lanes) [
    | inl inside ↦ others-stay s slice lane long fits new same (take place slice) (drop place slice) (drop s.segment_length (drop place slice))
        place s.segment_length refl refl refl refl refl l inside ne
    | inr above ↦ beyond l above changed length-put_lane ∙ sym (beyond l above slice long)
  ]

-- ---- the memory of a job

abbrev Memory : Type 0
Memory = List (List (List ℕ))

module _ (s : Setting) where
  -- four whole slices
  pub record AreSlices (m : Memory) : Type 0 where
    pub four : length m ≡ 4
    pub long : (k : ℕ) → k < 4 → length (slice_at m k) ≡ s.lanes * s.segment_length

  -- what a step leaves in a lane
  abbrev target : ℕ → ℕ → List (List ℕ)
  target zero lane = segment_at s 0 0 lane
  target (suc n) lane = segment_at s (n / 4) (n % 4) lane

  length-target : (n lane : ℕ) → length (target n lane) ≡ s.segment_length
  length-target zero lane = length-map-range_with_len (segment_block s 0 0 lane) 0 s.segment_length
  length-target (suc n) lane = length-map-range_with_len (segment_block s (n / 4) (n % 4) lane) 0 s.segment_length

  of_four : (n : ℕ) → slice_of_step n < 4
  of_four zero = omega arith
  of_four (suc n) = omega arith

  -- a step has filled one more lane
  abbrev put : ℕ → ℕ → Memory → Memory
  put n lane m = set m (slice_of_step n) (put_lane s (slice_at m (slice_of_step n)) lane (target n lane))

  module _ (n lane : ℕ) (m : Memory) (are : AreSlices m) (fits : lane < s.lanes) where
    abbrev own : ℕ
    own = slice_of_step n

    inside : own < length m
    inside = omega (arith, of_four n, are.four)

    own_slice : slice_at (put n lane m) own ≡ put_lane s (slice_at m own) lane (target n lane)
    own_slice = get_or-set_same m own (put_lane s (slice_at m own) lane (target n lane)) [] inside

    other_slice : (k : ℕ) → k ≢ own → slice_at (put n lane m) k ≡ slice_at m k
    other_slice k ne = get_or-set_other m own k (put_lane s (slice_at m own) lane (target n lane)) [] ne

    length-own : length (slice_at (put n lane m) own) ≡ s.lanes * s.segment_length
    length-own = ap length own_slice ∙ length-put_lane s (slice_at m own) lane (target n lane) (are.long own (of_four n)) fits (length-target n lane)

    length-stays : (k : ℕ) → length (slice_at (put n lane m) k) ≡ length (slice_at m k)
    length-stays k = elim (eqb_tells k own) [
      | inl x ↦ subst (λ (i : ℕ). length (slice_at (put n lane m) i) ≡ length (slice_at m i)) (sym x.1) (length-own ∙ sym (are.long own (of_four n)))
      | inr x ↦ ap length (other_slice k x.1)
    ]

    put_keeps : KeepsSlices n m (put n lane m)
    put_keeps = record {
      others = remove-set m own (put_lane s (slice_at m own) lane (target n lane)) inside;
      four = length-set m own (put_lane s (slice_at m own) lane (target n lane));
      long = length-stays;
    }

    put_are : AreSlices (put n lane m)
    put_are = record {
      four = length-set m own (put_lane s (slice_at m own) lane (target n lane)) ∙ are.four;
      long = λ k few. length-stays k ∙ are.long k few;
    }

    put_own : blocks_of_lane s (slice_at (put n lane m) own) lane ≡ target n lane
    put_own = ap (λ (b : List (List ℕ)). blocks_of_lane s b lane) own_slice
        ∙ own-put_lane s (slice_at m own) lane (target n lane) (are.long own (of_four n)) fits (length-target n lane)

    put_others : (l : ℕ) → l ≢ lane → blocks_of_lane s (slice_at (put n lane m) own) l ≡ blocks_of_lane s (slice_at m own) l
    put_others l ne = ap (λ (b : List (List ℕ)). blocks_of_lane s b l) own_slice
        ∙ others-put_lane s (slice_at m own) lane (target n lane) (are.long own (of_four n)) fits (length-target n lane) l ne

  -- the slices beside the job's own are whole
  beside : (m : Memory) → AreSlices m → (k i : ℕ) → k < 4 → i < 3 → length (get_or (remove m k) i []) ≡ s.lanes * s.segment_length
  beside m are k i few third = elim (cases_lt i k) [
    | inl low ↦ ap length (get_or-remove_below m k [] i low (omega (arith, few, are.four))) ∙ are.long i (omega (arith, third))
    | inr high ↦ ap length (get_or-remove_above m k [] i high (omega (arith, few, are.four))) ∙ are.long (i + 1) (omega (arith, third))
  ]

  module _ (len tasks : ℕ) (is : setting_of_job (job_of s len) ≡ Some s) where
    filled : (n lane : ℕ) (m : Memory) → n < suc (4 * s.passes) → lane < s.lanes → AreSlices m → (old : List (List ℕ)) → length old ≡ s.segment_length
        → FillsSegment (job_of s len) n lane m old (target n lane)
    filled zero lane m few fits are old long = rw is (record {
      no_place = λ no. absurd (no fits);
      wrong_blocks = λ place no. absurd (no long);
      begun = λ place same. (refl, (length-target 0 lane, refl));
    })
    filled (suc n) lane m few fits are old long =
        let place : IsPlace s (n / 4) (n % 4) lane = record { pass_fits = omega (arith, few); slice_fits = omega arith; lane_fits = fits } in
        let blocks : AreBlocks s (slice_at (remove m (n % 4)) 0) (slice_at (remove m (n % 4)) 1) (slice_at (remove m (n % 4)) 2) old = record {
          first = beside m are (n % 4) 0 (omega arith) (omega arith);
          second = beside m are (n % 4) 1 (omega arith) (omega arith);
          third = beside m are (n % 4) 2 (omega arith) (omega arith);
          own = long;
        } in
        rw is (record {
          no_place = λ no. absurd (no place);
          wrong_blocks = λ there no. absurd (no blocks);
          filled = λ there same. (refl, λ hold ready. refl);
        })

    pub job_can_fill : CanFill (work_of (job_of s len) tasks) AreSlices
    job_can_fill n lane m few fits are =
        let keeps = put_keeps n lane m are fits in (
          put n lane m,
          put_are n lane m are fits,
          record {
            keeps = keeps;
            back = record { others = sym keeps.others; four = sym keeps.four; long = λ k. sym (keeps.long k) };
            others = put_others n lane m are fits;
            fills = subst (λ (new : List (List ℕ)). FillsSegment (job_of s len) n lane m (segment_in_step (job_of s len) n lane m) new)
                (sym (put_own n lane m are fits))
                (filled n lane m few fits are (segment_in_step (job_of s len) n lane m)
                (length-blocks_of_lane s (slice_at m (slice_of_step n)) lane (are.long (slice_of_step n) (of_four n)) fits));
          },
        )
