-- A run of a job's steps gives the tag, as one call for all steps does.
use Rattle.std.proofs.Common.{◌≡◌, ℕ, suc, ◌-◌, ◌*◌, ◌/◌, ◌%◌, ◌<◌, List, [], ◌∷◌, length, get_or, Some, Result, Ok, Err, refl, arith, ap, sym, inl}
use Rattle.std.proofs.Common.{inr, ◌∙◌, ◌≢◌, ◌+◌}
use Rattle.std.specs.List.{remove}
use Rattle.std.proofs.lemmas.Bool.Decides.{eqb_tells}
use Rattle.std.proofs.lemmas.List.Edits.{length-remove, get_or-remove_above, get_or-remove_below}
use Rattle.argon2_standard.specs.declared.config.Config.{Config}
use Rattle.argon2_memory.specs.Views.Jobs.{IsSetting}
use Rattle.argon2_standard.specs.Standard.Prehash.{setting_of}
use Rattle.argon2_standard.specs.Standard.Setting.{Setting, memory_blocks}
use Rattle.argon2_standard.specs.Standard.Tag.{last_blocks, tag_from, tag_of}
use Rattle.argon2_memory.specs.Views.Places.{FillsAmong, HoldsSlice, blocks_of_lane, places_of_slices}
use Rattle.argon2_memory.specs.Views.Segments.{IsReady}
use Rattle.argon2_memory.proofs.Slices.{length-blocks_of_lane}
use Rattle.argon2_fill.specs.Theorems.Lanes.{IsRunOfLanes, numbered}
use Rattle.argon2_fill.proofs.CallerBlocks.{fills_among}
use Rattle.argon2_fill.proofs.Passes.{run_agrees}
use Rattle.argon2_c.specs.Answers.{Tells}
use Rattle.argon2_c.specs.Jobs.{job_of, setting_of_job}
use Rattle.argon2_c.specs.Steps.{AreBlocks, BeginsAt, FillsAt, Finishes, FinishesAt, IsPlace, IsTagOf, Verifies, VerifiesAt}
use Rattle.argon2_c.specs.CallerBlocks.{HashesJob, JudgesJob, BlocksAndTag}
use Rattle.argon2_c.specs.Runs.{IsMade, IsRun, slice_at}
use Rattle.argon2_c.specs.declared.errors.CallError.{CallError}
use Rattle.argon2_c.specs.declared.errors.CallError.TheVariants.{Mismatch, WrongLength, WrongBlocks}
use Rattle.argon2_c.proofs.JobNumbers.{accepted_hash, recovered, setting_that_fits}
use Rattle.std.proofs.lemmas.Bool.{cases_lt}

-- ---- from the answers of the steps to the tag

-- ---- what a step did if it returned 0

-- A follows if A follows from `one ≢ other` and from `one ≡ other`
decide : {A : Type 0} (one other : ℕ) → ((one ≡ other → ⊥) → A) → (one ≡ other → A) → A
decide one other differ same = elim (eqb_tells one other) [ inl w ↦ same w.1 | inr w ↦ differ w.1 ]

begun : (s : Setting) (lane : ℕ) (old new : List (List ℕ)) → lane < s.lanes → BeginsAt s lane old new (Ok tt) → IsReady s 0 0 lane new
begun s lane old new fits h =
    decide (length old) s.segment_length (λ no. absurd (let e = (h.wrong_blocks fits no).0 in cc)) (λ one. (h.begun fits one).1)

module _ (s : Setting) (pass slice lane : ℕ) (first second third old new : List (List ℕ)) (place : IsPlace s pass slice lane)
    (h : FillsAt s pass slice lane first second third old new (Ok tt)) where
  abbrev long : ℕ
  long = s.lanes * s.segment_length

  wrong : {A : Type 0} → (AreBlocks s first second third old → ⊥) → A
  wrong other = absurd (let e = (h.wrong_blocks place other).0 in cc)

  filled : FillsAmong (record { setting = s; pass = pass; slice = slice }) lane (first ∷ second ∷ third ∷ []) old new
  filled =
      decide (length first) long (λ no. wrong (λ b. no b.first)) (λ one.
      decide (length second) long (λ no. wrong (λ b. no b.second)) (λ two.
      decide (length third) long (λ no. wrong (λ b. no b.third)) (λ three.
      decide (length old) s.segment_length (λ no. wrong (λ b. no b.own)) (λ four.
      (h.filled place (record { first = one; second = two; third = three; own = four })).1))))

finished : (s : Setting) (len : ℕ) (last : List (List ℕ)) (old new : List ℕ) → FinishesAt s len last old new (Ok tt) → IsTagOf s last len new
finished s len last old new h =
    decide (length last) (s.lanes * s.segment_length) (λ no. absurd (let e = (h.wrong_blocks no).0 in cc)) (λ one.
    decide (length old) len (λ no. absurd (let e = (h.wrong_length one no).0 in cc)) (λ two. (h.finished one two).1))

verified : (s : Setting) (len : ℕ) (last : List (List ℕ)) (hash old new : List ℕ) (answer : Result (Unit {0}) CallError)
    → (answer ≡ Err WrongBlocks → ⊥) → (answer ≡ Err WrongLength → ⊥) → VerifiesAt s len last hash old new answer
    → Tells (hash ≡ new) answer × IsTagOf s last len new
verified s len last hash old new answer blocks lengths h =
    decide (length last) (s.lanes * s.segment_length) (λ no. absurd (blocks (h.wrong_blocks no).0)) (λ one.
    decide (length hash) len (λ no. absurd (lengths (h.wrong_length one (λ both. no both.0)).0)) (λ two.
    decide (length old) len (λ no. absurd (lengths (h.wrong_length one (λ both. no both.1)).0)) (λ three. h.verified one two three)))

-- ---- the run

-- a list of length 3 consists of its elements 0, 1 and 2
three_of : (xs : List (List (List ℕ))) → length xs ≡ 3 → get_or xs 0 [] ∷ get_or xs 1 [] ∷ get_or xs 2 [] ∷ [] ≡ xs
three_of [] e = absurd (omega (arith, e))
three_of (a ∷ []) e = absurd (omega (arith, e))
three_of (a ∷ b ∷ []) e = absurd (omega (arith, e))
three_of (a ∷ b ∷ c ∷ []) e = refl
three_of (a ∷ b ∷ c ∷ d ∷ rest) e = absurd (omega (arith, e))

-- if the call for all steps returned 0, the tag that it wrote is `tag_from (last_blocks s) len`
hashed : (s : Setting) (len : ℕ) (old new : BlocksAndTag) → HashesJob (Some s) len old new (Ok tt) → new.tag ≡ tag_from (last_blocks s) len
hashed s len old new h =
    decide (length old.blocks) (memory_blocks s) (λ no. absurd (let e = (h.wrong_blocks no).0 in cc)) (λ one.
    decide (length old.tag) len (λ no. absurd (let e = (h.wrong_length one no).0 in cc)) (λ two. (h.hashed one two).1))

-- if the call for all steps that checks `hash` found all lengths right, its answer tells whether `hash` is the tag
judged : (s : Setting) (len : ℕ) (hash : List ℕ) (old new : BlocksAndTag) (answer : Result (Unit {0}) CallError)
    → (answer ≡ Err WrongBlocks → ⊥) → (answer ≡ Err WrongLength → ⊥) → JudgesJob (Some s) len hash old new answer
    → Tells (hash ≡ tag_from (last_blocks s) len) answer
judged s len hash old new answer blocks lengths h =
    decide (length old.blocks) (memory_blocks s) (λ no. absurd (blocks (h.wrong_blocks no).0)) (λ one.
    decide (length hash) len (λ no. absurd (lengths (h.wrong_length one (λ both. no both.0)).0)) (λ two.
    decide (length old.tag) len (λ no. absurd (lengths (h.wrong_length one (λ both. no both.1)).0)) (λ three. (h.judged one two three).0)))

module _ (pwd salt : List ℕ) (config : Config) (len : ℕ) where
  abbrev its : Setting
  its = setting_of pwd salt config len

  module _ (from : IsMade pwd salt config len (job_of its len)) where
    good : IsSetting its
    good = setting_that_fits pwd salt config len from.accepted from.few_passes from.little_memory

    is : setting_of_job (job_of its len) ≡ Some its
    is = recovered its len good (accepted_hash config (length pwd) (length salt) len from.accepted)

    -- ---- one call for all steps

    pub called_tag : (old new : BlocksAndTag) → HashesJob (setting_of_job (job_of its len)) len old new (Ok tt) → new.tag ≡ tag_of pwd salt config len
    unfolding tag_of
    called_tag old new h = hashed its len old new (rw is at h)

    pub called_match : (hash : List ℕ) (old new : BlocksAndTag) → JudgesJob (setting_of_job (job_of its len)) len hash old new (Ok tt)
        → hash ≡ tag_of pwd salt config len
    unfolding tag_of
    called_match hash old new h = judged its len hash old new (Ok tt) (λ e. absurd (cc)) (λ e. absurd (cc)) (rw is at h)

    pub called_mismatch : (hash : List ℕ) (old new : BlocksAndTag) → JudgesJob (setting_of_job (job_of its len)) len hash old new (Err Mismatch)
        → hash ≡ tag_of pwd salt config len → ⊥
    unfolding tag_of
    called_mismatch hash old new h = judged its len hash old new (Err Mismatch) (λ e. absurd (cc)) (λ e. absurd (cc)) (rw is at h)

    -- ---- the run

    module _ (slices : ℕ → List (List (List ℕ))) (run : IsRun (job_of its len) slices) where
      beside : (n : ℕ) → get_or (remove (slices n) (n % 4)) 0 [] ∷ get_or (remove (slices n) (n % 4)) 1 [] ∷ get_or (remove (slices n) (n % 4)) 2 [] ∷ []
          ≡ remove (slices n) (n % 4)
      beside n =
          let four = run.four n in let few : n % 4 < length (slices n) = omega (arith, four) in
          let l = length-remove (slices n) (n % 4) few in three_of (remove (slices n) (n % 4)) (omega (arith, l, four))

      run_of_lanes : IsRunOfLanes its (λ n. places_of_slices its (slices n))
      run_of_lanes = record {
        setting = good;
        long = λ k lane h fits. length-blocks_of_lane its (slice_at (slices 0) k) lane (run.long k h) fits;
        begun = λ lane fits. let step = run.begun lane fits in begun its lane step.0 _ fits (rw is at step.1);
        others = λ n k lane few ne. ap (λ (l : List (List ℕ)). blocks_of_lane its l lane) (run.others n k few ne);
        filled = λ n lane few fits.
            let place : IsPlace its (n / 4) (n % 4) lane = record { pass_fits = omega (arith, few); slice_fits = omega arith; lane_fits = fits } in
            let four = run.four n in
            fills_among (numbered its n) (slices n) (omega (arith, four)) lane
            (blocks_of_lane its (slice_at (slices n) (n % 4)) lane) (blocks_of_lane its (slice_at (slices (suc n)) (n % 4)) lane)
            (rw (beside n) at (filled its (n / 4) (n % 4) lane _ _ _ _ _ place (rw is at (run.filled n lane few fits))));
      }

      holds : HoldsSlice its (its.passes - 1) 3 (places_of_slices its (slices (4 * its.passes)) 3)
      holds = run_agrees its (λ n. places_of_slices its (slices n)) run_of_lanes 3 (omega arith)

      tag_by : (new : List ℕ) → IsTagOf its (slice_at (slices (4 * its.passes)) 3) len new → new ≡ tag_of pwd salt config len
      unfolding tag_of
      tag_by new h = h holds

      pub made_tag : (old new : List ℕ) → Finishes (setting_of_job (job_of its len)) len (slice_at (slices (4 * its.passes)) 3) old new (Ok tt)
          → new ≡ tag_of pwd salt config len
      made_tag old new h = tag_by new (finished its len _ old new (rw is at h))

      pub made_match : (hash old new : List ℕ)
          → Verifies (setting_of_job (job_of its len)) len (slice_at (slices (4 * its.passes)) 3) hash old new (Ok tt)
          → hash ≡ tag_of pwd salt config len
      made_match hash old new h =
          let v = verified its len _ hash old new (Ok tt) (λ e. absurd (cc)) (λ e. absurd (cc)) (rw is at h) in v.0 ∙ tag_by new v.1

      pub made_mismatch : (hash old new : List ℕ)
          → Verifies (setting_of_job (job_of its len)) len (slice_at (slices (4 * its.passes)) 3) hash old new (Err Mismatch)
          → hash ≡ tag_of pwd salt config len → ⊥
      made_mismatch hash old new h same =
          let v = verified its len _ hash old new (Err Mismatch) (λ e. absurd (cc)) (λ e. absurd (cc)) (rw is at h) in v.0 (same ∙ sym (tag_by new v.1))

-- if two lists are the same once the element at i is removed, their other elements are the same
pub same_at : (xs ys : List (List (List ℕ))) (i k : ℕ) → i < length xs → i < length ys → k ≢ i → remove ys i ≡ remove xs i → get_or ys k [] ≡ get_or xs k []
same_at xs ys i k in_xs in_ys ne same = elim (cases_lt k i) [
  | inl w ↦ sym (get_or-remove_below ys i [] k w in_ys) ∙ ap (λ (zs : List (List (List ℕ))). get_or zs k []) same ∙ get_or-remove_below xs i [] k w in_xs
  | inr w ↦
      let next : k - 1 + 1 ≡ k = omega (arith, w, ne) in
      let at_last = λ (zs : List (List (List ℕ))) (inside : i < length zs). get_or-remove_above zs i [] (k - 1) (omega (arith, w, ne)) inside in
      rw next at (sym (at_last ys in_ys) ∙ ap (λ (zs : List (List (List ℕ))). get_or zs (k - 1) []) same ∙ at_last xs in_xs)
]
