-- The blocks that an entry of a schedule reads.
use Rattle.std.proofs.Common.{◌≡◌, ℕ, ◌+◌, ◌*◌, ◌<◌, ◌≤◌, ◌⊎◌, refl, inl, inr, ◌≢◌, ◌/◌, ◌%◌, List, [], ◌∷◌, ◌++◌, arith, cond, sym, ◌∙◌, ap}
use Rattle.argon2_standard.specs.Standard.Setting.{Setting, Position, slice_of}
use Rattle.argon2_memory.specs.Views.Jobs.{IsSetting, IsPosition}
use Rattle.argon2_standard.specs.Standard.Reference.{reference_set, pick, previous}
use Rattle.argon2_standard.specs.Standard.Recurrence.{address_word, block_at}
use Rattle.argon2_memory.specs.Views.References.{positions_in, reference_positions_of}
use Rattle.argon2_memory.proofs.Recurrences.{pick-readable}
use Rattle.std.specs.Prelude.{◌==◌}
use Rattle.std.specs.List.{AllByRecursion, count_by}
use Rattle.std.proofs.lemmas.List.Sums.{sum_by-cons}
use Rattle.std.proofs.lemmas.Bool.Decides.{eqb_tells}
use Rattle.argon2_memory.specs.Theorems.Schedule.{Matrix, Progress, IsSchedule, IsWrittenIn, after_slices, blocks_in_slice, pick_from, reads_from, word_from}
use Rattle.argon2_memory.specs.Theorems.AnyOrder.{IsRun, IsEntry, progress_before, entry_position, NoEntryReadsOthers, PicksHoldTheirBlocks}
use Rattle.argon2_memory.proofs.AnyOrder.{Stands, run-stands, count_room, read_pick, here, later, same_slice, after-stands}

-- ---- the references of an independent segment depend on neither prehash nor version, and no write
-- in a slice changes a block that a write of another lane reads

-- a setting's reference positions depend only on its variant, lanes, segment length and passes
pub reference_positions_of-setting : (s : Setting) (pass slice lane : ℕ) →
    reference_positions_of s.variant s.lanes s.segment_length s.passes pass slice lane ≡ positions_in s pass slice lane
unfolding pick reference_set address_word
reference_positions_of-setting s pass slice lane = refl

-- a place that a word picks in another lane is outside the slice of the block that is written
pub no_shared_read : (s : Setting) (word : ℕ) (at : Position) → IsSetting s → IsPosition s at → (0 < at.pass ⊎ 1 < at.column) →
    ((pick s word at).lane ≡ at.lane → ⊥) →
    ((pick s word at).column < slice_of s at.column * s.segment_length) ⊎ ((slice_of s at.column + 1) * s.segment_length ≤ (pick s word at).column)
no_shared_read s word at good here later other = elim (pick-readable s word at good here later) [
  | inl w ↦ inr w.1
  | inr v ↦ elim v [ inl w ↦ inl w.1 | inr w ↦ absurd (other w.1) ]
]

-- ---- the blocks that one entry of a run reads

-- if P is true of all elements of `xs ++ x ∷ ys`, then P is true of x
all-behind : (P : ℕ → Type 0) (xs : List ℕ) (x : ℕ) (ys : List ℕ) → AllByRecursion P (xs ++ x ∷ ys) → P x
all-behind P [] x ys h = h.0
all-behind P (z ∷ zs) x ys h = all-behind P zs x ys h.1

module _ (s : Setting) (order : ℕ → List ℕ) (matrix : Matrix) (run : IsRun s order matrix) (n : ℕ) (before : List ℕ) (lane : ℕ) (after : List ℕ)
    (entry : IsEntry s order n before lane after) where
  abbrev p : Progress
  p = progress_before s order matrix n before

  abbrev at : Position
  at = entry_position s n p lane

  plan : IsSchedule s (n / 4) (n % 4) (before ++ lane ∷ after)
  plan = rw entry.stands at (run.schedules n entry.slice_fits)

  so_far : Stands s (n / 4) (n % 4) p.matrix p.done
      × ((l : ℕ) → l < s.lanes → p.done l + count_by (λ x. x == l) (lane ∷ after) ≡ blocks_in_slice s (n / 4) (n % 4))
  so_far = run-stands s run.setting (n / 4) (n % 4) (omega arith) before (lane ∷ after) (record { matrix = after_slices s order n matrix; done = λ l. 0 })
      (after-stands s run.setting order run.schedules matrix run.begun n (let h = entry.slice_fits in omega (arith, h)))
      plan.lanes_fit (λ l fits. let often = plan.each_often l fits in omega (arith, often))

  lane_fits : lane < s.lanes
  lane_fits = all-behind (λ l. l < s.lanes) before lane after plan.lanes_fit

  bounded : (l : ℕ) → l < s.lanes → p.done l ≤ blocks_in_slice s (n / 4) (n % 4)
  bounded l fits = let k = so_far.1 l fits in omega (arith, k)

  room : p.done lane < blocks_in_slice s (n / 4) (n % 4)
  room = count_room lane (p.done lane) (count_by (λ x. x == lane) after) (blocks_in_slice s (n / 4) (n % 4))
      (sym (ap (λ k. p.done lane + k) (sum_by-cons (λ x. cond (x == lane) 1 0) lane after)) ∙ so_far.1 lane lane_fits)

  few : n % 4 < 4
  few = omega arith

  pub pick_holds : p.matrix (pick_from s p.matrix at).lane (pick_from s p.matrix at).column ≡ block_at s (pick_from s p.matrix at)
  pick_holds = read_pick s run.setting (n / 4) (n % 4) few p.matrix p.done so_far.0 bounded lane lane_fits room (word_from s p.matrix at)

  pick_apart : (pick_from s p.matrix at).lane ≢ lane → IsWrittenIn s (n / 4) (n % 4) (pick_from s p.matrix at).column → ⊥
  pick_apart other w =
      let same = same_slice s run.setting (n / 4) (n % 4) few p.matrix p.done so_far.0 bounded lane lane_fits room in
      let start : slice_of s at.column * s.segment_length ≡ n % 4 * s.segment_length = ap (λ k. k * s.segment_length) same in
      elim (no_shared_read s (word_from s p.matrix at) at run.setting
      (here s run.setting (n / 4) (n % 4) few p.matrix p.done so_far.0 bounded lane lane_fits room)
      (later s run.setting (n / 4) (n % 4) few p.matrix p.done so_far.0 bounded lane lane_fits room) other) [
        | inl below ↦ omega (arith, below, start, w.0)
        | inr above ↦ omega (arith, above, start, w.1)
      ]

  before-lane : (previous s at).lane ≡ lane
  before-lane = elim (eqb_tells at.column 0) [ inl w ↦ rw w.0 refl | inr w ↦ rw w.0 refl ]

  pub reads_apart : AllByRecursion (λ (l, c). l ≢ lane → IsWrittenIn s (n / 4) (n % 4) c → ⊥) (reads_from s p.matrix at)
  reads_apart = ((λ other w. other before-lane), (pick_apart, ((λ other w. other refl), tt)))

-- the block that an entry of a run reads at its pick is the recurrence's block of that place
pub picks_hold : PicksHoldTheirBlocks
picks_hold s order matrix run n before lane after entry = pick_holds s order matrix run n before lane after entry

-- no entry of a run reads a place that another lane writes in the same slice
pub no_entry_reads_others : NoEntryReadsOthers
no_entry_reads_others s order matrix run n before lane after entry = reads_apart s order matrix run n before lane after entry
