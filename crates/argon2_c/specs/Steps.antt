-- What the steps of a hash over caller-provided blocks return. The C driver calls them if it has threads or a
-- callback. A step checks all numbers that it is given; on an error nothing is written.
use Rattle.std.specs.Prelude.{◌≡◌, ℕ, suc, ◌-◌, ◌*◌, ◌<◌, List, [], ◌∷◌, length, take, drop, Option, Some, None, Result, Ok, Err}
use Rattle.argon2_standard.specs.Standard.Setting.{Setting}
use Rattle.argon2_standard.specs.Standard.Tag.{last_blocks, tag_from}
use Rattle.argon2_memory.specs.Views.Places.{FillsAmong, HoldsSlice, blocks_of_lane}
use Rattle.argon2_memory.specs.Views.Segments.{IsReady}
use Rattle.argon2_c.specs.Answers.{Tells}
use Rattle.argon2_c.specs.declared.errors.CallError.{CallError}
use Rattle.argon2_c.specs.declared.errors.CallError.TheVariants.{WrongLength, NoJob, NoPlace, WrongBlocks}

-- ---- filling

-- a lane's segment of a slice in a pass
pub record IsPlace (s : Setting) (pass slice lane : ℕ) : Type 0 where
  pub pass_fits : pass < s.passes
  pub slice_fits : slice < 4
  pub lane_fits : lane < s.lanes

-- a slice has the segments of all lanes
abbrev pub IsSlice : Setting → List (List ℕ) → Type 0
IsSlice s blocks = length blocks ≡ s.lanes * s.segment_length

-- three slices, and a segment
pub record AreBlocks (s : Setting) (one two three segment : List (List ℕ)) : Type 0 where
  pub first : IsSlice s one
  pub second : IsSlice s two
  pub third : IsSlice s three
  pub own : length segment ≡ s.segment_length

-- the first two blocks of a lane, written to its segment of slice 0
pub record BeginsAt (s : Setting) (lane : ℕ) (old new : List (List ℕ)) (answer : Result (Unit {0}) CallError) : Type 0 where
  pub no_place : (lane < s.lanes → ⊥) → (answer ≡ Err NoPlace) × (new ≡ old)
  pub wrong_blocks : lane < s.lanes → (length old ≡ s.segment_length → ⊥) → (answer ≡ Err WrongBlocks) × (new ≡ old)
  pub begun : lane < s.lanes → length old ≡ s.segment_length → (answer ≡ Ok tt) × IsReady s 0 0 lane new

abbrev pub Begins : Option Setting → ℕ → List (List ℕ) → List (List ℕ) → Result (Unit {0}) CallError → Type 0
Begins None lane old new answer = (answer ≡ Err NoJob) × (new ≡ old)
Begins (Some s) lane old new answer = BeginsAt s lane old new answer

-- a lane's segment of a slice, filled in a pass from the other three slices in rising order
pub record FillsAt (s : Setting) (pass slice lane : ℕ) (first second third old new : List (List ℕ)) (answer : Result (Unit {0}) CallError) : Type 0 where
  pub no_place : (IsPlace s pass slice lane → ⊥) → (answer ≡ Err NoPlace) × (new ≡ old)
  pub wrong_blocks : IsPlace s pass slice lane → (AreBlocks s first second third old → ⊥) → (answer ≡ Err WrongBlocks) × (new ≡ old)
  pub filled : IsPlace s pass slice lane → AreBlocks s first second third old → (answer ≡ Ok tt)
      × FillsAmong (record { setting = s; pass = pass; slice = slice }) lane (first ∷ second ∷ third ∷ []) old new

abbrev pub Fills : Option Setting → ℕ → ℕ → ℕ → List (List ℕ) → List (List ℕ) → List (List ℕ) → List (List ℕ) → List (List ℕ)
    → Result (Unit {0}) CallError → Type 0
Fills None pass slice lane first second third old new answer = (answer ≡ Err NoJob) × (new ≡ old)
Fills (Some s) pass slice lane first second third old new answer = FillsAt s pass slice lane first second third old new answer

-- the segments of a lane and of the next one, one behind the other
pub record AreTwo (s : Setting) (lane : ℕ) (segments : List (List ℕ)) : Type 0 where
  pub next_fits : suc lane < s.lanes
  pub long : length segments ≡ 2 * s.segment_length

-- a call for one segment fills it; a call for two fills each of them, with one result for both
pub record FillsLanesAt (s : Setting) (pass slice lane : ℕ) (first second third old new : List (List ℕ)) (answer : Result (Unit {0}) CallError) : Type 0 where
  pub one : (AreTwo s lane old → ⊥) → FillsAt s pass slice lane first second third old new answer
  pub two : AreTwo s lane old
      → FillsAt s pass slice lane first second third (take s.segment_length old) (take s.segment_length new) answer
      × FillsAt s pass slice (suc lane) first second third (drop s.segment_length old) (drop s.segment_length new) answer

abbrev pub FillsLanes : Option Setting → ℕ → ℕ → ℕ → List (List ℕ) → List (List ℕ) → List (List ℕ) → List (List ℕ) → List (List ℕ)
    → Result (Unit {0}) CallError → Type 0
FillsLanes None pass slice lane first second third old new answer = (answer ≡ Err NoJob) × (new ≡ old)
FillsLanes (Some s) pass slice lane first second third old new answer = FillsLanesAt s pass slice lane first second third old new answer

-- ---- the end

-- the tag, where slice 3 holds the blocks of the last pass
abbrev pub IsTagOf : Setting → List (List ℕ) → ℕ → List ℕ → Type 0
IsTagOf s last len tag = HoldsSlice s (s.passes - 1) 3 (blocks_of_lane s last) → tag ≡ tag_from (last_blocks s) len

-- the tag, in a buffer of just its length
pub record FinishesAt (s : Setting) (len : ℕ) (last : List (List ℕ)) (old new : List ℕ) (answer : Result (Unit {0}) CallError) : Type 0 where
  pub wrong_blocks : (IsSlice s last → ⊥) → (answer ≡ Err WrongBlocks) × (new ≡ old)
  pub wrong_length : IsSlice s last → (length old ≡ len → ⊥) → (answer ≡ Err WrongLength) × (new ≡ old)
  pub finished : IsSlice s last → length old ≡ len → (answer ≡ Ok tt) × IsTagOf s last len new

abbrev pub Finishes : Option Setting → ℕ → List (List ℕ) → List ℕ → List ℕ → Result (Unit {0}) CallError → Type 0
Finishes None len last old new answer = (answer ≡ Err NoJob) × (new ≡ old)
Finishes (Some s) len last old new answer = FinishesAt s len last old new answer

-- whether a hash is the tag, which is then in the buffer
pub record VerifiesAt (s : Setting) (len : ℕ) (last : List (List ℕ)) (hash old new : List ℕ) (answer : Result (Unit {0}) CallError) : Type 0 where
  pub wrong_blocks : (IsSlice s last → ⊥) → (answer ≡ Err WrongBlocks) × (new ≡ old)
  pub wrong_length : IsSlice s last → ((length hash ≡ len) × (length old ≡ len) → ⊥) → (answer ≡ Err WrongLength) × (new ≡ old)
  pub verified : IsSlice s last → length hash ≡ len → length old ≡ len → Tells (hash ≡ new) answer × IsTagOf s last len new

abbrev pub Verifies : Option Setting → ℕ → List (List ℕ) → List ℕ → List ℕ → List ℕ → Result (Unit {0}) CallError → Type 0
Verifies None len last hash old new answer = (answer ≡ Err NoJob) × (new ≡ old)
Verifies (Some s) len last hash old new answer = VerifiesAt s len last hash old new answer
