-- The invariant of a board's lanes.
use Rattle.std.proofs.Common.{◌≡◌, ◌≢◌, ℕ, zero, suc, ◌+◌, ◌<◌, List, [], ◌∷◌, ◌++◌, length, Some, None, refl, sym, ap, ◌∙◌, subst, arith, eq-eqb}
use Rattle.std.proofs.Common.{get_or, set, map, inl, inr, length-set, replicate, ◌*◌, ◌≤◌, Bool, true, false, rules}
use Rattle.std.proofs.lemmas.Grind.{common_steps}
use Rattle.std.specs.List.{slice_get, sum_by, position_from}
use Rattle.std.specs.Option.{option_map}
use Rattle.std.proofs.lemmas.List.{map-set, length-map}
use Rattle.std.proofs.lemmas.Option.{slice_get_within, slice_get-map, slice_get-get_or, get_or_from_slice_get}
use Rattle.std.proofs.lemmas.Bool.Decides.{eqb_tells}
use Rattle.argon2_memory.specs.Views.Jobs.{Job}
use Rattle.argon2_fill.specs.declared.workers.board.Place.{Place}
use Rattle.argon2_fill.specs.declared.workers.board.Event.{Event}
use Rattle.argon2_fill.specs.declared.workers.board.Event.TheVariants.{Take, Put}
use Rattle.argon2_fill.specs.declared.workers.board.Slot.{Slot}
use Rattle.argon2_memory.specs.Views.Segments.{IsReady, segment_at}
use Rattle.argon2_memory.specs.Standard.Kept.{SegmentValue, no_segment}
use Rattle.argon2_fill.specs.Views.Boards.{least_waiting, after_take, after_put, is_waiting, after_event, and_then, replay, AllDone, AreReady, HoldSlice, NoneOut, AreLanes, IsSlot, place_in, events_left}
use Rattle.std.proofs.lemmas.List.Sums.{fold-append, sum_by-set}
use Rattle.argon2_fill.specs.declared.workers.board.Place.TheVariants.{Waiting, Out, Done}
use Rattle.std.specs.Prelude.{◌&&◌, not}
use lib.Pointwise.{pointwise}
use lib.Dec.{eqb}
use denote.Enum.Bare.{sameb}
use Rattle.argon2_fill.specs.declared.workers.board.Place.TheVariants as place
use Rattle.argon2_fill.specs.declared.workers.board.Slot.TheVariants as slot
use Rattle.argon2_standard.specs.contracts.variant.Variant as variant
use Rattle.argon2_standard.specs.contracts.version.Version as version

-- ---- the states of lanes, and how an event changes them

-- if lane n of xs waits and no lane below n waits, the search that counts from j finds j + n
least_from : (xs : List Place) (j n : ℕ) → ((k : ℕ) → k < n → slice_get xs k ≢ Some Waiting) → slice_get xs n ≡ Some Waiting
    → position_from is_waiting j xs ≡ Some (j + n)
least_from [] j n gone here = cc
least_from (Waiting ∷ xs) j zero gone here = ap Some (omega arith)
least_from (Waiting ∷ xs) j (suc n) gone here = absurd (gone 0 (omega arith) refl)
least_from (Out ∷ xs) j zero gone here = cc
least_from (Out ∷ xs) j (suc n) gone here = least_from xs (j + 1) n (λ k below. gone (suc k) (omega arith)) here ∙ ap Some (omega arith)
least_from (Done ∷ xs) j zero gone here = cc
least_from (Done ∷ xs) j (suc n) gone here = least_from xs (j + 1) n (λ k below. gone (suc k) (omega arith)) here ∙ ap Some (omega arith)

-- if no lane waits, the search finds no lane, whatever number j the search counts from
none_from : (xs : List Place) (j : ℕ) → ((k : ℕ) → slice_get xs k ≢ Some Waiting) → position_from is_waiting j xs ≡ None
none_from [] j gone = refl
none_from (Waiting ∷ xs) j gone = absurd (gone 0 refl)
none_from (Out ∷ xs) j gone = none_from xs (j + 1) (λ k. gone (suc k))
none_from (Done ∷ xs) j gone = none_from xs (j + 1) (λ k. gone (suc k))

-- if lane n waits and no lane below n waits, the least waiting lane is n
pub least_waiting-Some : (xs : List Place) (n : ℕ) → ((k : ℕ) → k < n → slice_get xs k ≢ Some Waiting) → slice_get xs n ≡ Some Waiting
    → least_waiting xs ≡ Some n
least_waiting-Some xs n gone here = least_from xs 0 n gone here ∙ ap Some (omega arith)

-- if no lane waits, there is no least waiting lane
pub least_waiting-None : (xs : List Place) → ((k : ℕ) → slice_get xs k ≢ Some Waiting) → least_waiting xs ≡ None
least_waiting-None xs gone = none_from xs 0 gone

-- replaying a log with one more event e is replaying the log and then applying e
pub replay-more : (lanes : ℕ) (log : List Event) (e : Event) (places : List Place) → replay lanes log ≡ Some places
    → replay lanes (log ++ e ∷ []) ≡ after_event e places
replay-more lanes log e places before = fold-append and_then _ log (e ∷ []) ∙ ap (λ o. and_then o e) before

-- after x is written at index i, the element at i is x
pub slice_get-set_same : {X : Type 0} (xs : List X) (i : ℕ) (x : X) → i < length xs → slice_get (set xs i x) i ≡ Some x
slice_get-set_same [] i x within = absurd (omega arith)
slice_get-set_same (y ∷ xs) zero x within = refl
slice_get-set_same (y ∷ xs) (suc i) x within = slice_get-set_same xs i x (omega arith)

-- a write at index i does not change the element at any other index k
pub slice_get-set_other : {X : Type 0} (xs : List X) (i k : ℕ) (x : X) → k ≢ i → slice_get (set xs i x) k ≡ slice_get xs k
slice_get-set_other [] i k x other = refl
slice_get-set_other (y ∷ xs) zero zero x other = absurd (other refl)
slice_get-set_other (y ∷ xs) zero (suc k) x other = refl
slice_get-set_other (y ∷ xs) (suc i) zero x other = refl
slice_get-set_other (y ∷ xs) (suc i) (suc k) x other = slice_get-set_other xs i k x (λ same. other (ap suc same))

-- changing lane i from `old` to `new` takes `events_left old` from the sum of events left and adds `events_left new`
pub events_left-set : (xs : List Place) (i : ℕ) (old new : Place) → slice_get xs i ≡ Some old
    → sum_by events_left (set xs i new) + events_left old ≡ sum_by events_left xs + events_left new
events_left-set xs i old new here =
    rw (get_or_from_slice_get xs i old old here) at (sum_by-set events_left xs i new old (slice_get_within xs i old here))

-- if some lane waits, at least two events are left
pub left-waiting : (xs : List Place) (i : ℕ) → slice_get xs i ≡ Some Waiting → 2 ≤ sum_by events_left xs
left-waiting xs i here = let e = events_left-set xs i Waiting Done here in omega arith

-- if some lane is out, at least one event is left
pub left-out : (xs : List Place) (i : ℕ) → slice_get xs i ≡ Some Out → 1 ≤ sum_by events_left xs
left-out xs i here = let e = events_left-set xs i Out Done here in omega arith

-- ---- the slots of a board after a take and after a put

-- if slot s stands at index k, the state of lane k is `place_in s`
pub place_at : (slots : List Slot) (k : ℕ) (s : Slot) → slice_get slots k ≡ Some s → slice_get (map place_in slots) k ≡ Some (place_in s)
place_at slots k s here = slice_get-map place_in slots k ∙ ap (option_map place_in) here

-- after slot s is written at index i, the state of lane i is `place_in s`
written-same : (slots : List Slot) (i : ℕ) (s : Slot) → i < length slots → slice_get (map place_in (set slots i s)) i ≡ Some (place_in s)
written-same slots i s within = place_at (set slots i s) i s (slice_get-set_same slots i s within)

-- writing one slot leaves the state of every other lane as it was
written-other : (slots : List Slot) (i k : ℕ) (s : Slot) → k ≢ i → slice_get (map place_in (set slots i s)) k ≡ slice_get (map place_in slots) k
written-other slots i k s other =
    slice_get-map place_in (set slots i s) k
    ∙ ap (option_map place_in) (slice_get-set_other slots i k s other)
    ∙ sym (slice_get-map place_in slots k)

-- after a slot that does not wait is written at i, lane k does not wait if k is i or lane k did not wait before
still-gone : (slots : List Slot) (i k : ℕ) (s : Slot) → i < length slots → place_in s ≢ place.Waiting → (k ≢ i
    → slice_get (map place_in slots) k ≢ Some place.Waiting) → slice_get (map place_in (set slots i s)) k ≢ Some place.Waiting
still-gone slots i k s within away before waits =
    elim (eqb_tells k i) [
      | inl same ↦
          (let e : slice_get (map place_in (set slots i s)) k ≡ Some (place_in s) = rw same.1 (written-same slots i s within) in
          let f : Some (place_in s) ≡ Some place.Waiting = sym e ∙ waits in
          away (let g : place_in s ≡ place.Waiting = cc in g))
      | inr other ↦ before other.1 (sym (written-other slots i k s other.1) ∙ waits)
    ]

-- if `IsSlot` holds of all slots, and of s for lane i, then `IsSlot` holds of all slots after s is written at i
each-set : (job : Job) (slots : List Slot) (i : ℕ) (s : Slot) → i < length slots → ((k : ℕ) (t : Slot) → slice_get slots k ≡ Some t → IsSlot job k t)
    → IsSlot job i s → (k : ℕ) (t : Slot) → slice_get (set slots i s) k ≡ Some t → IsSlot job k t
each-set job slots i s within each here k t at =
    elim (eqb_tells k i) [
      | inl same ↦
          (let e : slice_get (set slots i s) k ≡ Some s = rw same.1 (slice_get-set_same slots i s within) in
          let f : s ≡ t = (let g : Some s ≡ Some t = sym e ∙ at in cc) in
          let P : Slot → Type 0 = λ u. IsSlot job k u in
          subst P f (rw same.1 here))
      | inr other ↦ each k t (sym (slice_get-set_other slots i k s other.1) ∙ at)
    ]

-- if `next` is not the number of lanes, it is below that number
pub lanes-more : {job : Job} {next : ℕ} {slots : List Slot} {log : List Event} (n : ℕ) → AreLanes job next slots log → n ≡ job.setting.lanes
    → next ≢ n → next < job.setting.lanes
lanes-more n b all other = let h = b.in_range in omega (arith, all, other)

-- if `next` is below the number of lanes, the least waiting lane is `next`
pub lanes-least : {job : Job} {next : ℕ} {slots : List Slot} {log : List Event} → AreLanes job next slots log → next < job.setting.lanes
    → least_waiting (map place_in slots) ≡ Some next
lanes-least {next} {slots} b more = least_waiting-Some (map place_in slots) next b.gone (b.waits next (omega arith) more)

-- once `next` is the number of lanes, no lane waits
pub lanes-none : {job : Job} {next : ℕ} {slots : List Slot} {log : List Event} → AreLanes job next slots log → next ≡ job.setting.lanes
    → least_waiting (map place_in slots) ≡ None
lanes-none {job} {next} {slots} b all =
    least_waiting-None (map place_in slots) (λ k waits.
    let within = slice_get_within (map place_in slots) k place.Waiting waits in
    b.gone k (omega (arith, length-map slots place_in, b.lanes)) waits)

-- the invariant of a board's lanes still holds after lane `next` is taken and `next` moves on
pub lanes-take : {job : Job} {next : ℕ} {slots : List Slot} {log : List Event} → AreLanes job next slots log → next < job.setting.lanes
    → AreLanes job (next + 1) (set slots next slot.Out) (log ++ Take next ∷ [])
lanes-take {job} {next} {slots} {log} b more =
    let within : next < length slots = omega (arith, b.lanes) in
    record {
      lanes = length-set slots next slot.Out ∙ b.lanes;
      in_range = omega arith;
      gone = λ k below. still-gone slots next k slot.Out within (λ same. cc) (λ other. b.gone k (omega arith));
      waits = λ k above lane.
          let other : k ≢ next = omega arith in
          written-other slots next k slot.Out other ∙ b.waits k (omega arith) lane;
      replays =
          replay-more job.setting.lanes log (Take next) (map place_in slots) b.replays
          ∙ ap (λ o. after_take o next (map place_in slots)) (lanes-least b more)
          ∙ rw (eq-eqb next next refl) (ap Some (sym (map-set place_in slots next slot.Out)));
      each = each-set job slots next slot.Out within b.each tt;
    }

-- the invariant of a board's lanes still holds after a lane that is out is put back filled
pub lanes-put : {job : Job} {next : ℕ} {slots : List Slot} {log : List Event} (lane : ℕ) (s : SegmentValue) → AreLanes job next slots log
    → slice_get slots lane ≡ Some slot.Out → s.blocks ≡ segment_at job.setting job.pass job.slice lane
    → AreLanes job next (set slots lane (slot.Done s)) (log ++ Put lane ∷ [])
lanes-put {job} {next} {slots} {log} lane s b out words =
    let within : lane < length slots = slice_get_within slots lane slot.Out out in
    let is_out : slice_get (map place_in slots) lane ≡ Some place.Out = place_at slots lane slot.Out out in
    record {
      lanes = length-set slots lane (slot.Done s) ∙ b.lanes;
      in_range = b.in_range;
      gone = λ k below. still-gone slots lane k (slot.Done s) within (λ same. cc) (λ other. b.gone k below);
      waits = λ k above in_range.
          let waiting = b.waits k above in_range in
          let other : k ≢ lane = λ same. (let e : slice_get (map place_in slots) k ≡ Some place.Out = rw same is_out in cc) in
          written-other slots lane k (slot.Done s) other ∙ waiting;
      replays =
          replay-more job.setting.lanes log (Put lane) (map place_in slots) b.replays
          ∙ ap (λ o. after_put o lane (map place_in slots)) is_out
          ∙ ap Some (sym (map-set place_in slots lane (slot.Done s)));
      each = each-set job slots lane (slot.Done s) within b.each words;
    }

-- if `next` is below the number of lanes, the slot t read at `next` waits, and `IsSlot` holds of t
pub lanes-waiting : {job : Job} {next : ℕ} {slots : List Slot} {log : List Event} (t : Slot) → AreLanes job next slots log → next < job.setting.lanes
    → t ≡ get_or slots next t → (place_in t ≡ place.Waiting) × IsSlot job next t
lanes-waiting {job} {next} {slots} t b more read =
    let within : next < length slots = omega (arith, b.lanes) in
    let here : slice_get slots next ≡ Some t = slice_get-get_or slots next t within ∙ ap Some (sym read) in
    let e : Some (place_in t) ≡ Some place.Waiting = sym (place_at slots next t here) ∙ b.waits next (omega arith) more in
    (cc, b.each next t here)

-- a write of slot s over state p takes `events_left p` from the sum and adds `events_left (place_in s)`
pub left-set : (slots : List Slot) (i : ℕ) (p : Place) (s : Slot) → slice_get (map place_in slots) i ≡ Some p
    → sum_by events_left (map place_in (set slots i s)) + events_left p ≡ sum_by events_left (map place_in slots) + events_left (place_in s)
left-set slots i p s here = rw map-set (events_left-set (map place_in slots) i p (place_in s) here)

-- if the slot that was read at `lane` is `Slot.Out`, the board's slot of that lane is `Slot.Out`
pub read-out : {job : Job} {next : ℕ} {slots : List Slot} {log : List Event} (own : Job) (lane : ℕ) (t : Slot) → AreLanes job next slots log
    → own ≡ job → lane < own.setting.lanes → t ≡ get_or slots lane t → t ≡ slot.Out → slice_get slots lane ≡ Some slot.Out
read-out {slots} own lane t b same fits read is =
    let p = ap (λ (j : Job). j.setting.lanes) same in
    slice_get-get_or slots lane t (omega (arith, p, fits, b.lanes)) ∙ ap Some (sym read ∙ is)

-- a slot whose state is out is `Slot.Out`
slot-out : (t : Slot) → place_in t ≡ place.Out → t ≡ slot.Out
slot-out (slot.Waiting s) is = absurd (cc)
slot-out slot.Out is = refl
slot-out (slot.Done s) is = absurd (cc)

-- if the state of `lane` is out, the slot that was read at `lane` is `Slot.Out`
pub out-read : {job : Job} {next : ℕ} {slots : List Slot} {log : List Event} (own : Job) (lane : ℕ) (t : Slot) → AreLanes job next slots log
    → own ≡ job → lane < own.setting.lanes → t ≡ get_or slots lane t → slice_get (map place_in slots) lane ≡ Some place.Out → t ≡ slot.Out
out-read {slots} own lane t b same fits read out =
    let p = ap (λ (j : Job). j.setting.lanes) same in
    let here : slice_get slots lane ≡ Some t = slice_get-get_or slots lane t (omega (arith, p, fits, b.lanes)) ∙ ap Some (sym read) in
    let e : Some (place_in t) ≡ Some place.Out = sym (place_at slots lane t here) ∙ out in
    slot-out t (let f : place_in t ≡ place.Out = cc in f)

-- a list has an element at each index below its length
slice_get_there : (xs : List SegmentValue) (k : ℕ) → k < length xs → (x : SegmentValue) × (slice_get xs k ≡ Some x)
slice_get_there xs k within = (get_or xs k no_segment, slice_get-get_or xs k no_segment within)

-- in `front ++ x ∷ rest`, the element at index `length front` is x
pub slice_get-middle : {X : Type 0} (front : List X) (x : X) (rest : List X) → slice_get (front ++ x ∷ rest) (length front) ≡ Some x
slice_get-middle [] x rest = refl
slice_get-middle (y ∷ front) x rest = slice_get-middle front x rest

-- if the slot s that follows the done slots of xs is not done, not all lanes are done
pub not-all-done : (xs : List SegmentValue) (s : Slot) (rest slots : List Slot) → map slot.Done xs ++ s ∷ rest ≡ slots → place_in s ≢ place.Done
    → AllDone (map place_in slots) → ⊥
not-all-done xs s rest slots is other all =
    let front = map slot.Done xs in
    let here : slice_get slots (length front) ≡ Some s = rw (← is) (slice_get-middle front s rest) in
    let within = slice_get_within slots (length front) s here in
    let e : Some (place_in s) ≡ Some place.Done = sym (place_at slots (length front) s here) ∙ all (length front) (omega (arith, length-map slots place_in)) in
    other (let f : place_in s ≡ place.Done = cc in f)

-- if the slots are the segments xs as done slots, slot k is done and holds element k of xs
there-done : (xs : List SegmentValue) (slots : List Slot) → map slot.Done xs ≡ slots → (k : ℕ) → k < length xs
    → (h : SegmentValue) × (slice_get xs k ≡ Some h) × (slice_get slots k ≡ Some (slot.Done h))
there-done xs slots is k within =
    let (h, at) = slice_get_there xs k within in
    (h, at, ap (λ l. slice_get l k) (sym is) ∙ slice_get-map (λ s. slot.Done s) xs k ∙ ap (option_map (λ s. slot.Done s)) at)

-- if the slots are the segments xs as done slots, all lanes are done
pub all-done : (xs : List SegmentValue) (slots : List Slot) → map slot.Done xs ≡ slots → AllDone (map place_in slots)
all-done xs slots is k within =
    let t = there-done xs slots is k (omega (arith, length-map slots place_in, length-map xs (λ s. slot.Done s), ap length is)) in
    place_at slots k (slot.Done t.0) t.2

-- if the slots are the segments xs as done slots, xs hold the blocks of the job's slice
pub hold-slice : {job : Job} {next : ℕ} {slots : List Slot} {log : List Event} (xs : List SegmentValue) → AreLanes job next slots log
    → map slot.Done xs ≡ slots → HoldSlice job xs
hold-slice {job} {slots} xs b is = record {
  lanes = omega (arith, length-map xs (λ s. slot.Done s), ap length is, b.lanes);
  each = λ k within.
      let t = there-done xs slots is k (omega (arith, length-map xs (λ s. slot.Done s), ap length is, b.lanes)) in
      ap (λ (s : SegmentValue). s.blocks) (get_or_from_slice_get xs k t.0 no_segment t.1) ∙ b.each k (slot.Done t.0) t.2;
}

-- the states of n slots that hold waiting segments are n times `Waiting`
pub waiting-all : (n : ℕ) (segments : List SegmentValue) → length segments ≡ n → map place_in (map slot.Waiting segments) ≡ replicate n place.Waiting
waiting-all zero [] lanes = refl
waiting-all zero (h ∷ segments) lanes = absurd (omega arith)
waiting-all (suc n) [] lanes = absurd (omega arith)
waiting-all (suc n) (h ∷ segments) lanes = ap (λ ps. place.Waiting ∷ ps) (waiting-all n segments (omega arith))

-- if n lanes wait, 2 * n events are left
pub waiting-left : (n : ℕ) → sum_by events_left (replicate n place.Waiting) ≡ 2 * n
waiting-left n = grind (arith, common_steps)

-- a new board, whose slots are ready segments that wait, with an empty log meets the invariant for `next` = 0
pub lanes-new : (job : Job) (segments : List SegmentValue) (slots : List Slot) → slots ≡ map slot.Waiting segments → AreReady job segments
    → AreLanes job 0 slots []
lanes-new job segments slots is ready =
    let long : length slots ≡ job.setting.lanes = ap length is ∙ length-map segments (λ s. slot.Waiting s) ∙ ready.lanes in
    let at : (k : ℕ) (h : SegmentValue) → slice_get segments k ≡ Some h → slice_get slots k ≡ Some (slot.Waiting h) =
    λ k h here. rw is (slice_get-map (λ s. slot.Waiting s) segments k ∙ ap (option_map (λ s. slot.Waiting s)) here) in
    record {
      lanes = long;
      in_range = omega arith;
      gone = λ k below. absurd (omega arith);
      waits = λ k above within.
          let (h, here) = slice_get_there segments k (omega (arith, ready.lanes)) in
          place_at slots k (slot.Waiting h) (at k h here);
      replays = ap Some (rw is (sym (waiting-all job.setting.lanes segments ready.lanes)));
      each = λ k t here.
          let within = slice_get_within slots k t here in
          let (h, there) = slice_get_there segments k (omega (arith, ready.lanes)) in
          let e : Some t ≡ Some (slot.Waiting h) = sym here ∙ at k h there in
          let f : slot.Waiting h ≡ t = cc in
          let P : Slot → Type 0 = λ u. IsSlot job k u in
          let own : IsReady job.setting job.pass job.slice k (get_or segments k no_segment).blocks = ready.each k (omega arith) in
          subst P f (rw (get_or_from_slice_get segments k h no_segment there) at own);
    }

-- if all lanes wait, none is out
pub none_out-waiting : (n : ℕ) → NoneOut (replicate n place.Waiting)
none_out-waiting zero lane e = grind arith
none_out-waiting (suc n) zero e = grind arith
none_out-waiting (suc n) (suc lane) e = none_out-waiting n lane e

-- ---- the derived `!=` of jobs says whether two jobs differ

-- the test that the derived `==` of jobs makes, field by field
abbrev pub same_job : Job → Job → Bool
same_job a b =
    pointwise eqb a.setting.prehash b.setting.prehash && (sameb variant.the_type a.setting.variant b.setting.variant
    && (sameb version.the_type a.setting.version b.setting.version && (eqb a.setting.lanes b.setting.lanes
    && (eqb a.setting.segment_length b.setting.segment_length && (eqb a.setting.passes b.setting.passes
    && (eqb a.pass b.pass && eqb a.slice b.slice))))))

-- jobs for which `!=` does not hold are equal
pub no_other_job : (a b : Job) → false ≡ not (same_job a b) → a ≡ b
no_other_job a b e = search rules

-- jobs for which `!=` holds are not equal
pub other_job : (a b : Job) → true ≡ not (same_job a b) → a ≡ b → ⊥
other_job a b e same = search rules
