-- The board of a slice: its slots, its events, and the workers that may start.
use Rattle.std.specs.Prelude.{◌≡◌, ◌≢◌, ℕ, zero, suc, ◌<◌, List, Some, length, slice_get, ◌==◌, Bool, true, false, Option, None, fold, replicate}
use Rattle.std.specs.Prelude.{slice_set, if◌then◌else◌, ◌+◌, ◌≤◌, map, sum_by, vec_len, vec_capacity, []}
use Rattle.std.specs.Coded.{Coded-set, coded_list, coded_ℕ, ×_prop}
use Rattle.argon2_fill.specs.declared.workers.board.Place.{Place}
use Rattle.argon2_fill.specs.declared.workers.board.Place.TheVariants.{Done, Out, Waiting}
use Rattle.argon2_fill.specs.declared.workers.board.Event.{Event}
use Rattle.argon2_standard.specs.Standard.Setting.{Setting}
use Rattle.argon2_memory.specs.Views.Jobs.{Job}
use Rattle.argon2_memory.specs.Views.Places.{HoldsSlice, IsReadySlice, lanes_in}
use Rattle.argon2_memory.specs.Views.Segments.{IsReady, segment_at}
use Rattle.argon2_memory.specs.Standard.Kept.{SegmentValue}
use Rattle.std.specs.List.{position_from}
use Rattle.argon2_fill.specs.declared.workers.board.Event.TheVariants.{Take, Put}
use Rattle.argon2_fill.specs.declared.workers.board.Slot.{Slot}
use Rattle.argon2_fill.specs.declared.workers.board.Board.TheInside.{Inside}
use Rattle.argon2_fill.specs.declared.workers.board.Place.TheVariants as place
use Rattle.argon2_fill.specs.declared.workers.board.Slot.TheVariants as slot

-- ---- what a contract sees of a board, and what its segments hold

-- the job, the state of each lane, and the events so far
pub record BoardValue : Type 0 where
  pub job : Job
  pub places : List Place
  pub log : List Event

-- a segment for each lane, in order, as a fill of the job needs it
pub record AreReady (job : Job) (segments : List SegmentValue) : Type 0 where
  pub lanes : length segments ≡ job.setting.lanes
  pub each : IsReadySlice job.setting job.pass job.slice (lanes_in segments)

-- a segment for each lane, in order, with the blocks of the job's pass
pub record HoldSlice (job : Job) (segments : List SegmentValue) : Type 0 where
  pub lanes : length segments ≡ job.setting.lanes
  pub each : HoldsSlice job.setting job.pass job.slice (lanes_in segments)

-- every lane is done
abbrev pub AllDone : List Place → Type 0
AllDone places = (lane : ℕ) → lane < length places → slice_get places lane ≡ Some Done

-- no lane is out
abbrev pub NoneOut : List Place → Type 0
NoneOut places = (lane : ℕ) → slice_get places lane ≢ Some Out

-- there is one proof at most that a segment is ready
pub IsReady-prop : (s : Setting) (pass slice lane : ℕ) (blocks : List (List ℕ)) → IsProp (IsReady s pass slice lane blocks)
IsReady-prop s zero zero lane blocks = ×_prop (Coded-set coded_ℕ _ _) (Coded-set (coded_list (coded_list coded_ℕ)) _ _)
IsReady-prop s zero (suc slice) lane blocks = Coded-set coded_ℕ _ _
IsReady-prop s (suc last) slice lane blocks = Coded-set (coded_list (coded_list coded_ℕ)) _ _

-- ---- the states of a slice's lanes, as the events of a board leave them

abbrev pub is_waiting : Place → Bool
is_waiting Waiting = true
is_waiting Out = false
is_waiting Done = false

-- the least lane that waits
abbrev pub least_waiting : List Place → Option ℕ
least_waiting places = position_from is_waiting 0 places

-- a take is legal if its lane is the least that waits; the lane is then out
abbrev pub after_take : Option ℕ → ℕ → List Place → Option (List Place)
after_take None lane places = None
after_take (Some least) lane places = if least == lane then Some (slice_set places lane Out) else None

-- a put is legal if its lane is out; the lane is then done
abbrev pub after_put : Option Place → ℕ → List Place → Option (List Place)
after_put (Some Out) lane places = Some (slice_set places lane Done)
after_put (Some Waiting) lane places = None
after_put (Some Done) lane places = None
after_put None lane places = None

abbrev pub after_event : Event → List Place → Option (List Place)
after_event (Take lane) places = after_take (least_waiting places) lane places
after_event (Put lane) places = after_put (slice_get places lane) lane places

abbrev pub and_then : Option (List Place) → Event → Option (List Place)
and_then None event = None
and_then (Some places) event = after_event event places

-- the states of the lanes after the events, if these are legal. At first every lane waits
abbrev pub replay : ℕ → List Event → Option (List Place)
replay lanes events = fold and_then (Some (replicate lanes Waiting)) events

-- ---- the invariant of a board's lanes

-- the state of the lane of a slot
abbrev pub place_in : Slot → Place
place_in (slot.Waiting segment) = place.Waiting
place_in slot.Out = place.Out
place_in (slot.Done segment) = place.Done

abbrev pub board_of : Inside → BoardValue
board_of b = record { job = b.job; places = map place_in b.slots.items; log = b.log.items }

-- the segment of a waiting lane is ready to be filled, and that of a done lane holds its blocks
abbrev pub IsSlot : Job → ℕ → Slot → Type 0
IsSlot job lane (slot.Waiting segment) = IsReady job.setting job.pass job.slice lane segment.blocks
IsSlot job lane slot.Out = Unit {0}
IsSlot job lane (slot.Done segment) = segment.blocks ≡ segment_at job.setting job.pass job.slice lane

-- a slot for each lane; the lanes from `next` on wait, and the states are the replay of the log
pub record AreLanes (job : Job) (next : ℕ) (slots : List Slot) (log : List Event) : Type 0 where
  pub lanes : length slots ≡ job.setting.lanes
  pub in_range : next ≤ job.setting.lanes
  pub gone : (k : ℕ) → k < next → slice_get (map place_in slots) k ≢ Some place.Waiting
  pub waits : (k : ℕ) → next ≤ k → k < job.setting.lanes → slice_get (map place_in slots) k ≡ Some place.Waiting
  pub replays : replay job.setting.lanes log ≡ Some (map place_in slots)
  pub each : (k : ℕ) (s : Slot) → slice_get slots k ≡ Some s → IsSlot job k s

-- how many events of a lane are still to come
abbrev pub events_left : Place → ℕ
events_left place.Waiting = 2
events_left place.Out = 1
events_left place.Done = 0

-- a board: its lanes, with capacity for the remaining events and for the finished slice
pub record IsBoard (b : Inside) : Type 0 where
  pub kept : AreLanes b.job b.next b.slots.items b.log.items
  pub log_room : vec_len b.log + sum_by events_left (map place_in b.slots.items) ≤ vec_capacity b.log
  pub finished_room : b.job.setting.lanes ≤ vec_capacity b.finished
  pub finished_empty : b.finished.items ≡ []
  pub finished_none : vec_len b.finished ≡ 0

-- ---- the workers that a permit lets start

-- the `count` numbers from `first` on are permitted
abbrev pub PermitsAll : (ℕ → Bool) → ℕ → ℕ → Type 0
PermitsAll permits first count = (k : ℕ) → k < count → permits (first + k) ≡ true
