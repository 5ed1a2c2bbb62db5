-- A model of the threads that fill memory for the C driver. A team takes the steps of one hash. It has any number of
-- threads, of lanes, and of workers, each with some of the lanes. A thread can be late, take a part meant for another,
-- or fail. A comment at each function of the driver names the moves that it makes.
use Rattle.std.specs.Prelude.{◌≡◌, ◌≢◌, ◌⊎◌, ℕ, suc, ◌+◌, ◌*◌, ◌<◌, ◌≤◌, Bool, true, false, cond, eqb}

-- What a team has to do: some steps, one after another, each of which writes one segment of each lane.
pub record Work : Type 1 where
  pub lanes : ℕ
  pub tasks : ℕ  -- how many workers there are
  pub steps : ℕ
  pub worker : ℕ → ℕ  -- the worker that has a lane
  pub Memory : Type 0
  pub Segment : Type 0
  pub segment : ℕ → ℕ → Memory → Segment  -- the segment that a step writes in a lane
  pub Keeps : ℕ → Memory → Memory → Type 0  -- a step leaves unchanged what is in none of its segments
  pub Fills : ℕ → ℕ → Memory → Segment → Segment → Type 0  -- a step turns a lane's old segment into a new one

-- The state of a team.
pub record Team (w : Work) : Type 0 where
  pub step : ℕ  -- the step that the caller's thread has reached
  pub is_over : Bool  -- the caller's thread takes no further step
  pub woken : ℕ → ℕ  -- how often each other thread was woken for a step
  pub entered : ℕ → ℕ  -- how many steps each other thread has entered, by its own count
  pub state : ℕ → ℕ  -- of each worker: 2 n before step n, 2 n + 1 during it, 2 n + 2 after it
  pub code : ℕ → ℕ  -- of each worker: the code that its last step returned
  pub memory : w.Memory
  pub claimed : ℕ → w.Segment  -- each lane's segment at the time when its worker was claimed
  pub before : ℕ → w.Memory  -- the memory before each step

-- What a thread can do next.
pub data Move (w : Work) : Type 0 where
  Wakes : (thread : ℕ) → Move w  -- the caller's thread wakes another one for a step
  Enters : (thread : ℕ) → Move w  -- another thread enters the next step by its own count
  Claims : (step worker : ℕ) → Move w  -- a thread claims a worker's part of the step that it is in
  Writes : (step worker : ℕ) → w.Memory → Move w  -- whoever claimed a part changes its segments
  Completes : (step worker : ℕ) → Move w  -- the part is done: every call for it returned 0
  Fails : (step worker code : ℕ) → Move w  -- the part ends with an error
  Advances : Move w  -- the caller's thread goes on to the next step
  Stops : Move w  -- the caller's thread takes no further step

-- A function with another value at one place.
abbrev pub updated : {A : Type 0} → (ℕ → A) → ℕ → A → ℕ → A
updated f place value i = cond (eqb i place) value (f i)

-- ---- when a move can be made

-- A step is under way.
abbrev pub IsInStep : (w : Work) → Team w → Type 0
IsInStep w s = (s.is_over ≡ false) × (s.step < w.steps)

-- The caller's thread is in this step, or another thread by its own count.
abbrev pub IsIn : (w : Work) → Team w → ℕ → Type 0
IsIn w s step = ((s.is_over ≡ false) × (s.step < w.steps) × (step ≡ s.step)) ⊎ ((j : ℕ) × (suc step ≡ s.entered j))

-- A worker's part of a step is free.
pub record CanClaim (w : Work) (s : Team w) (step worker : ℕ) : Type 0 where
  pub exists : worker < w.tasks
  pub free : s.state worker ≡ 2 * step

-- Somebody works on a worker's part.
pub record CanEnd (w : Work) (s : Team w) (step worker : ℕ) : Type 0 where
  pub exists : worker < w.tasks
  pub at_work : s.state worker ≡ 2 * step + 1

-- While a worker's part is being worked on, its segments may hold anything, and everything else
-- stays.
pub record CanWrite (w : Work) (s : Team w) (step worker : ℕ) (memory : w.Memory) : Type 0 where
  pub can : CanEnd w s step worker
  pub keeps : w.Keeps step s.memory memory
  pub others : (l : ℕ) → w.worker l ≢ worker → w.segment step l memory ≡ w.segment step l s.memory

-- The lanes of a part are filled, from what each of them had when the part was claimed.
abbrev pub AreFilled : (w : Work) → Team w → ℕ → ℕ → Type 0
AreFilled w s step worker = (l : ℕ) → l < w.lanes → w.worker l ≡ worker → w.Fills step l s.memory (s.claimed l) (w.segment step l s.memory)

-- All workers are through with the step of the caller's thread.
abbrev pub AreThrough : (w : Work) → Team w → Type 0
AreThrough w s = (i : ℕ) → i < w.tasks → s.state i ≡ 2 * s.step + 2

-- The caller's thread goes on after a step without an error.
pub record CanAdvance (w : Work) (s : Team w) : Type 0 where
  pub goes_on : s.is_over ≡ false
  pub more : s.step < w.steps
  pub through : AreThrough w s
  pub ok : (i : ℕ) → i < w.tasks → s.code i ≡ 0

-- The caller's thread can stop in two cases: after the last step, or once all workers are through with its step.
pub record CanStop (w : Work) (s : Team w) : Type 0 where
  pub goes_on : s.is_over ≡ false
  pub why : (s.step ≡ w.steps) ⊎ AreThrough w s

abbrev pub Can : (w : Work) → (s : Team w) → Move w → Type 0
Can w s (Wakes j) = IsInStep w s × (s.woken j ≤ s.step)
Can w s (Enters j) = (s.is_over ≡ false) × (s.entered j < s.woken j)
Can w s (Claims n i) = IsIn w s n × CanClaim w s n i
Can w s (Writes n i memory) = CanWrite w s n i memory
Can w s (Completes n i) = CanEnd w s n i × AreFilled w s n i
Can w s (Fails n i code) = CanEnd w s n i × (code ≢ 0)
Can w s Advances = CanAdvance w s
Can w s Stops = CanStop w s

-- ---- what a move changes

abbrev pub wakes : (w : Work) → Team w → ℕ → Team w
wakes w s j = record s { woken = updated s.woken j (suc (s.woken j)) }

abbrev pub enters : (w : Work) → Team w → ℕ → Team w
enters w s j = record s { entered = updated s.entered j (suc (s.entered j)) }

abbrev pub claims : (w : Work) → Team w → ℕ → ℕ → Team w
claims w s n i =
    record s { state = updated s.state i (2 * n + 1); claimed = λ l. cond (eqb (w.worker l) i) (w.segment n l s.memory) (s.claimed l) }

abbrev pub writes : (w : Work) → Team w → w.Memory → Team w
writes w s memory = record s { memory = memory }

abbrev pub ends : (w : Work) → Team w → ℕ → ℕ → ℕ → Team w
ends w s n i code = record s { state = updated s.state i (2 * n + 2); code = updated s.code i code }

abbrev pub advances : (w : Work) → Team w → Team w
advances w s = record s { step = suc s.step; before = updated s.before (suc s.step) s.memory }

abbrev pub stops : (w : Work) → Team w → Team w
stops w s = record s { is_over = true }

abbrev pub after : (w : Work) → Team w → Move w → Team w
after w s (Wakes j) = wakes w s j
after w s (Enters j) = enters w s j
after w s (Claims n i) = claims w s n i
after w s (Writes n i memory) = writes w s memory
after w s (Completes n i) = ends w s n i 0
after w s (Fails n i code) = ends w s n i code
after w s Advances = advances w s
after w s Stops = stops w s

-- ---- the states that any moves in any order can reach

pub record IsStart (w : Work) (s : Team w) : Type 0 where
  pub step : s.step ≡ 0
  pub goes_on : s.is_over ≡ false
  pub woken : (j : ℕ) → s.woken j ≡ 0
  pub entered : (j : ℕ) → s.entered j ≡ 0
  pub state : (i : ℕ) → s.state i ≡ 0
  pub before : s.before 0 ≡ s.memory

pub data IsReached (w : Work) : Team w → Type 0 where
  starts : (s : Team w) → IsStart w s → IsReached w s
  moves : (s t : Team w) (m : Move w) → IsReached w s → Can w s m → t ≡ after w s m → IsReached w t

-- A whole step: it filled each lane's segment once, from the memory that it found at its beginning.
pub record IsStep (w : Work) (n : ℕ) (before after : w.Memory) : Type 0 where
  pub keeps : w.Keeps n before after
  pub fills : (l : ℕ) → l < w.lanes → w.Fills n l before (w.segment n l before) (w.segment n l after)

-- What the theorems assume of the work: whether a segment is filled does not depend on the step's other segments.
pub record IsApart (w : Work) : Type 0 where
  pub workers : (l : ℕ) → l < w.lanes → w.worker l < w.tasks
  pub none : (n : ℕ) (m : w.Memory) → w.Keeps n m m
  pub further : (n : ℕ) (one two three : w.Memory) → w.Keeps n one two → w.Keeps n two three → w.Keeps n one three
  pub seen : (n l : ℕ) (before middle : w.Memory) (old new : w.Segment) → w.Keeps n before middle → w.Fills n l middle old new
      → w.Fills n l before old new

-- ---- the theorems, for work of which IsApart is true

-- Each step that the caller's thread has left is a whole step, and after the last one memory stays as it was.
abbrev pub EveryStepIsWhole : Work → Type 0
EveryStepIsWhole w = (s : Team w) → IsReached w s
    → ((n : ℕ) → n < s.step → IsStep w n (s.before n) (s.before (suc n))) × (s.step ≡ w.steps → s.memory ≡ s.before w.steps)

-- Once the call is over, for whatever reason, no part is claimed: so nobody writes to memory.
abbrev pub NobodyWorksAfterTheEnd : Work → Type 0
NobodyWorksAfterTheEnd w = (s : Team w) → IsReached w s → s.is_over ≡ true → (n i : ℕ) → i < w.tasks → s.state i ≢ 2 * n + 1
