-- A finer model of the C driver's threads: it adds the place of each thread in the driver's code (run_team, take_parts
-- and follow) and the value of its semaphore. With these it can say that the threads do not deadlock.
use Rattle.std.specs.Prelude.{◌≡◌, ◌≢◌, ◌⊎◌, ℕ, suc, ◌-◌, ◌*◌, ◌<◌, ◌≤◌, Bool, true, false, cond, eqb, ltb}
use Rattle.argon2_c.specs.Team.{Work, Team, updated, wakes, enters, claims, writes, ends, advances, stops, IsStart as IsTeamStart, IsReached as IsTeamReached}

-- Where a thread is. The caller's thread is never at Telling, Waiting or Woken. Any other thread is at one of these, or at
-- Taking, Working or Ended.
pub data Place : Type 0 where
  Waking : (thread : ℕ) → Place  -- is about to wake this thread for a step, and then those after it
  Taking : (part taken : ℕ) → Place  -- is about to claim this part, after it took `taken` others
  Working : (part taken : ℕ) → Place  -- has claimed this part, after it took `taken` others
  Telling : (parts : ℕ) → Place  -- is about to wake the caller's thread so many times, once for each part that it took
  Waiting : Place  -- waits until it is woken
  Woken : Place  -- is about to look whether the call is over
  Counting : (parts : ℕ) → Place  -- knows that so many parts are done, and waits for the others
  Left : Place  -- has left the last step
  Ending : (thread : ℕ) → Place  -- is about to wake this thread for the last time, and then those after it
  Ended : Place  -- has ended, or returned from the call

-- The state of a call with so many threads beside the caller's. If parts are long, a thread takes only its own part, and the
-- caller's thread takes its own and those of workers without a thread.
pub record Threads (w : Work) (members : ℕ) (is_long : Bool) : Type 0 where
  pub team : Team w
  pub place : ℕ → Place  -- of each thread: 0 is the caller's
  pub wakes : ℕ → ℕ  -- the value of each thread's semaphore
  pub owner : ℕ → ℕ  -- the thread that claimed a worker's part last

-- What a thread can do next.
pub data Move (w : Work) (members : ℕ) (is_long : Bool) : Type 0 where
  Wakes : (thread : ℕ) → Move w members is_long  -- the caller's thread wakes another one for a step
  Begins : Move w members is_long  -- the caller's thread has woken all others, and begins to take parts
  Claims : (thread part taken : ℕ) → Move w members is_long  -- a thread claims a part
  Leaves : (thread part taken : ℕ) → Move w members is_long  -- a thread takes no more parts of this step
  Writes : (thread part taken : ℕ) → w.Memory → Move w members is_long  -- a thread changes the segments of its part
  Finishes : (thread part taken code : ℕ) → Move w members is_long  -- a thread marks its part as done
  Tells : (thread parts : ℕ) → Move w members is_long  -- a thread wakes the caller's for a part that it took
  Waits : (thread : ℕ) → Move w members is_long  -- a thread has woken the caller's for each of its parts, and waits
  Awakes : (thread : ℕ) → Move w members is_long  -- a thread was woken
  Enters : (thread : ℕ) → Move w members is_long  -- a thread enters the next step
  Exits : (thread : ℕ) → Move w members is_long  -- a thread sees that the call is over, and ends
  Counts : (parts : ℕ) → Move w members is_long  -- the caller's thread was woken for a part
  Advances : Move w members is_long  -- the caller's thread goes on to the next step
  Stops : Move w members is_long  -- the caller's thread takes no further step
  Dismisses : (thread : ℕ) → Move w members is_long  -- the caller's thread wakes another for the last time
  Returns : Move w members is_long  -- the caller's thread has joined all others, and returns

-- The step that a thread is in. A thread other than the caller's counts the steps that it has
-- entered.
abbrev pub own_step : (w : Work) (members : ℕ) (is_long : Bool) → Threads w members is_long → ℕ → ℕ
own_step w members is_long s j = cond (eqb j 0) s.team.step (s.team.entered j - 1)

-- How many parts of a step a thread may take.
abbrev pub most : (w : Work) (members : ℕ) (is_long : Bool) → ℕ → ℕ
most w members is_long j = cond is_long (cond (eqb j 0) (w.tasks - members) 1) w.tasks

-- The part that a thread tries to take after this part.
abbrev pub next : (w : Work) (members : ℕ) (is_long : Bool) → ℕ → ℕ
next w members is_long part = cond (eqb part 0) w.tasks part - 1

-- A thread of the call other than the caller's.
abbrev pub IsMember : (w : Work) (members : ℕ) (is_long : Bool) → ℕ → Type 0
IsMember w members is_long j = (0 < j) × (j ≤ members)

-- A thread works on a part, and changes only its segments.
pub record WritesPart (w : Work) (members : ℕ) (is_long : Bool) (s : Threads w members is_long) (j part n : ℕ) (memory : w.Memory) : Type 0 where
  pub inside : j ≤ members
  pub place : s.place j ≡ Working part n
  pub keeps : w.Keeps (own_step w members is_long s j) s.team.memory memory
  pub others : (l : ℕ) → w.worker l ≢ part
      → w.segment (own_step w members is_long s j) l memory ≡ w.segment (own_step w members is_long s j) l s.team.memory

-- A thread is through with a part: all of its segments are filled, if the code is 0.
pub record FinishesPart (w : Work) (members : ℕ) (is_long : Bool) (s : Threads w members is_long) (j part n code : ℕ) : Type 0 where
  pub inside : j ≤ members
  pub place : s.place j ≡ Working part n
  pub fills : code ≡ 0 → (l : ℕ) → l < w.lanes → w.worker l ≡ part → w.Fills (own_step w members is_long s j) l s.team.memory (s.team.claimed l)
      (w.segment (own_step w members is_long s j) l s.team.memory)

abbrev pub Can : (w : Work) (members : ℕ) (is_long : Bool) → (s : Threads w members is_long) → Move w members is_long → Type 0
Can w members is_long s (Wakes k) = (s.place 0 ≡ Waking k) × (k ≤ members)
Can w members is_long s Begins = s.place 0 ≡ Waking (suc members)
Can w members is_long s (Claims j part n) =
    (j ≤ members) × (s.place j ≡ Taking part n) × (n < most w members is_long j) × (s.team.state part ≡ 2 * own_step w members is_long s j)
Can w members is_long s (Leaves j part n) =
    (j ≤ members) × (s.place j ≡ Taking part n) × ((most w members is_long j ≤ n) ⊎ (s.team.state part ≢ 2 * own_step w members is_long s j))
Can w members is_long s (Writes j part n memory) = WritesPart w members is_long s j part n memory
Can w members is_long s (Finishes j part n code) = FinishesPart w members is_long s j part n code
Can w members is_long s (Tells j n) = IsMember w members is_long j × (s.place j ≡ Telling (suc n))
Can w members is_long s (Waits j) = IsMember w members is_long j × (s.place j ≡ Telling 0)
Can w members is_long s (Awakes j) = IsMember w members is_long j × (s.place j ≡ Waiting) × (0 < s.wakes j)
Can w members is_long s (Enters j) = IsMember w members is_long j × (s.place j ≡ Woken) × (s.team.is_over ≡ false)
Can w members is_long s (Exits j) = IsMember w members is_long j × (s.place j ≡ Woken) × (s.team.is_over ≡ true)
Can w members is_long s (Counts n) = (s.place 0 ≡ Counting n) × (n < w.tasks) × (0 < s.wakes 0)
Can w members is_long s Advances = (s.place 0 ≡ Counting w.tasks) × ((i : ℕ) → i < w.tasks → s.team.code i ≡ 0)
Can w members is_long s Stops = (s.place 0 ≡ Counting w.tasks) ⊎ (s.place 0 ≡ Left)
Can w members is_long s (Dismisses k) = (s.place 0 ≡ Ending k) × (k ≤ members)
Can w members is_long s Returns = (s.place 0 ≡ Ending (suc members)) × ((j : ℕ) → IsMember w members is_long j → s.place j ≡ Ended)

-- A thread moves to another place. It may also wake a thread, or use up a wake.
abbrev pub goes : (w : Work) (members : ℕ) (is_long : Bool) → Threads w members is_long → ℕ → Place → Threads w members is_long
goes w members is_long s j place = record s { place = updated s.place j place }

abbrev pub wakes_for : (w : Work) (members : ℕ) (is_long : Bool) → Threads w members is_long → ℕ → ℕ → Place → Threads w members is_long
wakes_for w members is_long s k j place = record (goes w members is_long s j place) { wakes = updated s.wakes k (suc (s.wakes k)) }

abbrev pub waits_for : (w : Work) (members : ℕ) (is_long : Bool) → Threads w members is_long → ℕ → Place → Threads w members is_long
waits_for w members is_long s j place = record (goes w members is_long s j place) { wakes = updated s.wakes j (s.wakes j - 1) }

-- The place of a thread that takes no more parts.
abbrev pub told : ℕ → ℕ → Place
told j n = cond (eqb j 0) (Counting n) (Telling n)

abbrev pub after : (w : Work) (members : ℕ) (is_long : Bool) → Threads w members is_long → Move w members is_long → Threads w members is_long
after w members is_long s (Wakes k) = record (wakes_for w members is_long s k 0 (Waking (suc k))) { team = wakes w s.team k }
after w members is_long s Begins = goes w members is_long s 0 (Taking 0 0)
after w members is_long s (Claims j part n) =
    record (goes w members is_long s j (Working part n)) { team = claims w s.team (own_step w members is_long s j) part; owner = updated s.owner part j }
after w members is_long s (Leaves j part n) = goes w members is_long s j (told j n)
after w members is_long s (Writes j part n memory) = record s { team = writes w s.team memory }
after w members is_long s (Finishes j part n code) =
    record (goes w members is_long s j (Taking (next w members is_long part) (suc n))) { team = ends w s.team (own_step w members is_long s j) part code }
after w members is_long s (Tells j n) = wakes_for w members is_long s 0 j (Telling n)
after w members is_long s (Waits j) = goes w members is_long s j Waiting
after w members is_long s (Awakes j) = waits_for w members is_long s j Woken
after w members is_long s (Enters j) = record (goes w members is_long s j (Taking j 0)) { team = enters w s.team j }
after w members is_long s (Exits j) = goes w members is_long s j Ended
after w members is_long s (Counts n) = waits_for w members is_long s 0 (Counting (suc n))
after w members is_long s Advances =
    record (goes w members is_long s 0 (cond (ltb (suc s.team.step) w.steps) (Waking 1) Left)) { team = advances w s.team }
after w members is_long s Stops = record (goes w members is_long s 0 (Ending 1)) { team = stops w s.team }
after w members is_long s (Dismisses k) = wakes_for w members is_long s k 0 (Ending (suc k))
after w members is_long s Returns = goes w members is_long s 0 Ended

-- At the start the caller's thread is about to wake the others, and they wait.
pub record IsStart (w : Work) (members : ℕ) (is_long : Bool) (s : Threads w members is_long) : Type 0 where
  pub fewer : members < w.tasks
  pub some : 0 < w.steps
  pub team : IsTeamStart w s.team
  pub caller : s.place 0 ≡ Waking 1
  pub others : (j : ℕ) → IsMember w members is_long j → s.place j ≡ Waiting
  pub wakes : (j : ℕ) → s.wakes j ≡ 0

pub data IsReached (w : Work) (members : ℕ) (is_long : Bool) : Threads w members is_long → Type 0 where
  starts : (s : Threads w members is_long) → IsStart w members is_long s → IsReached w members is_long s
  moves : (s t : Threads w members is_long) (m : Move w members is_long) → IsReached w members is_long s → Can w members is_long s m
      → t ≡ after w members is_long s m → IsReached w members is_long t

-- The call has returned.
abbrev pub HasReturned : (w : Work) (members : ℕ) (is_long : Bool) → Threads w members is_long → Type 0
HasReturned w members is_long s = s.place 0 ≡ Ended

-- ---- the theorems, for work of which IsApart is true

-- What the threads do are moves of a team.
abbrev pub ThreadsAreATeam : (w : Work) (members : ℕ) (is_long : Bool) → Type 0
ThreadsAreATeam w members is_long = (s : Threads w members is_long) → IsReached w members is_long s → IsTeamReached w s.team

-- Until the call has returned, some thread can go on.
abbrev pub SomeThreadCanGoOn : (w : Work) (members : ℕ) (is_long : Bool) → Type 0
SomeThreadCanGoOn w members is_long =
    (s : Threads w members is_long) → IsReached w members is_long s → s.place 0 ≢ Ended → (m : Move w members is_long) × Can w members is_long s m

-- After the call has returned, all other threads have ended.
abbrev pub AllThreadsEnd : (w : Work) (members : ℕ) (is_long : Bool) → Type 0
AllThreadsEnd w members is_long =
    (s : Threads w members is_long) → IsReached w members is_long s → HasReturned w members is_long s → (j : ℕ) → IsMember w members is_long j → s.place j ≡ Ended

abbrev pub IsWrite : (w : Work) (members : ℕ) (is_long : Bool) → Move w members is_long → Type 0
IsWrite w members is_long (Writes j part n memory) = Unit {0}
IsWrite w members is_long other = ⊥

-- Each move except Writes makes a number smaller, so only endless Writes can make a run infinite.
abbrev pub EveryRunEnds : (w : Work) (members : ℕ) (is_long : Bool) → Type 0
EveryRunEnds w members is_long = (left : Threads w members is_long → ℕ) × ((s : Threads w members is_long) (m : Move w members is_long)
    → IsReached w members is_long s → Can w members is_long s m
    → (left (after w members is_long s m) < left s) ⊎ (IsWrite w members is_long m × (left (after w members is_long s m) ≡ left s)))

-- A step fills one lane's segment, and leaves the rest of the memory unchanged.
pub record FillsOne (w : Work) (n l : ℕ) (before after : w.Memory) : Type 0 where
  pub keeps : w.Keeps n before after
  pub back : w.Keeps n after before
  pub others : (k : ℕ) → k ≢ l → w.segment n k after ≡ w.segment n k before
  pub fills : w.Fills n l before (w.segment n l before) (w.segment n l after)

-- Each step can fill each lane, if the memory is suitable, and leaves the memory suitable.
abbrev pub CanFill : (w : Work) → (w.Memory → Type 0) → Type 0
CanFill w IsSuitable = (n l : ℕ) (before : w.Memory) → n < w.steps → l < w.lanes → IsSuitable before → (after : w.Memory) × IsSuitable after × FillsOne w n l before after

-- From any suitable memory a run can begin in which the threads complete all steps, and the call returns.
abbrev pub ACallCanFinish : (w : Work) (members : ℕ) (is_long : Bool) → (w.Memory → Type 0) → Type 0
ACallCanFinish w members is_long IsSuitable = CanFill w IsSuitable → members < w.tasks → 0 < w.steps → (start : w.Memory) → IsSuitable start
    → (s : Threads w members is_long) × IsReached w members is_long s × HasReturned w members is_long s × (s.team.step ≡ w.steps) × (s.team.is_over ≡ true)
    × (s.team.before 0 ≡ start)
