use Rattle.std.proofs.Common.{◌≤◌}
use Rattle.arrayvec.specs.ArrayVec.{array_vec_len}
use Rattle.argon2_fill.proofs.workers.crew.+run_workers.Given as goal

abbrev pub decreases-run_workers : goal.decreases-run_workers
decreases-run_workers g l = l.count

-- `handles` has at most k elements
abbrev pub invariant-loop-k : goal.invariant-loop-k
invariant-loop-k g l = array_vec_len l.handles ≤ l.k
