use Rattle.std.proofs.Common.{◌≡◌, ◌+◌, ◌≤◌, length}
use Rattle.argon2_text.specs.Views.Letters.{faults_of}
use Rattle.argon2_text.proofs.encoding.letters.is_item.Given as goal

-- the faults so far plus the faults of the rest are the faults of the string. The faults so far are at most as many as
-- the bytes before the rest.
abbrev pub invariant-loop-rest : goal.invariant-loop-rest
invariant-loop-rest l = record { all : l.faults + faults_of l.rest ≡ faults_of l.fn.text; fits : l.faults + length l.rest ≤ length l.fn.text }

abbrev pub decreases-loop-rest : goal.decreases-loop-rest
decreases-loop-rest l = length l.rest
