use Rattle.std.proofs.Common.{◌≡◌, drop}
use Rattle.std.specs.Prelude.{bit_or, bit_xor}
use Rattle.std.specs.List.{fold, zip}
use Rattle.argon2.specs.Views.StoredHashes.{difference_of}
use Rattle.argon2.proofs.verifying.difference.Given as goal

-- or-ing the differences of the bytes from index `at` on into `difference` gives the difference of the whole lists
abbrev pub invariant-loop-at : goal.invariant-loop-at
invariant-loop-at l =
    fold (λ difference (a, b). bit_or difference (bit_xor a b)) l.difference (zip (drop l.at l.one) (drop l.at l.other)) ≡ difference_of l.one l.other
