use Rattle.std.proofs.Common.{ap, arith, sym}
use Rattle.argon2_text.specs.Views.Letters.{faults_of}
use Rattle.argon2_text.proofs.Letters.{placed}
use Rattle.argon2_text.proofs.encoding.letters.tail_faults.Goals as goal

pub returns-in-empty : goal.returns-in-empty
unfolding faults_of
returns-in-empty c = sym (ap faults_of (placed c.args.tail.now 0 (omega arith)))

pub returns-in-len1 : goal.returns-in-len1
unfolding faults_of
returns-in-len1 c = sym (ap faults_of (placed c.args.tail.now 1 (omega arith)))

pub returns-in-len2 : goal.returns-in-len2
unfolding faults_of
returns-in-len2 c = omega (arith, ap faults_of (placed c.args.tail.now 2 (omega arith)))

pub returns-in-len3-up : goal.returns-in-len3-up
unfolding faults_of
returns-in-len3-up c = omega (arith, ap faults_of (placed c.args.tail.now 3 (omega arith)))
