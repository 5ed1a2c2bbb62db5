use Rattle.std.proofs.Common.{length, take, drop, length-drop, length-take-le, take-append-drop, ap, arith}
use Rattle.std.proofs.lemmas.Bool.{and_parts, and_from, eqb-true, eq-eqb}
use Rattle.argon2_text.specs.Views.Letters.{faults_of}
use Rattle.base64.specs.GeneralPurpose.{IsBytes}
use Rattle.argon2_text.proofs.Letters.{faults_behind, faults_tell}
use Rattle.argon2_text.proofs.Pieces.{elements_from}
use Rattle.argon2_text.proofs.encoding.letters.is_item.Goals as goal

pub loop-rest-preserved : goal.loop-rest-preserved
loop-rest-preserved c =
    let rest = c.loop-rest.rest.now in
    let both = faults_behind (take 4 rest) (drop 4 rest) (length-take-le 4 rest (omega (arith, c.loop-rest-test.true))) in
    let behind = ap faults_of (elements_from 4 rest) in
    let parts = ap faults_of (take-append-drop 4 rest) in
    record {
      all = omega (arith, both, parts, c.group_faults.ensures.value, c.loop-rest.invariant.all, behind);
      fits = omega (arith, c.group_faults.ensures.few, c.loop-rest.invariant.fits, length-drop 4 rest, ap length (elements_from 4 rest), c.loop-rest-test.true);
    }

pub returns : goal.returns
returns c =
    let fits : IsBytes c.args.text.now = λ i. let f = c.type_inv.text i in omega (arith, f) in
    let tells = faults_tell c.args.text.now fits in
    let all = c.loop-rest.invariant.all in (
      λ t.
          let parts = and_parts _ _ t in
          let zero = eqb-true c.loop-rest.faults 0 parts.0 in
          let none = eqb-true c.tail_faults.result 0 parts.1 in
          tells.0 (omega (arith, all, zero, none, c.tail_faults.ensures)),
      λ item.
          let zero = tells.1 item in
          and_from _ _ (eq-eqb c.loop-rest.faults 0 (omega (arith, all, zero))) (eq-eqb c.tail_faults.result 0 (omega (arith, all, zero, c.tail_faults.ensures))),
    )
