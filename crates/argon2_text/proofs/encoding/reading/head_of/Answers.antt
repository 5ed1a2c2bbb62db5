-- At each exit, any head has the pieces that were cut, so a rejected piece rejects every head.
use Rattle.std.proofs.Common.{refl, sym}
use Rattle.argon2_text.specs.Views.Texts.{pieces_view}
use Rattle.argon2_text.proofs.Items.{no_head, head_at}
use Rattle.argon2_text.proofs.Pieces.{pieces_found}
use Rattle.argon2_text.proofs.encoding.reading.head_of.Goals as goal

pub returns-in_default : goal.returns-in_default
returns-in_default c = no_head c.args.text.now c.in_default.ensures

pub returns-in_default-version_of : goal.returns-in_default-version_of
returns-in_default-version_of c = λ h.
    let found = head_at c.args.text.now (pieces_view c.in-Some.pieces) c.in-Some.ensures h in
    c.in_default-version_of.ensures found.0.version found.1.version

-- if the first piece names no variant, the string has no head
pub returns-in_default-from_name : goal.returns-in_default-from_name
returns-in_default-from_name c = λ h.
    let found = head_at c.args.text.now (pieces_view c.in-Some.pieces) c.in-Some.ensures h in
    c.in_default-from_name.ensures.read found.0.variant found.1.name

pub returns-in_default-number : goal.returns-in_default-number
returns-in_default-number c = λ h.
    let found = head_at c.args.text.now (pieces_view c.in-Some.pieces) c.in-Some.ensures h in
    c.in_default-number.ensures found.0.mem_cost found.1.memory

pub returns-in_default-number-2 : goal.returns-in_default-number-2
returns-in_default-number-2 c = λ h.
    let found = head_at c.args.text.now (pieces_view c.in-Some.pieces) c.in-Some.ensures h in
    c.in_default-number-2.ensures found.0.time_cost found.1.time

pub returns-in_default-number-3 : goal.returns-in_default-number-3
returns-in_default-number-3 c = λ h.
    let found = head_at c.args.text.now (pieces_view c.in-Some.pieces) c.in-Some.ensures h in
    c.in_default-number-3.ensures found.0.parallelism found.1.lanes

pub returns : goal.returns
returns c =
    let pieces = pieces_view c.in-Some.pieces in record {
      pieces = pieces;
      cut = pieces_found c.args.text.now pieces (sym c.in-Some.ensures);
      head = record {
        name = c.in-Some-from_name.ensures.read;
        version = c.in-Some-version_of.ensures;
        memory = c.in-Some-number.ensures;
        time = c.in-Some-number-2.ensures;
        lanes = c.in-Some-number-3.ensures;
      };
      salt = refl;
      hash = refl;
    }
