-- If the salt or the hash behind the head is no item, the string decodes to nothing.
use Rattle.argon2_text.proofs.Items.{hashless, saltless, spelling_at, no_item}
use Rattle.argon2_text.proofs.encoding.reading.spelling_of.Goals as goal
use Rattle.argon2_text.proofs.encoding.reading.spelling_of.Goals.{else-is_item-via-then-is_item+else-is_item-2, else-is_item-via-else-is_item}

pub returns-then-is_item-2 : goal.returns-then-is_item-2
returns-then-is_item-2 c =
    spelling_at c.args.text.now c.in-Some.head c.in-Some.ensures (c.is_item.ensures.0 c.if-is_item.true)
    (c.is_item-then-is_item.ensures.0 c.if-is_item-2.true)

pub returns-else-is_item : goal.returns-else-is_item
returns-else-is_item c =
    elim c.else-is_item.branch [
      | else-is_item-via-then-is_item+else-is_item-2 w ↦
          hashless c.args.text.now c.in-Some.head c.in-Some.ensures
          (no_item c.in-Some.head.hash.now w.is_item-then-is_item.result w.is_item-then-is_item.ensures w.if-is_item-2.false)
      | else-is_item-via-else-is_item w ↦
          saltless c.args.text.now c.in-Some.head c.in-Some.ensures
          (no_item c.in-Some.head.salt.now c.is_item.result c.is_item.ensures w.if-is_item.false)
    ]
