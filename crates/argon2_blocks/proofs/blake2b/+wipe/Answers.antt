use Rattle.std.proofs.Common.{◌/◌, length, replicate, drop, ap, ◌∙◌, arith, length-drop}
use Rattle.std.proofs.lemmas.List.{replicate-append-replicate, length-take-le}
use Rattle.argon2_blocks.proofs.Parts.{put_rest}
use Rattle.argon2_blocks.proofs.blake2b.+wipe.Goals as goal

pub returns-then-items-gt-PIECE : goal.returns-then-items-gt-PIECE
returns-then-items-gt-PIECE g t c =
    let items = c.args.items.now in
    let half = length items / 2 in
    let front = length-take-le half items (omega arith) in
    let back = length-drop half items in
    put_rest half _ c.wipe.new.items (drop half items) c.wipe-then-items-gt-PIECE.new.items (omega (arith, c.wipe.auto.items)) (omega arith)
    ∙ rw (c.wipe.ensures, c.wipe-then-items-gt-PIECE.ensures) (replicate-append-replicate _ _ c.args.zero ∙ ap (λ n. replicate n c.args.zero) (omega arith))
