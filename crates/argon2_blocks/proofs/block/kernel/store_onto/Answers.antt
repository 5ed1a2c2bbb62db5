use Rattle.std.proofs.Common.{arith, refl}
use Rattle.argon2_blocks.proofs.Stores.{onto_done, onto_step}
use Rattle.argon2_blocks.proofs.block.kernel.store_onto.Goals as goal

pub returns : goal.returns
returns c =
    let step = onto_step c.args.x.now c.args.y.now c.args.w.now c.told-x c.told-y c.requires.left c.requires.right c.told-w in
    let e1 = step 0 _ _ (omega arith) refl c.store_onto_at.ensures in
    let e2 = step 1 _ _ (omega arith) e1 c.store_onto_at-2.ensures in
    let e3 = step 2 _ _ (omega arith) e2 c.store_onto_at-3.ensures in
    let e4 = step 3 _ _ (omega arith) e3 c.store_onto_at-4.ensures in
    let e5 = step 4 _ _ (omega arith) e4 c.store_onto_at-5.ensures in
    let e6 = step 5 _ _ (omega arith) e5 c.store_onto_at-6.ensures in
    let e7 = step 6 _ _ (omega arith) e6 c.store_onto_at-7.ensures in
    let e8 = step 7 _ _ (omega arith) e7 c.store_onto_at-8.ensures in
    let e9 = step 8 _ _ (omega arith) e8 c.store_onto_at-9.ensures in
    let e10 = step 9 _ _ (omega arith) e9 c.store_onto_at-10.ensures in
    let e11 = step 10 _ _ (omega arith) e10 c.store_onto_at-11.ensures in
    let e12 = step 11 _ _ (omega arith) e11 c.store_onto_at-12.ensures in
    let e13 = step 12 _ _ (omega arith) e12 c.store_onto_at-13.ensures in
    let e14 = step 13 _ _ (omega arith) e13 c.store_onto_at-14.ensures in
    let e15 = step 14 _ _ (omega arith) e14 c.store_onto_at-15.ensures in
    let e16 = step 15 _ _ (omega arith) e15 c.store_onto_at-16.ensures in
    onto_done c.args.x.now c.args.y.now c.args.w.now _ c.told-x c.told-y c.requires.left c.requires.right c.told-w e16
