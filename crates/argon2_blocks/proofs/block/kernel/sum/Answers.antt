use Rattle.std.proofs.Common.{◌≡◌, ◌*◌, [], ◌∷◌, length, arith, refl, sym, ◌∙◌}
use Rattle.std.specs.Prelude.{slice_index_or}
use Rattle.std.specs.Simd.Lanes.{chunk}
use Rattle.argon2_blocks.specs.Standard.Block.{xor}
use Rattle.argon2_blocks.proofs.Stores.{chunk_xor, length_xor, all_chunks, all_long}
use Rattle.argon2_blocks.proofs.Lanes.{each_of_16}
use Rattle.argon2_blocks.proofs.block.kernel.sum.Goals as goal

pub returns : goal.returns
returns c =
    let block = xor c.args.x.now c.args.y.now in
    let vectors = c.first_sum.result ∷ c.sum_at.result ∷ c.sum_at-2.result ∷ c.sum_at-3.result ∷ c.sum_at-4.result ∷ c.sum_at-5.result ∷ c.sum_at-6.result ∷ c.sum_at-7.result ∷ c.sum_at-8.result ∷ c.sum_at-9.result ∷ c.sum_at-10.result ∷ c.sum_at-11.result ∷ c.sum_at-12.result ∷ c.sum_at-13.result ∷ c.sum_at-14.result ∷ c.sum_at-15.result ∷ [] in
    let long : length block ≡ 128 = length_xor c.args.x.now c.args.y.now (omega arith) ∙ omega arith in
    let each =
    each_of_16 (λ k. slice_index_or vectors k [] ≡ chunk (8 * k) 8 block)
    (c.first_sum.ensures ∙ sym (chunk_xor 0 8 c.args.x.now c.args.y.now))
    c.sum_at.ensures c.sum_at-2.ensures c.sum_at-3.ensures c.sum_at-4.ensures c.sum_at-5.ensures
    c.sum_at-6.ensures c.sum_at-7.ensures c.sum_at-8.ensures c.sum_at-9.ensures c.sum_at-10.ensures
    c.sum_at-11.ensures c.sum_at-12.ensures c.sum_at-13.ensures c.sum_at-14.ensures c.sum_at-15.ensures in
    record { value = all_chunks vectors block refl long each; long = all_long vectors block refl long each }
