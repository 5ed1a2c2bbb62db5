use Rattle.std.proofs.Common.{ℕ, List, arith, sym, ◌∙◌}
use Rattle.std.specs.Borrow.{Bor}
use Rattle.std.proofs.lemmas.List.{length-map}
use Rattle.argon2_memory.specs.Views.Filling.{slice_of_blocks}
use Rattle.argon2_memory.proofs.Slices.{place_fits, block-is}
use Rattle.argon2_memory.proofs.segment.other_blocks.ArrayRefSliceBlock4OtherBlocks.block.Goals as goal

pub bounds-blocks-place : goal.bounds-blocks-place
bounds-blocks-place c =
    let q = c.requires in
    let s = c.args.job.now.setting in
    let four = sym (length-map c.args.self.now (λ (o : Bor (List (List ℕ))). slice_of_blocks s o.now)) ∙ q.four in
    let fits = place_fits s c.args.self.now c.args.slice c.args.lane c.args.index c.index-slices-slice.result four q.slice_fits q.lane_fits
    c.index-slices-slice.is (omega (arith, q.blocks, q.index_fits)) in
    let e = c.place_in_slice-place.ensures.value in
    omega (arith, e, fits)

pub returns : goal.returns
returns c =
    let q = c.requires in
    let s = c.args.job.now.setting in
    let four = sym (length-map c.args.self.now (λ (o : Bor (List (List ℕ))). slice_of_blocks s o.now)) ∙ q.four in
    let fits = place_fits s c.args.self.now c.args.slice c.args.lane c.args.index c.index-slices-slice.result four q.slice_fits q.lane_fits
    c.index-slices-slice.is (omega (arith, q.blocks, q.index_fits)) in
    let e = c.place_in_slice-place.ensures.value in
    block-is s c.args.self.now c.args.slice c.args.lane c.args.index c.index-slices-slice.result four q.slice_fits q.lane_fits
    c.index-slices-slice.is q.index_fits c.place_in_slice-place.result e (omega (arith, e, fits)) c.index-blocks-place.result c.index-blocks-place.is
