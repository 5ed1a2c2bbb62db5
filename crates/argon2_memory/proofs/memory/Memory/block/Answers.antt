use Rattle.std.proofs.Common.{◌*◌, ◌<◌, ◌/◌, List, map, length, arith, ap, ◌∙◌, Vec, Global}
use Rattle.std.proofs.lemmas.List.{length-map}
use Rattle.std.proofs.Math.Nat.{mod-lt}
use Rattle.argon2_memory.specs.declared.segment.own_blocks.Segment.{Segment}
use Rattle.argon2_memory.specs.Standard.Kept.{SegmentValue}
use Rattle.argon2_memory.proofs.Slices.{read_slice, read_in, slice_fits}
use Rattle.argon2_memory.proofs.memory.Memory.block.Goals as goal

-- the segments of a vector, as a list
abbrev items : Vec Segment Global → List SegmentValue
items v = v.items

pub bounds-segments-lane : goal.bounds-segments-lane
bounds-segments-lane c =
    let m = c.self.inside in
    let slices = c.self.invariant.slices in
    let column_fits : c.args.column < 4 * m.segment_length = rw (← c.self.view_is) at c.requires.column_fits in
    let lane_fits : c.args.lane < m.lanes = rw (← c.self.view_is) at c.requires.lane_fits in
    let few = slice_fits c.args.column m.segment_length column_fits in
    let n = simp length-map at slices.count in
    let e = c.as_slice-segments.ensures.value ∙ read_slice items m.slices (c.args.column / m.segment_length) c.index-slices-column.result (omega
    (arith, n, few)) c.index-slices-column.is in
    let l = ap (λ (x : List SegmentValue). length x) e ∙ slices.lanes (c.args.column / m.segment_length) few in
    omega (arith, l, lane_fits)

pub block-requires : goal.block-requires
block-requires c =
    let m = c.self.inside in
    let slices = c.self.invariant.slices in
    let column_fits : c.args.column < 4 * m.segment_length = rw (← c.self.view_is) at c.requires.column_fits in
    let lane_fits : c.args.lane < m.lanes = rw (← c.self.view_is) at c.requires.lane_fits in
    let few = slice_fits c.args.column m.segment_length column_fits in
    let n = simp length-map at slices.count in
    let e = c.as_slice-segments.ensures.value ∙ read_slice items m.slices (c.args.column / m.segment_length) c.index-slices-column.result (omega
    (arith, n, few)) c.index-slices-column.is in
    let r = read_in m.lanes m.segment_length (map items m.slices) slices
    (c.args.column / m.segment_length) c.args.lane few lane_fits c.as_slice-segments.result.now c.index-segments-lane.result e c.index-segments-lane.is in
    let l = ap (λ (x : SegmentValue). length x.blocks) r ∙ slices.blocks (c.args.column / m.segment_length) c.args.lane few lane_fits in
    let k = mod-lt c.args.column (let h : 0 < m.segment_length = omega (arith, column_fits) in h) in
    omega (arith, l, k)
