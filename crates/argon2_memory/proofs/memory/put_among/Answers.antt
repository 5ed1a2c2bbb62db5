use Rattle.std.proofs.Common.{◌≡◌, List, [], map, length, get_or, set, arith, ap, sym, ◌∙◌, Vec, Global}
use Rattle.std.proofs.lemmas.List.{map-set, get_or-map, get_or_default}
use Rattle.argon2_memory.specs.declared.segment.own_blocks.Segment.{Segment}
use Rattle.argon2_memory.specs.Views.Segments.{with_block}
use Rattle.argon2_memory.specs.Standard.Kept.{no_segment, SegmentValue, segment_in}
use Rattle.argon2_memory.proofs.memory.put_among.Goals as goal

-- the segments of a vector, as a list
abbrev items : Vec Segment Global → List SegmentValue
items v = v.items

pub returns : goal.returns
returns c =
    let xs = c.args.slices.now in
    let m = map items xs in
    let own : Vec Segment Global = get_or xs c.args.slice c.index-slices-slice.result in
    let e : own.items ≡ get_or m c.args.slice [] = sym (get_or-map items xs c.args.slice c.index-slices-slice.result [] c.requires.slice_fits) in
    let n = ap (λ (l : List SegmentValue). length l) e in
    let old : c.index_mut.result.now ≡ segment_in m c.args.slice c.args.lane =
    c.index_mut.ensures.value ∙ get_or_default own.items c.args.lane _ no_segment (omega (arith, n, c.requires.lane_fits))
    ∙ ap (λ (l : List SegmentValue). get_or l c.args.lane no_segment) e in
    map-set items xs c.args.slice _
    ∙ ap (λ (l : List SegmentValue). set m c.args.slice (set l c.args.lane c.put.new.self)) e
    ∙ ap (λ (x : SegmentValue). set m c.args.slice (set (get_or m c.args.slice []) c.args.lane x)) (c.put.ensures
    ∙ ap (λ (x : SegmentValue). with_block x c.args.index c.args.block.now) old)
