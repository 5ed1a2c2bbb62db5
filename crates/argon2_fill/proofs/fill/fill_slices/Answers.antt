use Rattle.std.proofs.Common.{◌≡◌, ℕ, arith, ◌+◌, ◌*◌, ◌/◌, ◌%◌, ◌^◌, sym, ◌∙◌, ap}
use Rattle.argon2_fill.proofs.Passes.{next_slice, blocks_more, add_written}
use Rattle.argon2_memory.specs.Views.Memories.{blocks_written, writes_in, segments_of}
use Rattle.argon2_memory.specs.Views.Places.{places_in}
use Rattle.argon2_memory.specs.Theorems.Schedule.{blocks_in_slice}
use Rattle.argon2_fill.proofs.fill.fill_slices.Goals as goal

pub loop-n-preserved : goal.loop-n-preserved
loop-n-preserved c =
    let s = c.args.job.now.setting in
    let n = c.loop-n.n in
    let before = writes_in (segments_of c.args.slices.now) in
    let now = writes_in (segments_of c.fill_slice_in_turn.new.slices) in
    record {
      slices = rw c.numbered_job.ensures at c.fill_slice_in_turn.ensures.slices;
      filled = next_slice s n (places_in (segments_of c.fill_slice_in_turn.new.slices)) (rw c.numbered_job.ensures at c.fill_slice_in_turn.ensures.filled);
      writes = add_written before (blocks_written s n) (s.lanes * blocks_in_slice s (n / 4) (n % 4)) (writes_in (segments_of c.loop-n.slices)) now
          c.loop-n.invariant.writes (rw c.numbered_job.ensures at c.fill_slice_in_turn.ensures.writes)
          ∙ ap (λ (b : ℕ). (before + b) % 2 ^ 64) (sym (blocks_more s n c.facts_of_job.ensures.setting));
    }

pub returns-clause-filled : goal.returns-clause-filled
returns-clause-filled c =
    let s = c.args.job.now.setting in
    let whole : c.loop-n.n ≡ 4 * s.passes = omega arith in
    let pass : c.loop-n.n / 4 ≡ s.passes = omega (arith, whole) in
    let slice : c.loop-n.n % 4 ≡ 0 = omega (arith, whole) in
    rw (pass, slice) at c.loop-n.invariant.filled

pub returns-clause-writes : goal.returns-clause-writes
returns-clause-writes c =
    let whole : c.loop-n.n ≡ 4 * c.args.job.now.setting.passes = omega arith in
    rw whole at c.loop-n.invariant.writes
