use Rattle.std.proofs.Common.{◌≡◌, ℕ, ◌+◌, ◌*◌, ◌≤◌, ◌<◌, ◌/◌, ◌%◌, ◌^◌, ◌-◌, Bool, arith, inl, inr, refl, ap, ◌∙◌}
use Rattle.argon2_memory.specs.Views.Jobs.{setting_of_context, Job}
use Rattle.argon2_memory.specs.Views.Memories.{segments_of}
use Rattle.argon2_memory.specs.Standard.Kept.{HasShape}
use Rattle.argon2_memory.specs.Views.Places.{places_in}
use Rattle.std.proofs.Math.Nat.{mul-le-mul_right}
use Rattle.std.proofs.lemmas.Bool.{cases_lt}
use Rattle.argon2_fill.specs.Views.Boards.{PermitsAll}
use Rattle.argon2_fill.proofs.Passes.{filled_begun, holds_last_pass, next_slice}
use Rattle.argon2_fill.proofs.workers.fill_parallel_with.Goals as goal

-- if the numbers below `first` and the next `count` numbers are permitted, all numbers below `first + count` are
permitted_more : (permits : ℕ → Bool) (first count : ℕ) → PermitsAll permits 0 first → PermitsAll permits first count → PermitsAll permits 0 (first + count)
permitted_more permits first count front back = λ k h. elim (cases_lt k first) [
  | inl w ↦ front k w
  | inr w ↦ rw (let e : 0 + k ≡ first + (k - first) = omega (arith, w) in e) (back (k - first) (omega (arith, w)))
]

pub loop-n-init : goal.loop-n-init
loop-n-init g c =
    let s = setting_of_context c.args.context.now in
    let shape = c.requires.shape in
    let old = rw (shape.lanes, shape.segment_length) at c.take_slices-slices.ensures.memory.slices in
    record {
      slices = rw (c.new-first_job.ensures.value, c.take_slices-slices.ensures.slices) old;
      filled = rw (c.new-first_job.ensures.value, c.take_slices-slices.ensures.slices)
          (filled_begun s c.facts_of_context.ensures.setting c.args.memory.now shape old c.requires.begun);
      permitted = λ k h. absurd (omega arith);
    }

pub loop-n-preserved : goal.loop-n-preserved
loop-n-preserved g c =
    let s = c.new-first_job.result.setting in
    let n = c.loop-n.n in
    let w = c.workers-workers.result in
    let done = c.in_ok-fill_slice_by_workers.ensures in
    record {
      slices = rw c.numbered_job-job.ensures at done.slices;
      filled = next_slice s n (places_in (segments_of c.fill_slice_by_workers.new.slices)) (rw c.numbered_job-job.ensures at done.filled);
      permitted = rw (let m : (n + 1) * w ≡ n * w + w = omega arith in m)
          (permitted_more (g.P.Permit.permits c.args.permit.now) (n * w) w c.loop-n.invariant.permitted (rw c.from.ensures at done.permitted));
    }

pub returns-clause-filled : goal.returns-clause-filled
returns-clause-filled g c =
    let s = setting_of_context c.args.context.now in
    let same : c.new-first_job.result.setting ≡ s = ap (λ (j : Job). j.setting) c.new-first_job.ensures.value in
    let shape : HasShape s c.memory_of_slices.result = rw (c.memory_of_slices.ensures, c.lanes.ensures.value, c.segment_length.ensures.value, same)
    (record { lanes = refl; segment_length = refl }) in
    let whole : c.loop-n.n ≡ 4 * c.new-first_job.result.setting.passes = omega arith in
    let filled = rw (
      let q : c.loop-n.n / 4 ≡ c.new-first_job.result.setting.passes = omega (arith, whole) in
          q,
      let r : c.loop-n.n % 4 ≡ 0 = omega (arith, whole) in r,
    ) at c.loop-n.invariant.filled in
    holds_last_pass s c.facts_of_context.ensures.setting c.memory_of_slices.result shape (rw c.memory_of_slices.ensures (rw same at filled))

pub returns-clause-permitted : goal.returns-clause-permitted
returns-clause-permitted g c =
    let x = c.args.context.now in
    let whole : c.loop-n.n ≡ 4 * c.new-first_job.result.setting.passes = omega arith in
    let passes = ap (λ (j : Job). j.setting.passes) c.new-first_job.ensures.value ∙ c.facts_of_context.ensures.passes in
    let starts = ap (λ n. n * c.workers-workers.result) (whole ∙ ap (λ p. 4 * p) passes)
    ∙ ap (λ w. 4 * x.config.time_cost * w) c.workers-workers.ensures in
    rw starts at c.loop-n.invariant.permitted

pub returns-clause-shape : goal.returns-clause-shape
returns-clause-shape g c =
    let same : c.new-first_job.result.setting ≡ setting_of_context c.args.context.now = ap (λ (j : Job). j.setting) c.new-first_job.ensures.value in
    rw (c.memory_of_slices.ensures, c.lanes.ensures.value, c.segment_length.ensures.value, same) (record { lanes = refl; segment_length = refl })

-- the product of the slice's number n and the number of workers fits 64 bits
pub overflow_mul-first : goal.overflow_mul-first
overflow_mul-first g c =
    let low : c.loop-n.n ≤ 17179869184 = omega (arith, c.new-first_job.ensures.job.setting.few_passes) in
    let most = mul-le-mul_right c.from.result low in
    omega (arith, most, c.from.ensures, c.workers-workers.ensures, c.facts_of_workers.ensures.few)

pub fill_slice_by_workers-requires : goal.fill_slice_by_workers-requires
fill_slice_by_workers-requires g c =
    let low : c.loop-n.n ≤ 17179869184 = omega (arith, c.new-first_job.ensures.job.setting.few_passes) in
    let most = mul-le-mul_right c.from.result low in
    let fits : c.loop-n.n * c.from.result + c.workers-workers.result < 2 ^ 64 =
    omega (arith, most, c.from.ensures, c.workers-workers.ensures, c.facts_of_workers.ensures.few) in (
      c.type_bounds.sync-R,
      (
        c.type_bounds.sync-G,
        (
          rw c.numbered_job-job.ensures c.loop-n.invariant.slices,
          (rw c.numbered_job-job.ensures c.loop-n.invariant.filled, (rw c.workers-workers.ensures c.facts_of_workers.ensures.some, fits)),
        ),
      ),
    )

pub memory_of_slices-requires-clause-slices : goal.memory_of_slices-requires-clause-slices
memory_of_slices-requires-clause-slices g c = rw (c.lanes.ensures.value, c.segment_length.ensures.value) c.loop-n.invariant.slices
