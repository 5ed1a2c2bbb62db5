use Rattle.std.proofs.Common.{map}
use Rattle.argon2_memory.proofs.Filled.{wiped_slices-are}
use Rattle.argon2_memory.proofs.memory.Memory.wipe.Goals as goal

pub invariant_of-self : goal.invariant_of-self
invariant_of-self c =
    let m = c.self.inside in
    let good = wiped_slices-are m.lanes m.segment_length (map (λ v. v.items) m.slices) c.self.invariant.slices in
    record {
      slices = rw c.wipe_slices.ensures good;
      fits = c.self.invariant.fits;
      lane_fits = c.self.invariant.lane_fits;
    }
