use Rattle.argon2_memory.proofs.Slices.{zeros_are, whole_lanes}
use Rattle.std.proofs.Common.{◌/◌, arith}
use Rattle.argon2_memory.proofs.memory.Memory.new.Goals as goal

pub invariant_of-result : goal.invariant_of-result
invariant_of-result c = record {
  slices = rw (c.in_ok-zero_slice.ensures, c.in_ok-zero_slice-2.ensures, c.in_ok-zero_slice-3.ensures, c.in_ok-zero_slice-4.ensures)
      (zeros_are c.args.lanes (c.args.lane_length / 4));
  fits = whole_lanes c.args.lanes c.args.lane_length c.requires.whole_slices c.requires.fits;
  lane_fits = omega arith;
}
