use Rattle.std.proofs.Common.{refl}
use Rattle.argon2_c.proofs.JobNumbers.{variant_of-none}
use Rattle.argon2_c.proofs.jobs.CallerJob.job.Goals as goal

pub returns-in-Err : goal.returns-in-Err
returns-in-Err c = rw (variant_of-none c.args.self.now.variant c.in-Err.ensures.read.1) (refl, refl)
