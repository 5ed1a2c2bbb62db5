use Rattle.std.proofs.Common.{refl}
use Rattle.argon2_c.proofs.JobNumbers.{version_of-none}
use Rattle.argon2_c.proofs.jobs.CallerJob.job_of_variant.Goals as goal

pub returns-in-Err : goal.returns-in-Err
returns-in-Err c = rw (version_of-none c.args.self.now.version c.in-Err.ensures.read.1) (refl, refl)
