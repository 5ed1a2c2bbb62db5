-- The code passes the lengths of the configuration's own secret and associated data.
use Rattle.std.proofs.Common.{refl}
use Rattle.argon2_standard.proofs.context.first_refusal.Goals as goal

pub returns : goal.returns
returns c = c.error_of_lengths.ensures c.args.config.now.secret c.args.config.now.ad refl refl
