use Rattle.std.proofs.Common.{sym}
use Rattle.argon2_schedule.specs.Answers.{Inputs, config_at}
use Rattle.argon2_standard.specs.Standard.ThreadModes.{may_lack_workers}
use Rattle.argon2_schedule.proofs.Elsewhere.{alike_inputs, same_verdict}
use Rattle.argon2_schedule.proofs.verify_raw_by_value.Goals as goal

pub returns : goal.returns
returns g c = λ s a is_secret is_ad.
    let x : Inputs = record {
      pwd = c.args.pwd;
      salt = c.args.salt;
      secret = c.args.secret;
      ad = c.args.ad;
      variant = c.args.variant;
      newest = c.args.newest;
      mem_cost = c.args.mem_cost;
      time_cost = c.args.time_cost;
      lanes = c.args.lanes;
      threads = c.args.threads;
      length = c.args.hash_length;
    } in
    same_verdict (config_at x _ _) (config_at x s a) (alike_inputs x _ _ s a (sym is_secret) (sym is_ad)) c.args.pwd c.args.salt c.args.hash
    (may_lack_workers (config_at x s a)) c.verify_raw-answer.result (rw (c.mode_of.ensures, c.variant_of.ensures, c.version_of.ensures) at c.verify_raw-answer.ensures)
