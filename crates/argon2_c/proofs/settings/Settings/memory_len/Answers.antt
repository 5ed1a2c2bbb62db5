use Rattle.std.proofs.Common.{refl, sym}
use Rattle.argon2_standard.specs.Standard.SettingsTable.{min_salt_length}
use Rattle.argon2_c.proofs.JobNumbers.{no_inputs, other_inputs, same_error}
use Rattle.argon2_c.proofs.settings.Settings.memory_len.Goals as goal

pub returns-in-Ok : goal.returns-in-Ok
returns-in-Ok c secret ad no_secret no_ad =
    let config = c.in-Ok.config in
    let is = c.in-Ok.ensures in
    rw (
      other_inputs c.args.self.now _ _ secret ad config is,
      same_error c.args.self.now _ _ secret ad config 0 min_salt_length config.hash_length is (sym no_secret) (sym no_ad),
    ) c.memory_len.ensures

pub returns-in-Err : goal.returns-in-Err
returns-in-Err c secret ad no_secret no_ad = rw (no_inputs c.args.self.now _ _ secret ad _ c.in-Err.ensures) refl
