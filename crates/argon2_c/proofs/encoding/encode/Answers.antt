-- The settings' configuration has an empty secret and empty data, as the clause assumes of `secret` and `ad`.
use Rattle.std.proofs.Common.{length, refl, sym, arith, ◌∙◌}
use Rattle.argon2_c.proofs.JobNumbers.{other_inputs, same_error, accepted_salt}
use Rattle.argon2_c.proofs.encoding.encode.Goals as goal

pub write_tag_text-requires : goal.write_tag_text-requires
write_tag_text-requires c =
    let config = c.in-Ok.config in
    let fits = accepted_salt config 0 (length c.args.salt.now) config.hash_length (sym c.settings_error.ensures ∙ c.in-None.is) in
    omega (arith, fits)

pub returns-in-Some : goal.returns-in-Some
returns-in-Some c secret ad no_secret no_ad =
    let config = c.in-Ok.config in
    let is = c.in-Ok.ensures in
    rw (
      other_inputs c.args.settings.now _ _ secret ad config is,
      same_error c.args.settings.now _ _ secret ad config 0 (length c.args.salt.now) config.hash_length is (sym no_secret) (sym no_ad),
      sym c.settings_error.ensures ∙ c.in-Some.is,
    ) (refl, refl)

pub returns-in-None : goal.returns-in-None
returns-in-None c secret ad no_secret no_ad =
    let config = c.in-Ok.config in
    let is = c.in-Ok.ensures in
    rw (
      other_inputs c.args.settings.now _ _ secret ad config is,
      same_error c.args.settings.now _ _ secret ad config 0 (length c.args.salt.now) config.hash_length is (sym no_secret) (sym no_ad),
      sym c.settings_error.ensures ∙ c.in-None.is,
    ) c.write_tag_text.ensures
