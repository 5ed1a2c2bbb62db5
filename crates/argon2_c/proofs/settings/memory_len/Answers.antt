-- Accepted settings have at least one lane, and fewer than 2^24.
use Rattle.std.proofs.Common.{arith, refl, sym, ◌∙◌}
use Rattle.argon2_standard.specs.Standard.SettingsTable.{min_salt_length}
use Rattle.argon2_standard.proofs.Settings.{accepted}
use Rattle.argon2_c.proofs.settings.memory_len.Goals as goal

pub overflow_mul-segments : goal.overflow_mul-segments
overflow_mul-segments c =
    let none = sym c.settings_error.ensures ∙ c.in-None.is in
    let a = accepted c.args.config.now 0 min_salt_length c.args.config.now.hash_length (rw none refl) in
    let few = a.few_lanes in omega (arith, few)

pub nonzero_div-result : goal.nonzero_div-result
nonzero_div-result c =
    let none = sym c.settings_error.ensures ∙ c.in-None.is in
    let a = accepted c.args.config.now 0 min_salt_length c.args.config.now.hash_length (rw none refl) in
    let some = a.some_lane in omega (arith, some)
