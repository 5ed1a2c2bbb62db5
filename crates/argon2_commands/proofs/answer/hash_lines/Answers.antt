use Rattle.std.proofs.Common.{◌≡◌, length}
use Rattle.argon2_standard.specs.Standard.SettingsTable.{table_error}
use Rattle.argon2_commands.proofs.Statuses.{at_accepted}
use Rattle.argon2_commands.proofs.answer.hash_lines.Goals as goal

pub returns-in-Ok-clause-lines : goal.returns-in-Ok-clause-lines
returns-in-Ok-clause-lines g c =
    let x = c.args.config in
    let y = c.in-Ok.context in
    let same = at_accepted (table_error x (length c.args.password.now) (length c.args.salt.now) x.hash_length)
    ((y.config ≡ x) × (y.pwd.now ≡ c.args.password.now) × (y.salt.now ≡ c.args.salt.now)) y c.in-Ok.ensures in
    rw (same.0, same.1, same.2) at c.tag_lines.ensures.lines
