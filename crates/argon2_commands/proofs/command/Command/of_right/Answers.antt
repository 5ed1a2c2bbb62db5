use Rattle.std.proofs.Common.{[], ◌∷◌, arith}
use Rattle.argon2_commands.specs.Words.{texts_of}
use Rattle.argon2_commands.specs.declared.usage.Kind.TheVariants.{Mode, Text}
use Rattle.argon2_commands.specs.declared.usage.Name.TheVariants.{Hash}
use Rattle.argon2_commands.proofs.UsageErrors.{fits_as, settings_of}
use Rattle.argon2_commands.proofs.command.Command.of_right.Goals as goal

pub mode_at-requires-clause-fits : goal.mode_at-requires-clause-fits
mode_at-requires-clause-fits c = fits_as (texts_of c.args.words.now) _ Hash c.requires.fit c.in-Hash.is 7 (omega arith)

pub settings_at-requires-clause-fit : goal.settings_at-requires-clause-fit
settings_at-requires-clause-fit c = settings_of _ (Mode ∷ Text ∷ []) 2 (fits_as (texts_of c.args.words.now) _ Hash c.requires.fit c.in-Hash.is)
