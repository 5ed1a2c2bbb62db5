use Rattle.std.proofs.Common.{subst}
use Rattle.argon2_commands.specs.Usage.{Fits}
use Rattle.argon2_commands.specs.declared.usage.Kind.TheVariants.{Number}
use Rattle.argon2_commands.proofs.UsageErrors.{number_read, word-texts_of}
use Rattle.argon2_commands.proofs.command.number_at.Goals as goal

pub unwrap-requires : goal.unwrap-requires
unwrap-requires c =
    number_read c.as_str.result.now _ c.number_of.ensures (subst (Fits Number)
    (word-texts_of c.args.words.now c.args.place c.index-words-place.result _ c.requires.count c.index-words-place.is c.as_str.ensures.value)
    c.requires.fits)
