use Rattle.std.proofs.Common.{sym, ◌∙◌}
use Rattle.argon2_standard.proofs.Versions.{version_in_digits}
use Rattle.argon2_standard.specs.declared.version.Version.TheVariants.{Version10, Version13}
use Rattle.argon2_standard.proofs.version.Version.from_digits.Goals as goal

pub returns-then-eq-clause-read : goal.returns-then-eq-clause-read
returns-then-eq-clause-read c = c.if-eq.ensures ∙ sym (version_in_digits Version10)

pub returns-then-eq-2-clause-read : goal.returns-then-eq-2-clause-read
returns-then-eq-2-clause-read c = c.if-eq-2.ensures ∙ sym (version_in_digits Version13)
