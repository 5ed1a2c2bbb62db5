use Rattle.argon2_text.specs.Views.Texts.{spelled_by}
use Rattle.argon2.proofs.stored.config_of.Goals as goal

pub returns : goal.returns
returns c = c.config_of_numbers.ensures (spelled_by c.args.stored.now) c.numbers.ensures
