use Rattle.std.proofs.Common.{sym, ◌∙◌, subst}
use Rattle.argon2_commands.specs.Usage.{IsNoName, IsWrong}
use Rattle.argon2_commands.specs.Words.{texts_of}
use Rattle.argon2_commands.proofs.UsageErrors.{first_word, no_name, wrong_word}
use Rattle.argon2_commands.proofs.usage.Name.of_words.Goals as goal

pub returns-in_default-of : goal.returns-in_default-of
returns-in_default-of c = no_name (texts_of c.args.words.now)
    (subst IsNoName (sym (first_word c.args.words.now c.in-Some.first.now c.as_str.result.now c.in-Some.ensures.value c.as_str.ensures.value)) c.in_default-of.ensures)

pub returns-in-Some-first_wrong : goal.returns-in-Some-first_wrong
returns-in-Some-first_wrong c = wrong_word (texts_of c.args.words.now) c.in-Some-of.name c.in-Some-first_wrong.field-0
    (first_word c.args.words.now c.in-Some.first.now c.as_str.result.now c.in-Some.ensures.value c.as_str.ensures.value ∙ c.in-Some-of.ensures)
    (subst (λ kinds. IsWrong kinds (texts_of c.args.words.now) c.in-Some-first_wrong.field-0) c.kinds-kinds.ensures c.in-Some-first_wrong.ensures)
