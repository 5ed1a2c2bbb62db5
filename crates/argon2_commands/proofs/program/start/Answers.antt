use Rattle.std.proofs.Common.{inl, subst, sym}
use Rattle.argon2_commands.proofs.Statuses.{untouched}
use Rattle.argon2_commands.proofs.Passwords.{of_all_words}
use Rattle.argon2_commands.specs.Words.{AreWords, texts_of}
use Rattle.argon2_commands.proofs.program.start.Goals as goal

pub returns-in-Err-clause-written : goal.returns-in-Err-clause-written
returns-in-Err-clause-written g c = of_all_words (g.L.CommandLine.arguments c.args.line.now) _ (λ words. inl (untouched (g.O.Write.contents c.args.output.now)))

pub returns-clause-written : goal.returns-clause-written
returns-clause-written g c = (
  texts_of c.as_slice.result.now,
  subst (λ words. AreWords (g.L.CommandLine.arguments c.args.line.now) (texts_of words)) (sym c.as_slice.ensures.value) c.in-Ok.ensures.all,
  c.run-status.ensures.written,
)
