use Rattle.std.proofs.Common.{◌≡◌, Err, ap, inl, inr, sym, subst, ◌∙◌}
use Rattle.std.specs.Io.KnownBytes.{Appends}
use Rattle.std.proofs.lemmas.Result.{IfOk-from_err, err_from_is_err_and}
use Rattle.argon2_commands.specs.Fault.{IsBeforeOutput}
use Rattle.argon2_commands.specs.Run.{AppendsFront}
use Rattle.argon2_commands.specs.Words.{texts_of}
use Rattle.argon2_commands.specs.declared.fault.Fault.TheVariants.{Usage, Refused}
use Rattle.argon2_commands.proofs.Statuses.{answer_is_no_usage, output_is_not, same_error, status_is_no_usage, is_no_output, is_refused, passed_on, untouched}
use Rattle.argon2_commands.proofs.runs.attempt.Goals as goal

-- ---- words of no command

pub returns-in_err-command-clause-answered : goal.returns-in_err-command-clause-answered
returns-in_err-command-clause-answered g c = IfOk-from_err _ _ c.from_residual.ensures.0

pub returns-in_err-command-clause-usage : goal.returns-in_err-command-clause-usage
returns-in_err-command-clause-usage g c =
    let p = err_from_is_err_and c.from_residual.result c.from_residual.ensures.1 in
    (λ _. c.in_err-command.ensures.0, λ _. p.1 ∙ ap Err (p.2 ∙ c.in_err-command.ensures.1))

pub returns-in_err-command-clause-refused : goal.returns-in_err-command-clause-refused
returns-in_err-command-clause-refused g c =
    passed_on c.from_residual.result c.in_err-command.field-0.0 _ c.from_residual.ensures (λ error refused. absurd (cc (c.in_err-command.ensures.1, refused)))

pub returns-in_err-command-clause-short : goal.returns-in_err-command-clause-short
returns-in_err-command-clause-short g c =
    passed_on c.from_residual.result c.in_err-command.field-0.0 _ c.from_residual.ensures (λ short. absurd (cc (c.in_err-command.ensures.1, short)))

pub returns-in_err-command-clause-unwritten : goal.returns-in_err-command-clause-unwritten
returns-in_err-command-clause-unwritten g c =
    passed_on c.from_residual.result c.in_err-command.field-0.0 _ c.from_residual.ensures (λ _. untouched (g.O.Write.contents c.args.output.now))

pub returns-in_err-command-clause-written : goal.returns-in_err-command-clause-written
returns-in_err-command-clause-written g c = inl (untouched (g.O.Write.contents c.args.output.now))

pub returns-in_err-command-clause-stops : goal.returns-in_err-command-clause-stops
returns-in_err-command-clause-stops g c =
    inr (c.in_err-command.ensures.0, untouched (g.I.Read.remaining c.args.input.now))

pub returns-in_err-command-clause-unread : goal.returns-in_err-command-clause-unread
returns-in_err-command-clause-unread g c _ = untouched (g.I.Read.remaining c.args.input.now)

-- ---- a command that has no answer

pub returns-in_err-answer-clause-answered : goal.returns-in_err-answer-clause-answered
returns-in_err-answer-clause-answered g c = IfOk-from_err _ _ c.from_residual-in_err-answer.ensures.0

pub returns-in_err-answer-clause-usage : goal.returns-in_err-answer-clause-usage
returns-in_err-answer-clause-usage g c =
    let p = err_from_is_err_and c.from_residual-in_err-answer.result c.from_residual-in_err-answer.ensures.1 in (
      λ usage. answer_is_no_usage c.in_err-answer.field-0.0 _ _ c.in_err-answer.ensures.fault (sym p.2 ∙ same_error _ _ (sym p.1 ∙ usage)),
      λ none. absurd (none c.in_ok-command.command c.in_ok-command.ensures),
    )

pub returns-in_err-answer-clause-refused : goal.returns-in_err-answer-clause-refused
returns-in_err-answer-clause-refused g c =
    passed_on c.from_residual-in_err-answer.result c.in_err-answer.field-0.0 _ c.from_residual-in_err-answer.ensures
    (is_refused (texts_of c.args.words.now) (g.I.Read.remaining c.args.input.now) c.in_ok-command.command c.in_err-answer.field-0.0 c.in_ok-command.ensures
    c.in_err-answer.ensures.fault)

pub returns-in_err-answer-clause-short : goal.returns-in_err-answer-clause-short
returns-in_err-answer-clause-short g c =
    passed_on c.from_residual-in_err-answer.result c.in_err-answer.field-0.0 _ c.from_residual-in_err-answer.ensures
    (is_no_output c.in_err-answer.field-0.0 _ _ c.in_err-answer.ensures.fault)

pub returns-in_err-answer-clause-unwritten : goal.returns-in_err-answer-clause-unwritten
returns-in_err-answer-clause-unwritten g c =
    passed_on c.from_residual-in_err-answer.result c.in_err-answer.field-0.0 _ c.from_residual-in_err-answer.ensures
    (λ _. untouched (g.O.Write.contents c.args.output.now))

pub returns-in_err-answer-clause-written : goal.returns-in_err-answer-clause-written
returns-in_err-answer-clause-written g c = inl (untouched (g.O.Write.contents c.args.output.now))

pub returns-in_err-answer-clause-stops : goal.returns-in_err-answer-clause-stops
returns-in_err-answer-clause-stops g c =
    inl (record { command = c.in_ok-command.command; is_command = c.in_ok-command.ensures; stops = c.to.ensures.stops })

pub returns-in_err-answer-clause-unread : goal.returns-in_err-answer-clause-unread
returns-in_err-answer-clause-unread g c need =
    c.to.ensures.unread (need c.in_ok-command.command c.in_ok-command.ensures)

-- ---- an answer that is written

pub returns-in-Ok-clause-answered : goal.returns-in-Ok-clause-answered
returns-in-Ok-clause-answered g c = record {
  command = c.in_ok-command.command;
  answer = c.in_ok-answer.answer;
  is_command = c.in_ok-command.ensures;
  is_answer = c.in_ok-answer.ensures.answer;
  is_status = c.status.ensures;
  is_written =
      subst (λ lines. Appends (g.O.Write.contents c.args.output.now) (g.O.Write.contents c.write_lines.new.output) lines) c.lines.ensures
      c.in-Ok.ensures.whole;
}

pub returns-in-Ok-clause-usage : goal.returns-in-Ok-clause-usage
returns-in-Ok-clause-usage g c =
    (λ usage. status_is_no_usage c.status.result usage, λ none. absurd (none c.in_ok-command.command c.in_ok-command.ensures))

pub returns-in-Ok-clause-written : goal.returns-in-Ok-clause-written
returns-in-Ok-clause-written g c = inr (record {
  command = c.in_ok-command.command;
  answer = c.in_ok-answer.answer;
  is_command = c.in_ok-command.ensures;
  is_answer = c.in_ok-answer.ensures.answer;
  is_front =
      subst (λ lines. AppendsFront (g.O.Write.contents c.args.output.now) (g.O.Write.contents c.write_lines.new.output) lines) c.lines.ensures
      c.in-Ok.ensures.front;
})

pub returns-in-Ok-clause-stops : goal.returns-in-Ok-clause-stops
returns-in-Ok-clause-stops g c =
    inl (record { command = c.in_ok-command.command; is_command = c.in_ok-command.ensures; stops = c.to.ensures.stops })

pub returns-in-Ok-clause-unread : goal.returns-in-Ok-clause-unread
returns-in-Ok-clause-unread g c need =
    c.to.ensures.unread (need c.in_ok-command.command c.in_ok-command.ensures)

-- ---- an answer that cannot be written

pub returns-clause-usage : goal.returns-clause-usage
returns-clause-usage g c = (
  λ usage. output_is_not c.of_stream.result (λ fault. fault ≡ Usage) c.of_stream.ensures.short c.of_stream.ensures.other (λ e. cc (e)) (λ e. cc (e))
      (same_error _ _ usage),
  λ none. absurd (none c.in_ok-command.command c.in_ok-command.ensures),
)

pub returns-clause-refused : goal.returns-clause-refused
returns-clause-refused g c error =
    output_is_not c.of_stream.result (λ fault. fault ≡ Refused error) c.of_stream.ensures.short c.of_stream.ensures.other (λ e. cc (e)) (λ e. cc (e))

pub returns-clause-short : goal.returns-clause-short
returns-clause-short g c _ = record {
  command = c.in_ok-command.command;
  answer = c.in_ok-answer.answer;
  is_command = c.in_ok-command.ensures;
  is_answer = c.in_ok-answer.ensures.answer;
}

pub returns-clause-unwritten : goal.returns-clause-unwritten
returns-clause-unwritten g c =
    output_is_not c.of_stream.result IsBeforeOutput c.of_stream.ensures.short c.of_stream.ensures.other (λ wrote. wrote) (λ wrote. wrote)

pub returns-clause-written : goal.returns-clause-written
returns-clause-written g c = inr (record {
  command = c.in_ok-command.command;
  answer = c.in_ok-answer.answer;
  is_command = c.in_ok-command.ensures;
  is_answer = c.in_ok-answer.ensures.answer;
  is_front =
      subst (λ lines. AppendsFront (g.O.Write.contents c.args.output.now) (g.O.Write.contents c.write_lines.new.output) lines) c.lines.ensures
      c.write_lines.ensures.front;
})

pub returns-clause-stops : goal.returns-clause-stops
returns-clause-stops g c =
    inl (record { command = c.in_ok-command.command; is_command = c.in_ok-command.ensures; stops = c.to.ensures.stops })

pub returns-clause-unread : goal.returns-clause-unread
returns-clause-unread g c need =
    c.to.ensures.unread (need c.in_ok-command.command c.in_ok-command.ensures)
