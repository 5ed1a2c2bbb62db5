use Rattle.std.proofs.Common.{Err, Ok, inl, inr, refl, string_bytes, subst}
use Rattle.std.proofs.lemmas.Result.{IfOk-from_err}
use Rattle.argon2_standard.specs.declared.error.Error.TheVariants.{OutOfMemory}
use Rattle.argon2_commands.specs.Answer.{HashAnswers, IsHashError, MayBeError, NeedsNoInput, VerifyAnswers}
use Rattle.argon2_commands.proofs.Statuses.{passed_on, read_fault, untouched}
use Rattle.argon2_commands.proofs.Passwords.{hash_of_input, error_of_input, verify_of_input}
use Rattle.argon2_commands.proofs.answer.Answer.to.Goals as goal

-- ---- the clauses on faults, on answers and on input that stays unread

pub returns-in_err-verdict-in-Verify-clause-fault :
    goal.returns-in_err-verdict-in-Verify-clause-fault
returns-in_err-verdict-in-Verify-clause-fault g c = rw c.in-Verify.is
    (passed_on _ _ _ c.from_residual-in_err-verdict-in-Verify.ensures (inr (verify_of_input _ _ _ _ c.in_ok-password-in-Verify.ensures.bytes
    (subst (λ read. VerifyAnswers c.in-Verify.encoded.now read (Err c.in_err-verdict-in-Verify.field-0.0)) c.as_slice-in-Verify.ensures.value
    (record { unspelled = c.in_err-verdict-in-Verify.ensures.unspelled; spelled = c.in_err-verdict-in-Verify.ensures.spelled })))))

pub returns-in_err-needs_rehash-in-Rehash-clause-fault :
    goal.returns-in_err-needs_rehash-in-Rehash-clause-fault
returns-in_err-needs_rehash-in-Rehash-clause-fault g c = rw c.in-Rehash.is
    (passed_on _ _ _ c.from_residual-in_err-needs_rehash-in-Rehash.ensures (record {
      unspelled = c.in_err-needs_rehash-in-Rehash.ensures.unspelled;
      spelled = c.in_err-needs_rehash-in-Rehash.ensures.spelled;
    }))

pub returns-in_ok-needs_rehash-in-Rehash-clause-answer :
    goal.returns-in_ok-needs_rehash-in-Rehash-clause-answer
returns-in_ok-needs_rehash-in-Rehash-clause-answer g c = rw c.in-Rehash.is (record {
  unspelled = c.in_ok-needs_rehash-in-Rehash.ensures.unspelled;
  spelled = c.in_ok-needs_rehash-in-Rehash.ensures.spelled;
})

pub returns-in_err-password-in-Hash-clause-answer : goal.returns-in_err-password-in-Hash-clause-answer
returns-in_err-password-in-Hash-clause-answer g c = IfOk-from_err _ _ c.from_residual.ensures.0

pub returns-in_err-password-in-Hash-clause-fault : goal.returns-in_err-password-in-Hash-clause-fault
returns-in_err-password-in-Hash-clause-fault g c =
    let may : MayBeError c.args.command.now (g.I.Read.remaining c.args.input.now) OutOfMemory = rw c.in-Hash.is (inl refl) in
    passed_on _ _ _ c.from_residual.ensures (read_fault _ _ _ c.in_err-password-in-Hash.ensures.fault may)

pub returns-in_err-password-in-Hash-clause-unread : goal.returns-in_err-password-in-Hash-clause-unread
returns-in_err-password-in-Hash-clause-unread g c need = absurd (subst NeedsNoInput c.in-Hash.is need)

pub returns-in_err-password-in-Verify-clause-answer : goal.returns-in_err-password-in-Verify-clause-answer
returns-in_err-password-in-Verify-clause-answer g c = IfOk-from_err _ _ c.from_residual-in_err-password-in-Verify.ensures.0

pub returns-in_err-password-in-Verify-clause-fault : goal.returns-in_err-password-in-Verify-clause-fault
returns-in_err-password-in-Verify-clause-fault g c =
    let may : MayBeError c.args.command.now (g.I.Read.remaining c.args.input.now) OutOfMemory = rw c.in-Verify.is (inl refl) in
    passed_on _ _ _ c.from_residual-in_err-password-in-Verify.ensures (read_fault _ _ _ c.in_err-password-in-Verify.ensures.fault may)

pub returns-in_err-password-in-Verify-clause-unread : goal.returns-in_err-password-in-Verify-clause-unread
returns-in_err-password-in-Verify-clause-unread g c need = absurd (subst NeedsNoInput c.in-Verify.is need)

pub returns-in_err-lines-in-Hash-clause-unread : goal.returns-in_err-lines-in-Hash-clause-unread
returns-in_err-lines-in-Hash-clause-unread g c need = absurd (subst NeedsNoInput c.in-Hash.is need)

pub returns-in_ok-lines-in-Hash-clause-unread : goal.returns-in_ok-lines-in-Hash-clause-unread
returns-in_ok-lines-in-Hash-clause-unread g c need = absurd (subst NeedsNoInput c.in-Hash.is need)

pub returns-in_err-verdict-in-Verify-clause-unread : goal.returns-in_err-verdict-in-Verify-clause-unread
returns-in_err-verdict-in-Verify-clause-unread g c need = absurd (subst NeedsNoInput c.in-Verify.is need)

pub returns-in_ok-verdict-in-Verify-clause-unread : goal.returns-in_ok-verdict-in-Verify-clause-unread
returns-in_ok-verdict-in-Verify-clause-unread g c need = absurd (subst NeedsNoInput c.in-Verify.is need)

pub returns-in_err-lines-in-Hash-clause-answer : goal.returns-in_err-lines-in-Hash-clause-answer
returns-in_err-lines-in-Hash-clause-answer g c = IfOk-from_err _ _ c.from_residual-in_err-lines-in-Hash.ensures.0

pub returns-in_err-verdict-in-Verify-clause-answer : goal.returns-in_err-verdict-in-Verify-clause-answer
returns-in_err-verdict-in-Verify-clause-answer g c = IfOk-from_err _ _ c.from_residual-in_err-verdict-in-Verify.ensures.0

pub returns-in_err-needs_rehash-in-Rehash-clause-answer : goal.returns-in_err-needs_rehash-in-Rehash-clause-answer
returns-in_err-needs_rehash-in-Rehash-clause-answer g c = IfOk-from_err _ _ c.from_residual-in_err-needs_rehash-in-Rehash.ensures.0

pub returns-in_err-needs_rehash-in-Rehash-clause-unread : goal.returns-in_err-needs_rehash-in-Rehash-clause-unread
returns-in_err-needs_rehash-in-Rehash-clause-unread g c need = untouched (g.I.Read.remaining c.args.input.now)

pub returns-in_ok-needs_rehash-in-Rehash-clause-unread : goal.returns-in_ok-needs_rehash-in-Rehash-clause-unread
returns-in_ok-needs_rehash-in-Rehash-clause-unread g c need = untouched (g.I.Read.remaining c.args.input.now)

pub returns-in_err-lines-in-Hash-clause-fault : goal.returns-in_err-lines-in-Hash-clause-fault
returns-in_err-lines-in-Hash-clause-fault g c = rw c.in-Hash.is
    (passed_on _ _ _ c.from_residual-in_err-lines-in-Hash.ensures (inr (error_of_input _ _ _ _ _ c.in_ok-password-in-Hash.ensures.bytes
    (subst (λ read. IsHashError c.in-Hash.config c.in-Hash.salt.now read c.in_err-lines-in-Hash.field-0.0) c.as_slice.ensures.value
    (subst (λ salt. IsHashError c.in-Hash.config salt c.as_slice.result.now c.in_err-lines-in-Hash.field-0.0)
    c.as_bytes.ensures.value c.in_err-lines-in-Hash.ensures.refused)))))

pub returns-in_ok-lines-in-Hash-clause-answer : goal.returns-in_ok-lines-in-Hash-clause-answer
returns-in_ok-lines-in-Hash-clause-answer g c = rw c.in-Hash.is (hash_of_input _ _ _ _ _ c.in_ok-password-in-Hash.ensures.bytes
    (subst (λ read. HashAnswers c.in-Hash.config c.in-Hash.salt.now read (string_bytes c.in_ok-lines-in-Hash.lines)) c.as_slice.ensures.value
    (subst (λ salt. HashAnswers c.in-Hash.config salt c.as_slice.result.now (string_bytes c.in_ok-lines-in-Hash.lines))
    c.as_bytes.ensures.value
    (record { accepted = c.in_ok-lines-in-Hash.ensures.accepted; written = c.in_ok-lines-in-Hash.ensures.lines }))))

pub returns-in_ok-verdict-in-Verify-clause-answer : goal.returns-in_ok-verdict-in-Verify-clause-answer
returns-in_ok-verdict-in-Verify-clause-answer g c = rw c.in-Verify.is (verify_of_input _ _ _ _ c.in_ok-password-in-Verify.ensures.bytes
    (subst (λ read. VerifyAnswers c.in-Verify.encoded.now read (Ok c.in_ok-verdict-in-Verify.verdict)) c.as_slice-in-Verify.ensures.value
    (record { unspelled = c.in_ok-verdict-in-Verify.ensures.unspelled; spelled = c.in_ok-verdict-in-Verify.ensures.spelled })))
