use Rattle.std.proofs.Common.{sym, subst, arith}
use Rattle.argon2_commands.specs.Fault.{IsBeforeOutput}
use Rattle.argon2_commands.proofs.Statuses.{untouched, answered_bounded, answered_not, answered_usage, at_three, at_two, fault_bounded, no_fault, usage_status}
use Rattle.argon2_commands.proofs.program.run.Goals as goal

pub returns-in-Ok-clause-answered : goal.returns-in-Ok-clause-answered
returns-in-Ok-clause-answered g c low = c.in-Ok.ensures.answered

pub returns-in-Ok-clause-bounded : goal.returns-in-Ok-clause-bounded
returns-in-Ok-clause-bounded g c = answered_bounded c.in-Ok.ensures.answered

pub returns-in-Ok-clause-usage : goal.returns-in-Ok-clause-usage
returns-in-Ok-clause-usage g c = answered_usage c.in-Ok.ensures.answered

pub returns-in-Ok-clause-refused : goal.returns-in-Ok-clause-refused
returns-in-Ok-clause-refused g c = answered_not 2 (omega arith) c.in-Ok.ensures.answered

pub returns-in-Ok-clause-unwritten : goal.returns-in-Ok-clause-unwritten
returns-in-Ok-clause-unwritten g c = answered_not 3 (omega arith) c.in-Ok.ensures.answered

pub returns-in-Ok-clause-unread : goal.returns-in-Ok-clause-unread
returns-in-Ok-clause-unread g c = c.in-Ok.ensures.unread

pub returns-in-Ok-clause-silent : goal.returns-in-Ok-clause-silent
returns-in-Ok-clause-silent g c low = untouched (g.E.Write.contents c.args.errors.now)

pub returns-in-Err-clause-bounded : goal.returns-in-Err-clause-bounded
returns-in-Err-clause-bounded g c =
    fault_bounded c.in-Err.fault c.report.result c.report.ensures

pub returns-in-Err-clause-answered : goal.returns-in-Err-clause-answered
returns-in-Err-clause-answered g c = no_fault c.in-Err.fault c.report.result c.report.ensures

pub returns-in-Err-clause-usage : goal.returns-in-Err-clause-usage
returns-in-Err-clause-usage g c = usage_status c.in-Err.fault c.report.result _ c.report.ensures c.in-Err.ensures.usage

pub returns-in-Err-clause-refused : goal.returns-in-Err-clause-refused
returns-in-Err-clause-refused g c =
    at_two c.in-Err.fault c.report.result _ _ _ _ c.report.ensures c.in-Err.ensures.refused c.in-Err.ensures.short c.in-Err.ensures.unwritten

pub returns-in-Err-clause-unwritten : goal.returns-in-Err-clause-unwritten
returns-in-Err-clause-unwritten g c three =
    c.in-Err.ensures.unwritten (subst IsBeforeOutput (sym (at_three c.in-Err.fault c.report.result c.report.ensures three)) tt)

pub returns-in-Err-clause-unread : goal.returns-in-Err-clause-unread
returns-in-Err-clause-unread g c = c.in-Err.ensures.unread

pub returns-in-Err-clause-silent : goal.returns-in-Err-clause-silent
returns-in-Err-clause-silent g c = no_fault c.in-Err.fault c.report.result c.report.ensures
