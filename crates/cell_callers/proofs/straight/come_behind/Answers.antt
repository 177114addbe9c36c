use Rattle.std.proofs.Common.{◌∙◌, ap, subst, sym}
use Rattle.kernel_object.specs.contracts.object.KernelObjectSeqObject.TheImpl.{ghosts}
use Rattle.word_rule.specs.{Passes.state_of_hold, Polls.after_poll}
use Rattle.guarded_cell.specs.AnyCallers.{state_of_caller}
use Rattle.cell_callers.specs.Callers.{IsOne}
use Rattle.cell_callers.proofs.CallReports.{lined_caller, lined_up}
use Rattle.cell_callers.proofs.straight.come_behind.Goals as goal

pub returns-clause-place : goal.returns-clause-place
returns-clause-place c =
    let done = c.call_polled-caller in
    let same = done.ensures.caller ∙ (ap (λ z. (after_poll ghosts state_of_hold state_of_caller z).caller) c.polled_mcs.ensures ∙ (lined_caller c.line_up.result ∙ c.line_up.ensures.caller)) in
    (done.result.0, c.put.ensures, done.ensures.of, subst IsOne (sym same) c.requires.one)

pub returns-clause-reports : goal.returns-clause-reports
returns-clause-reports c = λ p entered.
    let done = c.call_polled-caller in
    (done.result.1, done.result.0, (c.call_code.ensures.code, c.call_code.ensures.looks), c.put.ensures, done.ensures.called p (rw c.in-Mcs.is (rw c.polled_mcs.ensures (lined_up p entered.0 c.args.behind _ entered.1 entered.2 c.line_up.ensures.goes))))
