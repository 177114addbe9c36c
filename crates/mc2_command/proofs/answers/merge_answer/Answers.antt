use Rattle.std.proofs.Common.{Err, ap, subst}
use Rattle.program.specs.Inputs.{bytes_of}
use Rattle.records.specs.{RecordStates.received_record, Settings.Settings}
use Rattle.mc2_command.specs.Refused.{IsNoOrder}
use Rattle.mc2_command.proofs.Answered.{no_order}
use Rattle.mc2_command.proofs.answers.merge_answer.Goals as goal

pub returns-in-Err-clause-refused : goal.returns-in-Err-clause-refused
returns-in-Err-clause-refused g c =
    no_order (g.I.Inputs.held c.args.inputs.now) (bytes_of c.args.record) (received_record c.in_ok-settings.judge) c.in-Err.cause c.no_order.result c.in_ok-settings.ensures.found
    (λ f e. c.in-Err.ensures.unsound f (ap Err e)) (λ l e. c.in-Err.ensures.cycle l (ap Err e))
    (subst (λ (s : Settings). IsNoOrder s c.in-Err.cause c.no_order.result) c.in_ok-settings.ensures.settings c.no_order.ensures)
