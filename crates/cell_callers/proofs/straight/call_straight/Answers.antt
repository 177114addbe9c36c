use Rattle.std.proofs.Common.{◌≡◌, ◌∙◌, ap, refl, sym, Some}
use Rattle.std_alloc.specs.Arc.{arc_value}
use Rattle.guarded_cell.specs.{declared.cell.AnyCell.TheVariants.Ticket, AnyCallers.idle_caller}
use Rattle.cell_callers.proofs.{Places.{is_there, rested_there}, CallReports.{called_there, idle_one}}
use Rattle.cell_callers.proofs.straight.call_straight.Goals as goal

pub straight_ticket-requires-clause-one : goal.straight_ticket-requires-clause-one
straight_ticket-requires-clause-one c =
    let caller = c.args.caller.now in
    (idle_one (arc_value caller.cell) caller.place c.in-Some.pass (sym c.replace.ensures.value ∙ c.in-Some.is) (is_there _ _ _ refl caller.there caller.of caller.one)).1

pub go_on-requires : goal.go_on-requires
go_on-requires c =
    let caller = c.args.caller.now in
    rw c.deref-any.ensures (rw (c.replace.ensures.after ∙ (sym c.in-None.is ∙ c.replace.ensures.value)) (is_there _ _ _ refl caller.there caller.of caller.one))

pub from_pass-requires-clause-place : goal.from_pass-requires-clause-place
from_pass-requires-clause-place c =
    let caller = c.args.caller.now in
    rw c.deref-any.ensures (rw (c.replace-in-Mcs.ensures.after ∙ (sym c.in-None-replace.is ∙ c.replace-in-Mcs.ensures.value)) (is_there _ _ _ refl caller.there caller.of caller.one))

pub returns-in-Some-clause-reports : goal.returns-in-Some-clause-reports
returns-in-Some-clause-reports c =
    let caller = c.args.caller.now in
    let cell = arc_value caller.cell in
    let pass = c.in-Some.pass in
    let same : Ticket c.in-Ticket.cell ≡ cell = sym c.in-Ticket.is ∙ c.deref-any.ensures in
    let idle = idle_one cell caller.place pass (sym c.replace.ensures.value ∙ c.in-Some.is) (is_there _ _ _ refl caller.there caller.of caller.one) in
    called_there _ _ same (idle.0 ∙ ap (λ z. Some (idle_caller z pass)) (sym same)) c.straight_ticket.ensures.reports

pub returns-in-None-clause-reports : goal.returns-in-None-clause-reports
returns-in-None-clause-reports c =
    let reports = rw c.deref-any.ensures at c.go_on.ensures.reports in
    rw (c.replace.ensures.after ∙ (sym c.in-None.is ∙ c.replace.ensures.value)) at reports

pub returns-in-Some-replace-clause-reports : goal.returns-in-Some-replace-clause-reports
returns-in-Some-replace-clause-reports c =
    let caller = c.args.caller.now in
    let there = (rested_there (arc_value caller.cell) _ _ _ _ (sym c.replace-in-Mcs.ensures.value ∙ c.in-Some-replace.is) caller.there).2 in
    called_there _ _ c.deref-any.ensures there c.straight_mcs.ensures.reports

pub returns-in-None-replace-clause-reports : goal.returns-in-None-replace-clause-reports
returns-in-None-replace-clause-reports c =
    let reports = rw (c.replace-in-Mcs.ensures.after ∙ (sym c.in-None-replace.is ∙ c.replace-in-Mcs.ensures.value)) at c.from_pass.ensures.reports in
    rw c.deref-any.ensures at reports
