use Rattle.std.proofs.Common.{◌∙◌, ap, refl, subst, sym, Some}
use Rattle.guarded_cell.specs.{declared.cell.AnyCell.TheVariants.Mcs, AnyCallers.idle_caller}
use Rattle.cell_callers.specs.Callers.{IsOne}
use Rattle.cell_callers.proofs.CallReports.{called_there, idle_one, left}
use Rattle.mcs_lock.specs.declared.caller.McsCaller.TheVariants as at_mcs
use Rattle.guarded_cell.specs.declared.any_caller.AnyCaller.TheVariants as callers
use Rattle.cell_callers.proofs.straight.from_pass.Goals as goal

pub go_on-requires : goal.go_on-requires
go_on-requires c = rw (c.replace.ensures.after ∙ (sym c.in_default.is ∙ c.replace.ensures.value)) c.requires.place

pub returns-in_default-clause-reports : goal.returns-in_default-clause-reports
returns-in_default-clause-reports c = rw (c.replace.ensures.after ∙ (sym c.in_default.is ∙ c.replace.ensures.value)) at c.go_on.ensures.reports

pub come_behind-requires-clause-one : goal.come_behind-requires-clause-one
come_behind-requires-clause-one c =
    let idle = idle_one c.args.any.now c.args.place.now c.in-Some.pass (sym c.replace.ensures.value ∙ c.in-Some.is) c.requires.place in
    subst IsOne (sym (c.in-Behind.ensures.queued.1.2.made.caller ∙ c.clear.ensures.step.caller)) idle.1

pub returns-in-Behind-clause-reports : goal.returns-in-Behind-clause-reports
returns-in-Behind-clause-reports c =
    let p = callers.Mcs (at_mcs.Idle c.in-Some.pass) in
    let idle = idle_one c.args.any.now c.args.place.now c.in-Some.pass (sym c.replace.ensures.value ∙ c.in-Some.is) c.requires.place in
    called_there _ _ refl (idle.0 ∙ ap (λ z. Some (idle_caller z c.in-Some.pass)) c.requires.cell) (c.come_behind.ensures.reports p (c.clear.result, c.clear.ensures.step, c.in-Behind.ensures.queued.1))

pub leave_mcs-requires-clause-hold : goal.leave_mcs-requires-clause-hold
leave_mcs-requires-clause-hold c = c.shared_apply_held.ensures.of (Mcs c.args.cell.now) c.in-Hold.ensures.got.0

pub returns : goal.returns
returns c =
    let p = callers.Mcs (at_mcs.Idle c.in-Some.pass) in
    let apply = c.shared_apply_held in
    let code = c.answer_code-reported in
    let idle = idle_one c.args.any.now c.args.place.now c.in-Some.pass (sym c.replace.ensures.value ∙ c.in-Some.is) c.requires.place in
    let done = left c.requires.cell p _ _ _ _ idle.1 (c.clear.result, c.clear.ensures.step, c.in-Hold.ensures.got.1) apply.ensures.caller apply.ensures.applied code.ensures c.leave_mcs.ensures in
    record {
      place = done.0;
      reports = called_there _ _ refl (idle.0 ∙ ap (λ z. Some (idle_caller z c.in-Some.pass)) c.requires.cell) done.1;
    }
