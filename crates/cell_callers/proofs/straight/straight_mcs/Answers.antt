use Rattle.guarded_cell.specs.declared.cell.AnyCell.TheVariants.{Mcs}
use Rattle.cell_callers.proofs.CallReports.{left}
use Rattle.mcs_lock.specs.declared.caller.McsCaller.TheVariants as at_mcs
use Rattle.guarded_cell.specs.declared.any_caller.AnyCaller.TheVariants as callers
use Rattle.cell_callers.proofs.straight.straight_mcs.Goals as goal

pub returns-in-Behind-clause-reports : goal.returns-in-Behind-clause-reports
returns-in-Behind-clause-reports c = let t = c.in-Behind.ensures.queued.1 in c.come_behind.ensures.reports (callers.Mcs (at_mcs.Rested c.args.rested)) (t.0, t.2, t.3)

pub leave_mcs-requires-clause-hold : goal.leave_mcs-requires-clause-hold
leave_mcs-requires-clause-hold c = c.apply_held.ensures.of (Mcs c.args.cell.now) c.in-Hold.ensures.got.0

pub returns : goal.returns
returns c =
    let t = c.in-Hold.ensures.got.1 in
    let apply = c.apply_held in
    let code = c.answer_code-reported in
    let done = left c.requires.cell (callers.Mcs (at_mcs.Rested c.args.rested)) _ _ _ _ c.requires.one (t.0, t.2, t.3) apply.ensures.caller apply.ensures.applied code.ensures c.leave_mcs.ensures in
    record { place = done.0; reports = done.1 }
