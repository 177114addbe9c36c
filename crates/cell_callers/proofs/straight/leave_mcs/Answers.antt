use Rattle.std.proofs.Common.{◌∙◌, zero, suc, true, false, inl, inr, refl}
use Rattle.guarded_cell.specs.declared.cell.AnyCell.TheVariants.{Mcs}
use Rattle.cell_callers.proofs.Places.{stands_idle, stands_rested, stands_in_line}
use Rattle.mcs_lock.specs.declared.caller.McsCaller.TheVariants as at_mcs
use Rattle.guarded_cell.specs.declared.any_caller.AnyCaller.TheVariants as callers
use Rattle.cell_callers.proofs.straight.leave_mcs.Goals as goal

pub returns-in-Ok : goal.returns-in-Ok
returns-in-Ok c =
    let found = c.in-Ok.ensures.found.1 in
    let step = c.pass_on.ensures.step in
    (true, callers.Mcs (at_mcs.Idle c.pass_on.result), stands_idle (Mcs c.args.cell.now) _ _ _ c.pass_on.result refl c.requires.away.1 c.requires.away.2, c.pass_on.ensures.pass, step.2.caller ∙ found.2.made.caller, (suc zero, (callers.Mcs (at_mcs.Passing c.in-Ok.passing), inl (inl found), inr step)), refl)

pub returns-in-Ok-rest : goal.returns-in-Ok-rest
returns-in-Ok-rest c =
    let none = c.in-Err.ensures.none.1 in
    let home = c.in-Ok-rest.ensures.home in
    (true, callers.Mcs (at_mcs.Rested c.in-Ok-rest.rested), stands_rested (Mcs c.args.cell.now) _ _ _ _ c.requires.away.0 c.put_in.ensures c.requires.away.2, home.0, home.1.caller ∙ none.caller, (suc zero, (callers.Mcs (at_mcs.Alone c.in-Err.alone), inl (inr none), inl home.1)), refl)

pub returns-in-Err-rest : goal.returns-in-Err-rest
returns-in-Err-rest c =
    let none = c.in-Err.ensures.none.1 in
    let missed = c.in-Err-rest.ensures.missed in
    let leaving = callers.Mcs (at_mcs.Leaving c.in-Err-rest.leaving) in
    (false, leaving, stands_in_line (Mcs c.args.cell.now) _ _ _ _ c.requires.away.0 c.requires.away.1 c.keep.ensures.line refl, missed.0, missed.1.made.caller ∙ none.caller, (suc zero, (callers.Mcs (at_mcs.Alone c.in-Err.alone), inl (inr none), inr (inl missed.1)), refl), c.keep.ensures.reported)
