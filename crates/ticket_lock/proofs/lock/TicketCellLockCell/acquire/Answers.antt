use Rattle.std.proofs.Common.{refl, subst, ◌∙◌, [], ◌∷◌, true, false, arith}
use Rattle.word_rule.specs.{Cell.Grows, Passes.{view_of_pass, run_of_pass, run_of_hold, state_of_hold}}
use Rattle.word_rule.proofs.{Lists.grows_then, Acting.takes_log, OneHolds.{since_moved, acquired_at_once, acquired_queued}}
use Rattle.ticket_lock.specs.Passes.{view_of_drawn, state_of_drawn}
use Rattle.word_rule.specs.declared.machine.step_done.StepDone.TheVariants as steps
use Rattle.ticket_lock.proofs.lock.TicketCellLockCell.acquire.Goals as goal

pub returns-in-Ok-clause-caller : goal.returns-in-Ok-clause-caller
returns-in-Ok-clause-caller g c = let got = c.in-Ok.ensures.got.1.1 in got.caller ∙ c.draw-drawn.ensures.step.1.caller

pub returns-in-Ok-clause-grows : goal.returns-in-Ok-clause-grows
returns-in-Ok-clause-grows g c = let d = c.draw-drawn.result in let h = c.in-Ok.hold in let p = view_of_pass c.args.pass in let made = c.draw-drawn.ensures.step.1 in
    let taken = takes_log g.O.SeqObject _ _ _ h.inside.logged (state_of_drawn d) (state_of_hold h) c.in-Ok.ensures.got.1.1 refl in
    grows_then p.caller.owned p.seen (view_of_drawn d).seen h.inside.logged.log made.grows (subst (λ k. Grows k.owned (view_of_drawn d).seen h.inside.logged.log) made.caller taken)

pub returns-in-Ok-clause-run : goal.returns-in-Ok-clause-run
returns-in-Ok-clause-run g c = let p = c.args.pass in let made = c.draw-drawn.ensures.step.1 in let h = c.in-Ok.hold in
    acquired_at_once g.O.SeqObject (view_of_pass p).caller (run_of_pass p) 1 h.inside.logged (steps.Draw ∷ []) (steps.Look true ∷ []) _ _ (state_of_drawn c.draw-drawn.result) (state_of_hold h) record { before = steps.Draw ∷ []; last = steps.Look true; is = refl; got = refl; once = refl; arrived = refl; unended = refl } (omega arith) (made.caller, made.extends) c.in-Ok.ensures.got.1.1 refl h.holds.ran.left

pub returns-in-Err-clause-caller : goal.returns-in-Err-clause-caller
returns-in-Err-clause-caller g c = c.look_on.ensures.caller ∙ (c.in-Err.ensures.missed.1.1.made.caller ∙ c.draw-drawn.ensures.step.1.caller)

pub returns-in-Err-clause-grows : goal.returns-in-Err-clause-grows
returns-in-Err-clause-grows g c = let d = c.draw-drawn.result in let m = c.in-Err.missed in let h = c.look_on.result.0 in let p = view_of_pass c.args.pass in let drew = c.draw-drawn.ensures.step.1 in let looked = c.in-Err.ensures.missed.1.1.made in
    let to_look : Grows p.caller.owned (view_of_drawn d).seen (view_of_drawn m).seen = subst (λ k. Grows k.owned (view_of_drawn d).seen (view_of_drawn m).seen) drew.caller looked.grows in
    let on : Grows p.caller.owned (view_of_drawn m).seen h.inside.logged.log = subst (λ k. Grows k.owned (view_of_drawn m).seen h.inside.logged.log) (looked.caller ∙ drew.caller) c.look_on.ensures.grows in
    grows_then p.caller.owned p.seen (view_of_drawn d).seen h.inside.logged.log drew.grows (grows_then p.caller.owned (view_of_drawn d).seen (view_of_drawn m).seen h.inside.logged.log to_look on)

pub returns-in-Err-clause-run : goal.returns-in-Err-clause-run
returns-in-Err-clause-run g c = let p = c.args.pass in let d = state_of_drawn c.draw-drawn.result in let m = state_of_drawn c.in-Err.missed in let drew = c.draw-drawn.ensures.step.1 in
    acquired_queued (view_of_pass p).caller (run_of_pass p) (steps.Draw ∷ steps.Look false ∷ []) (steps.Look false ∷ []) c.look_on.result.1 c.look_on.result.0.inside.logged.log (run_of_hold c.look_on.result.0) m record { arrived = refl; got = refl; unended = refl; looked = refl } (since_moved g.O.SeqObject (view_of_pass p).caller (run_of_pass p) (steps.Draw ∷ []) (steps.Look false ∷ []) _ _ d m (drew.caller, drew.extends) c.in-Err.ensures.missed.1.1.made) c.look_on.ensures.run
