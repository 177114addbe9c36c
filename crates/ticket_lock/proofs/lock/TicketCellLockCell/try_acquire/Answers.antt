use Rattle.std.proofs.Common.{refl, sym, ap, subst, [], ◌∷◌, true, arith}
use Rattle.word_rule.specs.{LockRuns.Extends, Passes.{view_of_pass, run_of_pass, state_of_hold}}
use Rattle.word_rule.proofs.{OneHolds.{acquired_at_once, if_ok}, RunLists.extends_self}
use Rattle.ticket_lock.specs.Passes.{state_of_trying}
use Rattle.word_rule.specs.declared.machine.step_done.StepDone.TheVariants as steps
use Rattle.ticket_lock.proofs.lock.TicketCellLockCell.try_acquire.Goals as goal

pub returns-in-Ok-clause-run : goal.returns-in-Ok-clause-run
returns-in-Ok-clause-run g c = let p = c.args.pass in let t = c.in-Ok.trying in let e = c.in-Ok.ensures.trying in let owned = (view_of_pass p).caller.owned in
    if_ok c.exchange.result
    (λ h x. (
      1,
      omega arith,
      acquired_at_once g.O.SeqObject (view_of_pass p).caller (run_of_pass p) 1 h.inside.logged [] (steps.Draw ∷ steps.Look true ∷ []) _ _ (state_of_trying t) (state_of_hold h) record { before = steps.Draw ∷ []; last = steps.Look true; is = refl; got = refl; once = refl; arrived = refl; unended = refl } (omega arith)
          (ap (λ z. z.caller) e.1, subst (Extends owned (run_of_pass p) []) (sym e.2) (extends_self owned (run_of_pass p))) x.1.1 refl h.holds.ran.left,
    ))
    c.exchange.ensures.got

pub returns-in-Err-clause-busy_run : goal.returns-in-Err-clause-busy_run
returns-in-Err-clause-busy_run g c = let p = c.args.pass in subst (Extends (view_of_pass p).caller.owned (run_of_pass p) []) (sym c.in-Err.ensures.busy.2) (extends_self (view_of_pass p).caller.owned (run_of_pass p))
