use Rattle.std.proofs.Common.{refl, subst, ◌∙◌, [], ◌∷◌, ◌++◌, true, false, arith}
use Rattle.word_rule.specs.{Cell.Grows, Passes.{run_of_hold, state_of_hold}}
use Rattle.word_rule.proofs.{Lists.{grows_self, grows_then}, Acting.takes_log, RunLists.extends_self, OneHolds.{waits_more, looks_more, found_left, since_more, since_moved}}
use Rattle.ticket_lock.specs.Passes.{view_of_drawn, state_of_drawn}
use Rattle.word_rule.specs.declared.machine.step_done.StepDone.TheVariants as steps
use Rattle.ticket_lock.proofs.cell.TicketCell.look_on.Goals as goal

pub loop-init : goal.loop-init
loop-init g c = let d = c.args.drawn in record {
  drawn = c.requires;
  caller = refl;
  grows = grows_self (view_of_drawn d).caller.owned (view_of_drawn d).seen;
  done = ([], record { arrived = refl; got = refl; unended = refl; looked = omega arith }, (refl, extends_self (view_of_drawn d).caller.owned (state_of_drawn d).run));
}

pub returns-in-Ok-clause-caller : goal.returns-in-Ok-clause-caller
returns-in-Ok-clause-caller g c = let got = c.in-Ok.ensures.got.1.1 in got.caller ∙ c.loop.invariant.caller

pub returns-in-Ok-clause-grows : goal.returns-in-Ok-clause-grows
returns-in-Ok-clause-grows g c = let i = c.loop.invariant in let d = c.loop.drawn in let h = c.in-Ok.hold in let b = view_of_drawn c.args.drawn in
    let taken = takes_log g.O.SeqObject _ _ _ h.inside.logged (state_of_drawn d) (state_of_hold h) c.in-Ok.ensures.got.1.1 refl in
    grows_then b.caller.owned b.seen (view_of_drawn d).seen h.inside.logged.log i.grows (subst (λ k. Grows k.owned (view_of_drawn d).seen h.inside.logged.log) i.caller taken)

pub returns-in-Ok-clause-run : goal.returns-in-Ok-clause-run
returns-in-Ok-clause-run g c = let i = c.loop.invariant in let d = c.loop.drawn in let h = c.in-Ok.hold in let b = c.args.drawn in let done = i.done.0 in let waits = i.done.1 in let got = c.in-Ok.ensures.got.1.1 in record {
  done = done;
  arrived = waits.arrived;
  got = waits.got;
  unended = waits.unended;
  looked = looks_more c.loop.looks c.saturating_add-looks.result (steps.Look false ∷ done) true waits.looked c.saturating_add-looks.ensures;
  left = found_left g.O.SeqObject (view_of_drawn b).caller h.inside.logged _ _ (steps.Look true ∷ []) (state_of_drawn d) (state_of_hold h) i.done.2.0 got refl h.holds.ran.left;
  extends = since_more (view_of_drawn b).caller (state_of_drawn b).run (run_of_hold h) done (steps.Look true ∷ []) (state_of_drawn d) i.done.2 got.extends;
}

pub loop-preserved : goal.loop-preserved
loop-preserved g c = let i = c.loop.invariant in let d = c.loop.drawn in let again = c.in-Err.again in let b = view_of_drawn c.args.drawn in let e = c.in-Err.ensures.missed in
    let made = e.1.1.made in
    record {
      drawn = e.0;
      caller = made.caller ∙ i.caller;
      grows = grows_then b.caller.owned b.seen (view_of_drawn d).seen (view_of_drawn again).seen i.grows (subst (λ k. Grows k.owned (view_of_drawn d).seen (view_of_drawn again).seen) i.caller made.grows);
      done = (
        i.done.0 ++ steps.Look false ∷ [],
        waits_more 0 c.loop.looks c.saturating_add-looks.result (steps.Look false ∷ i.done.0) i.done.1 c.saturating_add-looks.ensures,
        since_moved g.O.SeqObject b.caller (state_of_drawn c.args.drawn).run i.done.0 (steps.Look false ∷ []) _ _ (state_of_drawn d) (state_of_drawn again) i.done.2 made,
      );
    }
