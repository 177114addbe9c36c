use Rattle.std.proofs.Common.{refl, ◌∙◌, [], ◌∷◌, ◌++◌, true, false, arith}
use Rattle.word_rule.proofs.{Acting.takes_log, CallerFacts.grows_on, OneHolds.{waits_more, looks_more, found_left, since_more, since_moved}}
use Rattle.mcs_lock.specs.Passes.{view_of_behind, state_of_behind, state_of_armed, state_of_waiting}
use Rattle.word_rule.specs.Passes.{run_of_hold, state_of_hold}
use Rattle.word_rule.specs.declared.machine.step_done.StepDone.TheVariants as steps
use Rattle.mcs_lock.proofs.cell.McsCell.wait_behind.Goals as goal

pub loop-init : goal.loop-init
loop-init g c = let b = c.args.behind in let a = c.arm-armed.result in let w = c.link-waiting.result in let arm = c.arm-armed.ensures.step.2 in let link = c.link-waiting.ensures.step.2 in record {
  waiting = c.link-waiting.ensures.waiting;
  caller = link.caller ∙ arm.caller;
  grows = grows_on (state_of_behind b) (state_of_armed a) w.outside.seat.me.0.main.seen arm.caller arm.grows link.grows;
  done = (
    steps.Arm ∷ steps.Link ∷ [],
    record { arrived = refl; got = refl; unended = refl; looked = omega arith },
    since_moved g.O.SeqObject (view_of_behind b).caller (state_of_behind b).run (steps.Arm ∷ []) (steps.Link ∷ []) _ _ (state_of_armed a) (state_of_waiting w) (arm.caller, arm.extends) link,
  );
}

pub returns-in-Ok-clause-grows : goal.returns-in-Ok-clause-grows
returns-in-Ok-clause-grows g c = let i = c.loop.invariant in let w = c.loop.waiting in let h = c.in-Ok.hold in
    grows_on (state_of_behind c.args.behind) (state_of_waiting w) h.inside.logged.log i.caller i.grows (takes_log g.O.SeqObject _ _ _ h.inside.logged (state_of_waiting w) (state_of_hold h) c.in-Ok.ensures.got.1 refl)

pub returns-in-Ok-clause-run : goal.returns-in-Ok-clause-run
returns-in-Ok-clause-run g c = let i = c.loop.invariant in let w = c.loop.waiting in let h = c.in-Ok.hold in let b = c.args.behind in let done = i.done.0 in let waits = i.done.1 in record {
  done = done;
  arrived = waits.arrived;
  got = waits.got;
  unended = waits.unended;
  looked = looks_more c.loop.looks c.saturating_add-looks.result done true waits.looked c.saturating_add-looks.ensures;
  left = found_left g.O.SeqObject (view_of_behind b).caller h.inside.logged _ _ (steps.Look true ∷ []) (state_of_waiting w) (state_of_hold h) i.done.2.0 c.in-Ok.ensures.got.1 refl h.holds.ran.left;
  extends = since_more (view_of_behind b).caller (state_of_behind b).run (run_of_hold h) done (steps.Look true ∷ []) (state_of_waiting w) i.done.2 c.in-Ok.ensures.got.1.extends;
}

pub loop-preserved : goal.loop-preserved
loop-preserved g c = let i = c.loop.invariant in let w = c.loop.waiting in let again = c.in-Err.again in let e = c.in-Err.ensures.missed in let b = c.args.behind in
    let made = e.1.made in
    record {
      waiting = e.0;
      caller = made.caller ∙ i.caller;
      grows = grows_on (state_of_behind c.args.behind) (state_of_waiting w) again.outside.seat.me.0.main.seen i.caller i.grows made.grows;
      done = (
        i.done.0 ++ steps.Look false ∷ [],
        waits_more 0 c.loop.looks c.saturating_add-looks.result i.done.0 i.done.1 c.saturating_add-looks.ensures,
        since_moved g.O.SeqObject (view_of_behind b).caller (state_of_behind b).run i.done.0 (steps.Look false ∷ []) _ _ (state_of_waiting w) (state_of_waiting again) i.done.2 made,
      );
    }
