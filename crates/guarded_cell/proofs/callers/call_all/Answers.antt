use Rattle.std.proofs.Common.{◌+◌, [], ◌∷◌, ◌++◌, take, refl, sym, ap, ◌∙◌, subst, arith, Result, IfOk, OnErr}
use Rattle.event_log.specs.{declared.logged.NoRoom.NoRoom, Log.one_step}
use Rattle.word_rule.specs.{Answered.{IsAnswered, IsRefused}, LockRuns.events_in, OneHold.HasHeld, Holds.HasHeldEach}
use Rattle.word_rule.proofs.{ManyHolds.leaves_none, RunLists.extends_self}
use Rattle.guarded_cell.specs.{Calls.HasEachCall, Held.{left_by_call, holds_of}}
use Rattle.guarded_cell.proofs.{Called.{called_nothing, called_next, called_full}, HeldCalls.{leaves_call, next_held, held_all}}
use Rattle.guarded_cell.proofs.callers.call_all.Goals as goal

pub loop-asked-init : goal.loop-asked-init
loop-asked-init g c = record { pass = c.requires; caller = refl; called = called_nothing (g.C.LockCell.pass_view c.args.pass); count = refl; run = extends_self (g.C.LockCell.pass_view c.args.pass).caller.owned (g.C.LockCell.pass_run c.args.pass) }

pub loop-asked-preserved : goal.loop-asked-preserved
loop-asked-preserved g c =
    let i = c.loop-asked.invariant in
    let b = c.call-back in
    let now = g.C.LockCell.pass_view c.loop-asked.pass in
    let held = subst (λ (v : Result g.row.O-Reply.Denot NoRoom). HasHeld now.caller (g.C.LockCell.pass_run c.loop-asked.pass) b.result.2 (left_by_call now.caller.acting c.asked-item.result v) (g.C.LockCell.pass_run b.result.0)) c.in-Ok.is b.ensures.run in
    let answered = subst (λ (v : Result g.row.O-Reply.Denot NoRoom). IfOk v (λ r. IsAnswered g.O.SeqObject now (c.asked-item.result ∷ []) (one_step c.asked-item.result r) (g.C.LockCell.pass_view b.result.0))) c.in-Ok.is b.ensures.answered in
    record {
      pass = b.ensures.pass;
      caller = b.ensures.caller ∙ i.caller;
      called = called_next g.O.SeqObject (g.C.LockCell.pass_view c.args.pass) (g.C.LockCell.pass_view c.loop-asked.pass) (g.C.LockCell.pass_view b.result.0) c.args.calls.now c.loop-asked.asked-index c.asked-item.result b.result.1 c.in-Ok.field-0 c.in-Ok.is b.ensures.answered
          i.caller c.loop-asked-test.true c.asked-item.is i.called;
      count = ap (λ n. n + 1) i.count;
      run = next_held g.O.SeqObject (g.C.LockCell.pass_view c.args.pass).caller now.caller (g.C.LockCell.pass_run c.args.pass) (g.C.LockCell.pass_run c.loop-asked.pass) (g.C.LockCell.pass_run b.result.0) c.args.calls.now c.loop-asked.asked-index b.result.2 c.asked-item.result _
          i.caller c.loop-asked-test.true c.asked-item.is i.run held (leaves_call g.O.SeqObject now.caller.cell.limit (now.caller.cell.opening ++ events_in held.extends.before) now.caller.acting c.asked-item.result c.in-Ok.field-0 answered.fulfils);
    }

pub returns-in-Err-clause-run : goal.returns-in-Err-clause-run
returns-in-Err-clause-run g c =
    let i = c.loop-asked.invariant in
    let b = c.call-back in
    let first = g.C.LockCell.pass_view c.args.pass in
    let now = g.C.LockCell.pass_view c.loop-asked.pass in
    let after = g.C.LockCell.pass_view b.result.0 in
    let run_before = g.C.LockCell.pass_run c.loop-asked.pass in
    let run_after = g.C.LockCell.pass_run b.result.0 in
    let held = subst (λ (v : Result g.row.O-Reply.Denot NoRoom). HasHeld now.caller run_before b.result.2 (left_by_call now.caller.acting c.asked-item.result v) run_after) c.in-Err.is b.ensures.run in
    let left = (g.met.C.LockCell.pass_has_run c.args.cell.now b.result.0 b.ensures.pass).left ∙ ap (λ z. z.cell.opening ++ events_in run_after) b.ensures.caller in
    let full = IsRefused.full (subst (λ (v : Result g.row.O-Reply.Denot NoRoom). OnErr v (IsRefused g.O.SeqObject now after)) c.in-Err.is b.ensures.refused) in
    subst (λ n. HasHeldEach g.O.SeqObject first.caller (g.C.LockCell.pass_run c.args.pass) (holds_of c.args.calls.now n) run_after) (sym i.count)
    (next_held g.O.SeqObject first.caller now.caller (g.C.LockCell.pass_run c.args.pass) run_before run_after c.args.calls.now c.loop-asked.asked-index b.result.2 c.asked-item.result [] i.caller c.loop-asked-test.true c.asked-item.is i.run held
    (leaves_none g.O.SeqObject now.caller after.seen run_before run_after b.result.2 (c.asked-item.result ∷ []) held left full))

pub returns-clause-run : goal.returns-clause-run
returns-clause-run g c =
    let i = c.loop-asked.invariant in
    let within = c.loop-asked.auto.asked-index-end in
    let whole = c.loop-asked-test.false in
    let first = g.C.LockCell.pass_view c.args.pass in
    let run = g.C.LockCell.pass_run c.loop-asked.pass in
    held_all g.O.SeqObject first.caller (g.C.LockCell.pass_run c.args.pass) run c.args.calls.now c.loop-asked.asked-index c.loop-asked.done i.count (omega (arith, within, whole)) i.run

pub returns-in-Err-clause-done : goal.returns-in-Err-clause-done
returns-in-Err-clause-done g c =
    let i = c.loop-asked.invariant in
    let b = c.call-back in
    let before = g.C.LockCell.pass_view c.args.pass in
    let after = g.C.LockCell.pass_view b.result.0 in
    let pass_view = g.met.C.LockCell.pass_is_valid c.args.cell.now c.args.pass c.requires in
    let called = called_full g.O.SeqObject before (g.C.LockCell.pass_view c.loop-asked.pass) after (take c.loop-asked.asked-index c.args.calls.now) b.result.1 c.in-Err.field-0 c.in-Err.is b.ensures.refused pass_view.caller i.caller i.called in
    record {
      caller = b.ensures.caller ∙ i.caller;
      called = subst (λ n. HasEachCall before (take n c.args.calls.now) after.seen) (sym i.count) called;
      count = let less = c.loop-asked-test.true in let same = i.count in omega (arith, less, same);
      full = λ less. IsRefused.full (subst (λ (v : Result g.row.O-Reply.Denot NoRoom). OnErr v (IsRefused g.O.SeqObject (g.C.LockCell.pass_view c.loop-asked.pass) after)) c.in-Err.is b.ensures.refused) ∙ ap (λ x. x.cell.limit) i.caller;
    }

pub returns-clause-done : goal.returns-clause-done
returns-clause-done g c =
    let i = c.loop-asked.invariant in
    let within = c.loop-asked.auto.asked-index-end in
    let whole = c.loop-asked-test.false in
    let same = i.count in
    record {
      caller = i.caller;
      called = subst (λ n. HasEachCall (g.C.LockCell.pass_view c.args.pass) (take n c.args.calls.now) (g.C.LockCell.pass_view c.loop-asked.pass).seen) (sym same) i.called;
      count = omega (arith, within, same);
      full = λ less. absurd (omega (arith, less, whole, same));
    }
