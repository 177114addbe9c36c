use Rattle.std.proofs.Common.{[], ◌∷◌, ◌+◌, length, ap, ◌∙◌, length-append}
use Rattle.guarded_cell.proofs.Additions.{added_more, fulfil_next, fulfil_front}
use Rattle.guarded_cell.proofs.groups.do_groups.Goals as goal

pub returns-in_err-steps-clause-fulfils : goal.returns-in_err-steps-clause-fulfils
returns-in_err-steps-clause-fulfils g c = fulfil_front g.O.SeqObject c.args.groups.now c.loop-calls.calls-index c.loop-calls.done.items c.loop-calls.invariant.fulfils

pub loop-calls-preserved : goal.loop-calls-preserved
loop-calls-preserved g c =
    let i = c.loop-calls.invariant in
    let s = c.in_ok-steps.steps in
    record {
      hold = λ cell h. c.do_group.ensures.hold cell (i.hold cell h);
      run = c.do_group.ensures.run ∙ i.run;
      added = added_more g.O.SeqObject (g.C.LockCell.hold_view c.args.hold.now) (g.C.LockCell.hold_view c.loop-calls.hold) (g.C.LockCell.hold_view c.do_group.new.hold) c.loop-calls.done.items c.push.new.self.items s _ i.added c.do_group.ensures.caller c.in_ok-steps.ensures.after c.push.ensures.items;
      fulfils = fulfil_next g.O.SeqObject c.args.groups.now c.loop-calls.calls-index c.calls-item.result c.as_slice.result.now c.loop-calls.done.items c.push.new.self.items s c.loop-calls-test.true c.calls-item.is c.as_slice.ensures.value i.count i.fulfils c.in_ok-steps.ensures.asked c.push.ensures.items;
      count = ap length c.push.ensures.items ∙ (length-append c.loop-calls.done.items (s ∷ []) ∙ ap (λ n. n + 1) i.count);
    }
