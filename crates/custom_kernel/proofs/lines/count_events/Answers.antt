use Rattle.std.proofs.{Common.{sym, ap, ◌∙◌, ◌+◌, ◌-◌, ◌++◌, arith, option_map}, lemmas.List.append_assoc}
use Rattle.event_log.specs.Log.{steps_of}
use Rattle.custom_kernel.specs.Lines.{events_of}
use Rattle.custom_kernel.proofs.LinesAt.{events_next}
use Rattle.custom_kernel.proofs.lines.count_events.Goals as goal

pub loop-done-preserved : goal.loop-done-preserved
loop-done-preserved c =
    let before = c.loop-done.invariant in
    let few = c.event.ensures.few in
    let earlier = before.few in
    let left = steps_of (events_of (c.args.most - (c.loop-done._done + 1)) c.in-Some.rest.now) in
    record {
      params = c.event.ensures.params ∙ before.params;
      few = omega (arith, few, earlier);
      steps = before.steps
          ∙ (ap (λ l. c.loop-done.count.steps ++ l) (events_next c.args.most c.loop-done._done c.loop-done.left.now c.in-Some.rest.now c.in-Some.event c.loop-done-test.true (sym c.next_event.ensures ∙ ap (option_map _) c.in-Some.is))
          ∙ (sym (append_assoc c.loop-done.count.steps c.in-Some.event.steps.list.items left)
          ∙ ap (λ l. l ++ left) (sym c.event.ensures.steps)));
    }
