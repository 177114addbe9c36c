use Rattle.std.proofs.Common.{◌≡◌, ◌-◌, ◌*◌, ◌≤◌, ◌++◌, length}
use Rattle.event_log.specs.Log.{steps_of}
use Rattle.custom_kernel.specs.Lines.{events_of}
use Rattle.custom_kernel.proofs.lines.count_events.Given as goal

abbrev pub invariant-loop-done : goal.invariant-loop-done
invariant-loop-done l = record {
  params : l.count.params ≡ l.fn.count.params;
  few : length l.count.steps ≤ 8 * l._done;
  steps : steps_of (events_of l.fn.most l.fn.text) ≡ l.count.steps ++ steps_of (events_of (l.most - l._done) l.left);
}
