use Rattle.std.proofs.Common.{◌≡◌, ◌-◌, length}
use Rattle.event_log.specs.declared.event.TheConstants.{MOST_CALLS}
use Rattle.record_lines.specs.{Reading.left, LineParts.list_at}
use Rattle.record_lines.proofs.Lists.{behind}
use Rattle.kernel_words.proofs.tables.call_list.list.Given as goal

abbrev pub invariant-loop : goal.invariant-loop
invariant-loop g l = record {
  count : length l.items.items ≡ l.counter;
  reads : list_at g.T.ListItem.item_at (left l.fn.at) ≡ behind g.T.ListItem.item_at l.items.items (MOST_CALLS - l.counter) (left l.left);
}
