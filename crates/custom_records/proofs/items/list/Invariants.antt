use Rattle.std.proofs.Common.{◌≡◌, ◌-◌, length, map}
use Rattle.event_log.specs.declared.event.TheConstants.{MOST_CALLS}
use Rattle.record_lines.specs.{Reading.left, LineParts.list_at}
use Rattle.record_lines.proofs.Lists.{behind}
use Rattle.custom_records.proofs.items.list.Given as goal

abbrev pub invariant-loop : goal.invariant-loop
invariant-loop g l =
    let item_at = g.T.Item.item_at (map (λ w. w.bytes) l.fn.refusing) in
    record {
      count : length l.items.items ≡ l.counter;
      reads : list_at item_at (left l.fn.at) ≡ behind item_at l.items.items (MOST_CALLS - l.counter) (left l.left);
    }
