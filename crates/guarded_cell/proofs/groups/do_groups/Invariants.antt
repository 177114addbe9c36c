use Rattle.std.proofs.Common.{◌≡◌, length, take}
use Rattle.word_rule.specs.Answered.{FulfilFirst}
use Rattle.guarded_cell.specs.Groups.{HasAdded}
use Rattle.guarded_cell.proofs.groups.do_groups.Given as goal

abbrev pub invariant-loop-calls : goal.invariant-loop-calls
invariant-loop-calls g l = record {
  hold : (cell : g.row.C.Denot) → g.C.LockCell.is_hold_of cell l.fn.hold → g.C.LockCell.is_hold_of cell l.hold;
  run : g.C.LockCell.hold_run l.hold ≡ g.C.LockCell.hold_run l.fn.hold;
  added : HasAdded (g.C.LockCell.hold_view l.fn.hold) l.done.items (g.C.LockCell.hold_view l.hold);
  fulfils : FulfilFirst g.O.SeqObject (take l.calls-index l.groups) l.done.items;
  count : length l.done.items ≡ l.calls-index;
}
