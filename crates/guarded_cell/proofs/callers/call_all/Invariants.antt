use Rattle.std.proofs.Common.{◌≡◌, [], ◌∷◌, map, take}
use Rattle.guarded_cell.specs.Calls.{HasEachCall}
use Rattle.word_rule.specs.Holds.{HasHeldEach}
use Rattle.guarded_cell.proofs.callers.call_all.Given as goal

abbrev pub invariant-loop-asked : goal.invariant-loop-asked
invariant-loop-asked g l = record {
  pass : g.C.LockCell.is_pass_of l.cell l.pass;
  caller : (g.C.LockCell.pass_view l.pass).caller ≡ (g.C.LockCell.pass_view l.fn.pass).caller;
  called : HasEachCall (g.C.LockCell.pass_view l.fn.pass) (take l.asked-index l.calls) (g.C.LockCell.pass_view l.pass).seen;
  count : l.done ≡ l.asked-index;
  run : HasHeldEach g.O.SeqObject (g.C.LockCell.pass_view l.fn.pass).caller (g.C.LockCell.pass_run l.fn.pass) (map (λ c. c ∷ []) (take l.asked-index l.calls)) (g.C.LockCell.pass_run l.pass);
}
