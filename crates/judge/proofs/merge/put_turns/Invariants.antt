use Rattle.std.proofs.Common.{◌≡◌, ◌++◌, map, take, drop}
use Rattle.judge.specs.Orders.{turn_of}
use Rattle.judge.proofs.merge.put_turns.Given as goal

abbrev pub invariant-loop-i : goal.invariant-loop-i
invariant-loop-i l = record {
  written : l.room ≡ map turn_of (take l.i l.places) ++ drop l.i l.initial.room;
}
