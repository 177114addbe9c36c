use Rattle.std.proofs.Common.{◌≡◌, ◌++◌, map, take, drop}
use Rattle.judge.specs.OwnLines.{step_report}
use Rattle.judge.proofs.custom_report.put_steps.Given as goal

abbrev pub invariant-loop-i : goal.invariant-loop-i
invariant-loop-i l = record {
  written : l.room ≡ map step_report (take l.i l.steps) ++ drop l.i l.initial.room;
}
