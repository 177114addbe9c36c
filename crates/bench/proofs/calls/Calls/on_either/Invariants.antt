use Rattle.guarded_cell.specs.Kinds.{IsPassOf}
use Rattle.bench.proofs.calls.Calls.on_either.Given as goal

abbrev pub invariant-loop-k : goal.invariant-loop-k
invariant-loop-k g l = IsPassOf l.cell l.pass
