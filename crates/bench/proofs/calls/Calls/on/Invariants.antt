use Rattle.bench.proofs.calls.Calls.on.Given as goal

abbrev pub invariant-loop-k : goal.invariant-loop-k
invariant-loop-k g l = g.C.LockCell.is_pass_of l.cell l.pass

abbrev pub invariant-loop : goal.invariant-loop
invariant-loop g l = g.C.LockCell.is_pass_of l.cell l.pass
