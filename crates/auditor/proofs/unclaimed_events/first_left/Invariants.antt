use Rattle.std.proofs.Common.{map}
use Rattle.auditor.specs.Passes.{AreTaken}
use Rattle.auditor.proofs.unclaimed_events.first_left.Given as goal

abbrev pub invariant-loop-object : goal.invariant-loop-object
invariant-loop-object g l = AreTaken (map (λ k. k.log) l.logs) (map (λ k. k.end) l.logs) l.object
