use Rattle.std.proofs.Common.{◌≡◌, length, map, take, Some}
use Rattle.cell_callers.specs.Coding.{called_of}
use Rattle.cell_callers.proofs.batching.write_calls.Given as goal

abbrev pub invariant-loop-asked : goal.invariant-loop-asked
invariant-loop-asked l = (length l.calls.items ≡ l.asked-index) × (map called_of (take l.asked-index l.asked-items) ≡ map (λ c. Some c) l.calls.items)
