use Rattle.std.proofs.Common.{◌≡◌, ◌++◌, map, take, slice_index}
use Rattle.log_merge.specs.FoundCycles.{next_place}
use Rattle.log_merge.proofs.cycle.put_next.Given as goal

abbrev pub invariant-loop-cpu : goal.invariant-loop-cpu
invariant-loop-cpu l = l.places.items ≡ l.fn.places.items ++ map (next_place (slice_index l.at)) (take l.cpu-index l.cpus)
