use Rattle.std.proofs.Common.{◌≡◌, take}
use Rattle.cpu_worker.specs.Report.{entries_on, joined, sums_of}
use Rattle.cpu_worker.proofs.sums.Sums.add_on.Given as goal

-- the sums so far
abbrev pub invariant-loop-entry : goal.invariant-loop-entry
invariant-loop-entry l = l.self ≡ joined l.fn.self (sums_of (entries_on l.place (take l.entry-index l.entries)))
