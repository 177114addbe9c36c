use Rattle.std.proofs.Common.{length}
use Rattle.steps.proofs.line.+put_groups.Given as goal

-- the labels that are left
abbrev pub decreases-put_groups : goal.decreases-put_groups
decreases-put_groups l = length l.labels.now
