use Rattle.std.proofs.Common.{◌≡◌, map, take}
use Rattle.steps.proofs.lines.whole.Given as goal

-- the scripts so far
abbrev pub invariant-loop-script : goal.invariant-loop-script
invariant-loop-script l = map (λ s. s.now) l.left.items ≡ map (λ s. s.items) (take l.script-index l.script-items)
