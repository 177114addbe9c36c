use Rattle.std.proofs.Common.{◌≡◌, [], map}
use Rattle.scripts.specs.ScriptText.{dealt}
use Rattle.scripts.proofs.script.lines.empty_lists.Given as goal

abbrev pub invariant-loop : goal.invariant-loop
invariant-loop l = map (λ list. list.items) l.lists.items ≡ dealt l.counter []
