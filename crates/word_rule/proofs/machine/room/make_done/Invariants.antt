use Rattle.std.proofs.Common.{take}
use Rattle.std.specs.List.{AllZip}
use Rattle.word_rule.specs.Machine.Shown.{FreshCpu}
use Rattle.word_rule.proofs.machine.room.make_done.Given as goal

abbrev pub invariant-loop-script : goal.invariant-loop-script
invariant-loop-script g l = AllZip FreshCpu (take l.script-index l.scripts) l.done.items
