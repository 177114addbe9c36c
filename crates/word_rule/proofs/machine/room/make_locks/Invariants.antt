use Rattle.std.proofs.Common.{take}
use Rattle.std.specs.List.{AllZip}
use Rattle.word_rule.specs.Machine.Shown.{FreshLock}
use Rattle.word_rule.proofs.machine.room.make_locks.Given as goal

abbrev pub invariant-loop-cell : goal.invariant-loop-cell
invariant-loop-cell g l = AllZip (FreshLock g.O.SeqObject l.fn.cpus) (take l.cell-index l.cells) l.locks.items
