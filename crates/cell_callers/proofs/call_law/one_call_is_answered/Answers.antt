use Rattle.std.proofs.Common.{true, false, refl}
use Rattle.cell_callers.proofs.OneCalls.{one_call}
use Rattle.cell_callers.proofs.call_law.one_call_is_answered.Goals as goal

pub returns-clause-done : goal.returns-clause-done
returns-clause-done g c = λ n m said looked idle vain called. (one_call g.O.SeqObject _ _ _ _ c.args.cell.now c.args.first.now c.args.last.now c.args.call.now n m _ said looked true idle vain called refl).1

pub returns-clause-kept : goal.returns-clause-kept
returns-clause-kept g c = λ n later m k said looked idle vain called gone. (one_call g.O.SeqObject _ _ _ _ c.args.cell.now c.args.first.now c.args.last.now c.args.call.now n m k said looked false idle vain called (later, gone)).1
