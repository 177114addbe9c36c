use Rattle.std.proofs.Common.{true, false, refl}
use Rattle.cell_callers.proofs.OneCalls.{one_try}
use Rattle.cell_callers.proofs.call_law.one_try_is_a_hold.Goals as goal

pub returns-clause-done : goal.returns-clause-done
returns-clause-done g c = λ said called. (one_try g.O.SeqObject _ _ _ _ c.args.cell.now c.args.first.now c.args.last.now c.args.call.now _ said true called refl).0

pub returns-clause-kept : goal.returns-clause-kept
returns-clause-kept g c = λ later k said called gone. (one_try g.O.SeqObject _ _ _ _ c.args.cell.now c.args.first.now c.args.last.now c.args.call.now k said false called (later, gone)).0
