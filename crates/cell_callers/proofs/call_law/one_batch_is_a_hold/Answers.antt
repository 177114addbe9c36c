use Rattle.std.proofs.Common.{true, false, refl}
use Rattle.cell_callers.proofs.OneCalls.{one_batch}
use Rattle.cell_callers.proofs.call_law.one_batch_is_a_hold.Goals as goal

pub returns-clause-done : goal.returns-clause-done
returns-clause-done g c = λ call calls n m said looked idle vain called. (one_batch g.O.SeqObject _ _ _ _ c.args.cell.now c.args.first.now c.args.last.now call calls n m _ said looked true idle vain called refl).0

pub returns-clause-kept : goal.returns-clause-kept
returns-clause-kept g c = λ call calls n later m k said looked idle vain called gone. (one_batch g.O.SeqObject _ _ _ _ c.args.cell.now c.args.first.now c.args.last.now call calls n m k said looked false idle vain called (later, gone)).0
