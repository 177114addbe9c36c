use Rattle.std.proofs.Common.{true≢false, refl, sym}
use Rattle.word_rule.proofs.{Lists.grows_self, RunLists.extends_self}
use Rattle.word_rule.specs.Rule.Callers.{caller_of}
use Rattle.mcs_lock.proofs.cell.McsCell.ready.Goals as goal

pub returns-clause-step : goal.returns-clause-step
returns-clause-step g c = let a = c.args.rested in let o = a.outside in let owned = (caller_of o.key.value o.seat.me.0).owned in record {
  caller = refl;
  from = refl;
  to = refl;
  grows = grows_self owned o.seat.me.0.main.seen;
  still = λ holds. absurd (true≢false (sym holds));
  extends = extends_self owned o.seat.me.0.main.run;
  valid = a.rests.pass_view.valid;
  has = refl;
}
