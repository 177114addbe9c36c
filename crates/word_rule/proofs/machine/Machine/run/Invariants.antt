use Rattle.std.proofs.Common.{◌≡◌, take}
use Rattle.word_rule.specs.{Machine.Shown.{Represents, opened_by}, Machine.World.{World, run}}
use Rattle.word_rule.proofs.machine.Machine.run.Given as goal

abbrev pub invariant-loop-cpu : goal.invariant-loop-cpu
invariant-loop-cpu g l = record {
  shows : (w : World _ _ _ _) → Represents g.O.SeqObject l.fn.self w → Represents g.O.SeqObject l.self (run g.O.SeqObject (take l.cpu-index l.schedule) w);
  scripts : l.self.scripts ≡ l.fn.self.scripts;
  opened : opened_by l.self ≡ opened_by l.fn.self;
}
