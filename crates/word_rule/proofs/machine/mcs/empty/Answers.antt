use Rattle.word_rule.proofs.Mcs.Shown.{emptied, stayed}
use Rattle.word_rule.proofs.machine.mcs.empty.Goals as goal

pub returns-then-words-cpu : goal.returns-then-words-cpu
returns-then-words-cpu c = λ l h. stayed _ _ _ l h c.args.cpu c.requires.exists c.requires.stands c.if-words-cpu.true

pub returns : goal.returns
returns c = λ l h. emptied _ _ _ l h c.args.cpu c.requires.exists c.requires.stands c.if-words-cpu.false
