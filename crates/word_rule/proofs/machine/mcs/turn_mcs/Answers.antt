use Rattle.std.proofs.Common.{arith}
use Rattle.word_rule.proofs.Mcs.Shown.{cleared, wide}
use Rattle.word_rule.proofs.machine.mcs.turn_mcs.Goals as goal

pub bounds-words-next_index : goal.bounds-words-next_index
bounds-words-next_index c = omega (arith, c.next_index.ensures, c.requires.exists, wide _ _ _ c.requires.shows.0 c.requires.shows.1 c.args.cpu c.requires.exists)

pub returns-in-Idle : goal.returns-in-Idle
returns-in-Idle c = λ l h. rw c.next_index.ensures (cleared _ _ _ l h c.args.cpu c.requires.exists c.in-Idle.is)
