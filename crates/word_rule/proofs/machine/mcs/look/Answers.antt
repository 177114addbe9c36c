use Rattle.std.proofs.Common.{arith}
use Rattle.word_rule.proofs.Mcs.Shown.{got, waited, wide}
use Rattle.word_rule.proofs.machine.mcs.look.Goals as goal

pub bounds-words-locked_index : goal.bounds-words-locked_index
bounds-words-locked_index c = omega (arith, c.locked_index.ensures, c.requires.exists, wide _ _ _ c.requires.shows.0 c.requires.shows.1 c.args.cpu c.requires.exists)

pub returns-then-words-locked_index-ne0 : goal.returns-then-words-locked_index-ne0
returns-then-words-locked_index-ne0 c = λ l h. waited _ _ _ l h c.args.cpu c.requires.exists c.requires.stands (rw c.locked_index.ensures at c.if-words-locked_index-ne0.true)

pub returns : goal.returns
returns c = λ l h. got _ _ _ l h c.args.cpu c.requires.exists c.requires.stands (rw c.locked_index.ensures at c.if-words-locked_index-ne0.false)
