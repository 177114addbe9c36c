use Rattle.std.proofs.Common.{refl, arith, ◌-◌, slice_index_or}
use Rattle.word_rule.proofs.Mcs.Shown.{entered, entered_behind, tail_small}
use Rattle.word_rule.proofs.machine.mcs.enter.Goals as goal

pub overflow_cast-stages : goal.overflow_cast-stages
overflow_cast-stages c = omega (arith, tail_small _ _ _ c.requires.shows.0 c.requires.shows.1 c.args.cpu c.requires.exists _ refl, c.requires.few)

pub returns-then-old-eq0 : goal.returns-then-old-eq0
returns-then-old-eq0 c = λ l h. entered _ _ _ l h c.args.cpu c.requires.exists c.requires.stands c.if-old-eq0.true

pub returns : goal.returns
returns c = λ l h. entered_behind _ _ _ l h c.args.cpu c.requires.exists (slice_index_or c.args.words.now 0 0 - 1) c.requires.stands (omega (arith, c.if-old-eq0.false))
