use Rattle.word_rule.proofs.TestAndSet.{passed_from_opening}
use Rattle.word_rule.proofs.unfair_law.one_passes_for_ever.Goals as goal

pub returns : goal.returns
returns g = λ first n. passed_from_opening first n
