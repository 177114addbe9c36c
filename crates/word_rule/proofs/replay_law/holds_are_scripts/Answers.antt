use Rattle.word_rule.proofs.HoldsPlayed.{holds_played}
use Rattle.word_rule.proofs.replay_law.holds_are_scripts.Goals as goal

pub returns : goal.returns
returns g c = λ caller before after groups cpu had owns held did. holds_played g.O.SeqObject caller cpu owns before after groups had held did
