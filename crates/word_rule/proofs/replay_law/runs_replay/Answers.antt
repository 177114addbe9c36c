use Rattle.word_rule.proofs.Replays.{is_replay}
use Rattle.word_rule.proofs.replay_law.runs_replay.Goals as goal

pub returns : goal.returns
returns g c = λ h log run script rest ran legal fits all first. is_replay g.O.SeqObject h rest script log run ran legal fits all first
