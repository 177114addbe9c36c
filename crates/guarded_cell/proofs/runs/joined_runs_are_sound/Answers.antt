use Rattle.guarded_cell.proofs.SoundRuns.{is_sound, all_ask, whole}
use Rattle.guarded_cell.proofs.runs.joined_runs_are_sound.Goals as goal

pub returns-clause-sound : goal.returns-clause-sound
returns-clause-sound g c = is_sound g.O.SeqObject

pub returns-clause-asks : goal.returns-clause-asks
returns-clause-asks g c = all_ask g.O.SeqObject

pub returns-clause-whole : goal.returns-clause-whole
returns-clause-whole g c = whole g.O.SeqObject
