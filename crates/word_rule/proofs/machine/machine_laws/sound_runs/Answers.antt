use Rattle.std.proofs.Common.{subst}
use Rattle.sound_run.specs.Sound.{Sound}
use Rattle.word_rule.specs.Machine.World.{run, run_of}
use Rattle.word_rule.proofs.{Openings.opening_sound, SoundRuns.{sound_run_of, opened_stay}, SoundSteps.sound_run}
use Rattle.word_rule.proofs.machine.machine_laws.sound_runs.Goals as goal

pub returns : goal.returns
returns g c = λ w o schedule. subst (λ opened. Sound g.O.SeqObject opened (run_of (run g.O.SeqObject schedule w))) (opened_stay g.O.SeqObject schedule w) (sound_run_of g.O.SeqObject _ (sound_run g.O.SeqObject schedule w (opening_sound g.O.SeqObject w o)))
