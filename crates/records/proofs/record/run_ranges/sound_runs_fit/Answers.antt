use Rattle.records.proofs.SoundRanges.{run_fits}
use Rattle.records.proofs.record.run_ranges.sound_runs_fit.Goals as goal

pub returns : goal.returns
returns c = λ settings run fit sound count asks. run_fits settings fit run sound count asks c.replies_fit.ensures
