-- A record that was merged.
use Rattle.std.proofs.Common.{⊎_elim, ℕ, ◌<◌, List, length, arith}
use Rattle.event_log.proofs.{Each.each_list_at, Lists.some_at}
use Rattle.sound_run.specs.Sound.{transcript_of}
use Rattle.auditor.specs.{declared.fault.Fault.Fault, ByModels.{SoundBy as CountedSound}, Faults.{IsFirstFaultBy as CountedFirst}}
use Rattle.auditor.proofs.Verdicts.{all_at, no_fault}
use Rattle.log_merge.specs.Nexts.{IsWhole}
use Rattle.custom_records.specs.Ranges.{CustomRecord, CustomRecordFits, EntryFits, LogFits, TranscriptFits}
use Rattle.judge.specs.{Judging.custom_terms, Models.{Model, AreCounts, SoundBy, IsFirstFaultBy, IsMistold}}
use Rattle.judge.proofs.{CountedLogs.by_count, FirstFaults.first_from, SoundRuns.{sound_to, sound_from}, WholeCustom.sizes_of}

-- the lists of a record are as long as they may be
pub custom_whole : (r : CustomRecord) → CustomRecordFits r → IsWhole r.run
custom_whole r fit = record {
  entries = λ cpu. let few = (each_list_at (TranscriptFits r.head) r.run.transcripts cpu fit.1.transcripts (omega arith, tt)).0 in omega (arith, few);
  events = λ x. let few = (each_list_at (LogFits r.head) r.run.logs x fit.1.logs (omega arith, tt)).0 in omega (arith, few);
  objects = λ cpu n e there.
      let on = (all_at (EntryFits r.head) (transcript_of cpu r.run) (each_list_at (TranscriptFits r.head) r.run.transcripts cpu fit.1.transcripts (omega arith, tt)).1 n e there).object in
      let logs = fit.1.log_count in
      omega (arith, on, logs);
}

module _ (r : CustomRecord) (counts : List ℕ) (fit : CustomRecordFits r) where
  -- by every model with these counts
  pub sound_by : CountedSound by_count (custom_terms counts r.head.objects) r.run → (model : Model) → AreCounts model r counts → SoundBy model r
  sound_by sound model are = sound_from model r counts are fit.1.log_count (sizes_of r fit) sound

  pub fault_by : (f : Fault) → CountedFirst by_count (custom_terms counts r.head.objects) r.run f → (model : Model) → AreCounts model r counts → IsFirstFaultBy model r f
  fault_by f first model are = first_from model r counts are fit.1.log_count f first

  -- a sound record has no first fault
  pub none_first : (f : Fault) → CountedFirst by_count (custom_terms counts r.head.objects) r.run f → (model : Model) → AreCounts model r counts → SoundBy model r → ⊥
  none_first f first model are sound = no_fault by_count (custom_terms counts r.head.objects) r.run (sound_to model r counts are fit.1.log_count (sizes_of r fit) sound) f first.there

  -- and a model's counts aren't mistold
  pub none_mistold : (x : ℕ) → IsMistold r counts x → (model : Model) → AreCounts model r counts → ⊥
  none_mistold x h model are =
      let n = are.counted in
      let lt : x < length r.head.objects = ⊎_elim (λ less. less) (λ less. omega (arith, n, less)) h.some in
      let o = some_at r.head.objects x lt in
      let c = some_at counts x (omega (arith, n, lt)) in
      h.wrong (record { object = lt; count = c.0; there = c.1; within = (are.each x o.0 c.0 o.1 c.1).within })
