-- The run of a record is one over the objects of its settings.
use Rattle.std.proofs.{Common.{◌≡◌, ℕ, List, length, slice_get, sym, ap, ◌∙◌, arith}, lemmas.List.length-map}
use Rattle.event_log.proofs.Each.{each_list_at}
use Rattle.sound_run.specs.Sound.{Opened, transcript_of, log_of}
use Rattle.sound_run.proofs.Slices.{map_get, get_map}
use Rattle.kernel_object.specs.{declared.call.KParams.KParams, declared.call.KCall.KCall, declared.call.KReply.KReply, declared.object.KernelObject.KernelObject, contracts.object.KernelObjectSeqObject.TheImpl.{ghosts as kernel}, Kernel.kernel_in_range}
use Rattle.kernel_words.specs.declared.form.TheConstants.{WRITTEN}
use Rattle.records.specs.{RecordRanges.{Record, RecordFits, EventFits, EntryFits, LogFits, TranscriptFits}, Runs.opened_of, Settings.{ObjectSettings, ObjectFits}}
use Rattle.auditor.specs.{declared.opened_object.OpenedObject.OpenedObject, Passes.IsRunOf, Transcripts.{judged_by, opened_by}}
use Rattle.auditor.proofs.Verdicts.{all_at}

abbrev pub KernelTerms : Type 0
KernelTerms = OpenedObject KernelObject KParams KCall KReply

abbrev pub object_opened : ObjectSettings → Opened KParams
object_opened o = record { params = o.params; limit = o.events }

pub log_fits : (r : Record) → RecordFits r → (x : ℕ) → LogFits WRITTEN r.settings.cpus (log_of x r.run)
log_fits r fits x = each_list_at (LogFits WRITTEN r.settings.cpus) r.run.logs x fits.1.logs (omega arith, tt)

pub transcript_fits : (r : Record) → RecordFits r → (cpu : ℕ) → TranscriptFits WRITTEN (length r.settings.objects) (transcript_of cpu r.run)
transcript_fits r fits cpu = each_list_at (TranscriptFits WRITTEN (length r.settings.objects)) r.run.transcripts cpu fits.1.transcripts (omega arith, tt)

pub record_run : (r : Record) (opened_objects : List KernelTerms) → RecordFits r → opened_by opened_objects ≡ opened_of r.settings → IsRunOf kernel opened_objects r.run
record_run r opened_objects fit same =
    let n = ap length same in
    let a = length-map opened_objects judged_by in
    let b = length-map r.settings.objects object_opened in
    let run = fit.1 in
    let logs = run.log_count in
    let cpus = run.transcript_count in
    record {
      counted = omega (arith, n, a, b, logs);
      able = λ x t e.
          let o = get_map object_opened r.settings.objects x (judged_by t) (ap (λ l. slice_get l x) (sym same) ∙ map_get judged_by opened_objects x t e) in
          let params : o.0.params ≡ t.params = ap (λ (v : Opened KParams). v.params) o.2 in
          let fits = (all_at (ObjectFits WRITTEN) r.settings.objects fit.0.each x o.0 o.1).params in
          ap kernel_in_range (sym params) ∙ fits;
      events = λ x k e at.
          let f = all_at (EventFits WRITTEN r.settings.cpus) (log_of x r.run) (log_fits r fit x).1 k e at in
          let c = f.cpu in
          (omega (arith, c, cpus), record { some = f.steps.some; few = f.steps.few });
      entries = λ cpu k e at.
          let f = all_at (EntryFits WRITTEN (length r.settings.objects)) (transcript_of cpu r.run) (transcript_fits r fit cpu).1 k e at in
          let c = f.object in
          omega (arith, c, logs);
    }
