-- The lists of a record's run are as long as they may be.
use Rattle.std.proofs.{Common.{ℕ, ◌<◌, List, [], ◌∷◌, length, arith}, lemmas.Option.slice_get_within}
use Rattle.std.specs.List.{AllByRecursion}
use Rattle.event_log.proofs.Each.{each_at, each_list_at}
use Rattle.sound_run.specs.{Sound.transcript_of, declared.place.Place.Place}
use Rattle.kernel_object.specs.KernelTypes.{KernelRun}
use Rattle.records.specs.{declared.record.TheConstants.MOST_ENTRIES, RecordRanges.{EntryFits, LogFits, TranscriptFits, RunFits}, Settings.Settings}
use Rattle.kernel_words.specs.declared.form.TheConstants.{WRITTEN}
use Rattle.log_merge.specs.{Chains.{Chain, Cyclic}, Nexts.IsWhole, Tangles.WaitsFor}

module _ (settings : Settings) (run : KernelRun) (fit : RunFits settings run) where
  transcript : (cpu : ℕ) → TranscriptFits WRITTEN (length settings.objects) (transcript_of cpu run)
  transcript cpu = each_list_at (TranscriptFits WRITTEN (length settings.objects)) run.transcripts cpu fit.transcripts (omega arith, tt)

  pub whole_of_fits : IsWhole run
  whole_of_fits = record {
    entries = λ cpu. let few = (transcript cpu).0 in omega (arith, few);
    events = λ x. let few = (each_list_at (LogFits WRITTEN settings.cpus) run.logs x fit.logs (omega arith, tt)).0 in omega (arith, few);
    objects = λ cpu n e there.
        let on = (each_at (EntryFits WRITTEN (length settings.objects)) (transcript_of cpu run) n e (transcript cpu).1 there).object in
        let logs = fit.log_count in
        omega (arith, on, logs);
  }

  waits_few : (p q : Place) → WaitsFor run p q → p.entry < MOST_ENTRIES
  waits_few p q w =
      let there = slice_get_within (transcript_of p.cpu run) p.entry w.entry w.there in
      let few = (transcript p.cpu).0 in
      omega (arith, there, few)

  chain_few : (places : List Place) (q : Place) → Chain (WaitsFor run) places q → AllByRecursion (λ p. p.entry < MOST_ENTRIES) places
  chain_few [] q w = tt
  chain_few (p ∷ []) q w = (waits_few p q w, tt)
  chain_few (p ∷ r ∷ places) q w = (waits_few p r w.0, chain_few (r ∷ places) q w.1)

  -- what waits is an entry of the record
  pub few_entries : (cycle : List Place) → Cyclic (WaitsFor run) cycle → AllByRecursion (λ p. p.entry < MOST_ENTRIES) cycle
  few_entries [] w = absurd w
  few_entries (p ∷ cycle) w = chain_few (p ∷ cycle) p w
