-- What is said of a record that was handed over whole.
use Rattle.std.proofs.{Common.{◌≡◌, inl, inr, ⊎_elim, ℕ, ◌<◌, ◌≤◌, Bool, List, length, Option, Some, None, slice_get, sym, ap, ◌∙◌, subst, arith}, lemmas.Bool.cases_lt, lemmas.List.length-map}
use Rattle.std.specs.{Prelude.{◌↔◌, Result, Ok, Err}, List.AllByRecursion}
use Rattle.event_log.proofs.Each.{all_map, each_list_at}
use Rattle.sound_run.specs.Sound.{transcript_of, log_of}
use Rattle.auditor.specs.{declared.fault.Fault.Fault, declared.fault.Verdict.Verdict, ByModels.{SoundBy as CountedSound}, Faults.{HasSteps, IsFirstFaultBy as CountedFirst}, ReceivedRun.run_of, Passes.IsRunOver, SoFar.HasLogs}
use Rattle.auditor.proofs.Verdicts.{all_at}
use Rattle.record_lines.specs.Received.{IsWholeWith}
use Rattle.custom_records.specs.{Custom.{CustomEvent, CustomRun}, CustomForm.Head, CustomReceived.received_custom, Ranges.{CustomRecord, CustomRecordFits, EventFits, EntryFits, LogFits, TranscriptFits}, Settings.CustomSettings}
use Rattle.judge.specs.{declared.custom_judge.Mistold.Mistold, Judging.{Counted, CustomReceivedRun, CustomTerms, custom_terms, custom_parts, HasCount, IsFirstWithout, HasReceivedCustom}, Models.{IsVerdictByCounts, IsCounted, IsMistold}}
use Rattle.judge.proofs.{CountedLogs.by_count, FirstFaults.{first_to, first_from}, SoundRuns.{sound_to, sound_from}, ReceivedCustom.{all_opened, has_logs}, CustomTerms.terms_count}
use Rattle.auditor.specs.declared.fault.Verdict.TheVariants as verdict

-- the sizes of the events of a record
pub sizes_of : (r : CustomRecord) → CustomRecordFits r → (x : ℕ) (log : List CustomEvent) → slice_get r.run.logs x ≡ Some log → AllByRecursion HasSteps log
sizes_of r fit x log at =
    let fits = all_at (LogFits r.head) r.run.logs fit.1.logs x log at in
    all_map (λ e (f : EventFits r.head e). record { some = f.steps.some; few = f.steps.few }) log fits.1

-- a run over the objects of the head
pub custom_run : (r : CustomRecord) (counts : List ℕ) → CustomRecordFits r → IsRunOver (custom_terms counts r.head.objects) r.run
custom_run r counts fit =
    let logs = fit.1.log_count in
    let cpus = fit.1.transcript_count in
    record {
      counted = logs ∙ sym (terms_count counts r.head.objects);
      events = λ x k e at.
          let f = all_at (EventFits r.head) (log_of x r.run) (each_list_at (LogFits r.head) r.run.logs x fit.1.logs (omega arith, tt)).1 k e at in
          let c = f.cpu in
          (omega (arith, c, cpus), record { some = f.steps.some; few = f.steps.few });
      entries = λ cpu n e at.
          let f = all_at (EntryFits r.head) (transcript_of cpu r.run) (each_list_at (TranscriptFits r.head) r.run.transcripts cpu fit.1.transcripts (omega arith, tt)).1 n e at in
          let c = f.object in
          omega (arith, c, logs);
    }

module _ (head : Head) (begun : Bool) (counts most : List ℕ) (log rest : ℕ) (none : Option ℕ) (d : CustomReceivedRun) (fed : HasReceivedCustom (custom_parts head begun d) counts most log rest none d) (v : Counted) (view : ◌≡◌ {A = Counted} (record { parts = custom_parts head begun d; counts = counts }) v) (is_whole : IsWholeWith v.parts.head v.parts) (fits : CustomRecordFits (received_custom v.parts)) where
  abbrev R : CustomRecord
  R = received_custom (custom_parts head begun d)

  whole : IsWholeWith head (custom_parts head begun d)
  whole = subst (λ (w : Counted). IsWholeWith w.parts.head w.parts) (sym view) is_whole

  fit : CustomRecordFits R
  fit = subst (λ (w : Counted). CustomRecordFits (received_custom w.parts)) (sym view) fits

  pub whole_logs : HasLogs d
  whole_logs = has_logs head begun counts most log rest none d fed fit.1.log_count whole.events

  pub whole_cpus : length d.transcripts ≡ d.cpus
  whole_cpus = fit.1.transcript_count ∙ sym fed.cpus

  whole_terms : d.opened ≡ custom_terms counts head.so_far.objects
  whole_terms = all_opened head begun counts most log rest none d fed fit.1.log_count

  pub whole_run : IsRunOver d.opened (run_of d)
  whole_run = subst (λ (ts : List CustomTerms). IsRunOver ts (run_of d)) (sym whole_terms) (custom_run R counts fit)

  -- what is so of the run that was received is so of the record that was handed over
  pub of_record : (Q : List CustomTerms → CustomRun → Type 0) → Q d.opened (run_of d) → Q (custom_terms v.counts v.parts.head.so_far.objects) (received_custom v.parts).run
  of_record Q q = subst (λ (w : Counted). Q (custom_terms w.counts w.parts.head.so_far.objects) (received_custom w.parts).run) view (subst (λ (ts : List CustomTerms). Q ts (run_of d)) whole_terms q)

  -- the verdict by every model that has these counts
  pub verdict_by : (a : Verdict) → (a ≡ verdict.Sound) ↔ CountedSound by_count d.opened (run_of d) → ((f : Fault) → (a ≡ verdict.Unsound f) ↔ CountedFirst by_count d.opened (run_of d) f) → IsVerdictByCounts (received_custom v.parts) v.counts a
  verdict_by a sound fault = λ model are.
      let r = received_custom v.parts in
      let logs = fits.1.log_count in
      let there = of_record (λ ts run. (a ≡ verdict.Sound) ↔ CountedSound by_count ts run) sound in
      let first : (f : Fault) → (a ≡ verdict.Unsound f) ↔ CountedFirst by_count (custom_terms v.counts r.head.objects) r.run f = λ f. of_record (λ ts run. (a ≡ verdict.Unsound f) ↔ CountedFirst by_count ts run f) (fault f) in
      record {
        sound = ((λ e. sound_from model r v.counts are logs (sizes_of r fits) (there.0 e)), (λ s. there.1 (sound_to model r v.counts are logs (sizes_of r fits) s)));
        fault = λ f. ((λ e. first_from model r v.counts are logs f ((first f).0 e)), (λ s. (first f).1 (first_to model r v.counts are logs f s)));
      }

  -- a place with a count
  reported_of : (x : ℕ) → x < length head.so_far.objects → HasCount counts d.logs x → IsCounted R counts x
  reported_of x lt h = record { object = lt; count = h.count; there = h.there; within = h.within }

  count_of : (x : ℕ) → IsCounted R counts x → HasCount counts d.logs x
  count_of x t = record { count = t.count; there = t.there; within = t.within }

  -- one place alone is mistold
  one_mistold : (x y : ℕ) → IsMistold R counts x → IsMistold R counts y → x ≡ y
  one_mistold x y a b = ⊎_elim (λ less. absurd (a.wrong (b.first x less))) (λ le. ⊎_elim (λ less. absurd (b.wrong (a.first y less))) (λ ge. omega (arith, le, ge)) (cases_lt y x)) (cases_lt x y)

  -- the place that is answered is the mistold one
  abbrev object_in : Result Verdict Mistold → ℕ → ℕ
  object_in (Ok a) other = other
  object_in (Err m) other = m.object

  abbrev at_object : ℕ → Result Verdict Mistold
  at_object x = Err (record { object = x })

  abbrev of_verdict : Verdict → Result Verdict Mistold
  of_verdict a = Ok a

  abbrev IsExact : Result Verdict Mistold → ℕ → Type 0
  IsExact a y = (a ≡ at_object y) ↔ IsMistold (received_custom v.parts) v.counts y

  exactly : (a : Result Verdict Mistold) (y : ℕ) → (a ≡ at_object y) ↔ IsMistold R counts y → IsExact a y
  exactly a y h = subst (λ (w : Counted). (a ≡ at_object y) ↔ IsMistold (received_custom w.parts) w.counts y) view h

  mistold_exactly : (x y : ℕ) → IsMistold R counts x → IsExact (at_object x) y
  mistold_exactly x y h = exactly (at_object x) y ((λ e. subst (IsMistold R counts) (ap (λ (a : Result Verdict Mistold). object_in a x) e) h), (λ k. ap at_object (one_mistold x y h k)))

  pub log_exactly : (x : ℕ) → none ≡ Some x → (y : ℕ) → IsExact (at_object x) y
  log_exactly x e y =
      let first = subst (IsFirstWithout counts d.logs) e fed.without in
      let all = fit.1.log_count in
      let lt = first.0 in
      mistold_exactly x y (record {
        some = inl (omega (arith, all, lt));
        wrong = λ t. first.1 (count_of x t);
        first = λ z less. reported_of z (omega (arith, all, lt, less)) (first.2 z less);
      })

  pub more_exactly : none ≡ None → (n : ℕ) → n ≡ length most → n < length counts → (y : ℕ) → IsExact (at_object n) y
  more_exactly e n is more y =
      let first = subst (IsFirstWithout counts d.logs) e fed.without in
      let all = fit.1.log_count in
      let here : n ≡ length head.so_far.objects = is ∙ (ap length fed.limits ∙ length-map head.so_far.objects (λ (o : CustomSettings). o.events)) in
      mistold_exactly n y (record {
        some = inr more;
        wrong = λ t. let lt = t.object in absurd (omega (arith, here, lt));
        first = λ z less. reported_of z (omega (arith, here, less)) (first z (omega (arith, all, here, less)));
      })

  pub none_exactly : none ≡ None → length counts ≤ length most → (a : Verdict) (y : ℕ) → IsExact (of_verdict a) y
  none_exactly e few a y =
      let first = subst (IsFirstWithout counts d.logs) e fed.without in
      let all = fit.1.log_count in
      let long = ap length fed.limits ∙ length-map head.so_far.objects (λ (o : CustomSettings). o.events) in
      exactly (of_verdict a) y (
        (λ e. absurd (cc)),
        (λ h.
            let lt : y < length head.so_far.objects = ⊎_elim (λ less. less) (λ less. omega (arith, few, long, less)) h.some in
            absurd (h.wrong (reported_of y lt (first y (omega (arith, all, lt)))))),
      )
