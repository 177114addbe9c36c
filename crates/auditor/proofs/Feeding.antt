-- A run that a judge receives, as far as it has come.
use Rattle.std.proofs.Common.{◌≡◌, ℕ, ◌+◌, ◌<◌, ◌≤◌, List, [], ◌∷◌, ◌++◌, length, take, get_or, Some, slice_get, refl, sym, ap, ◌∙◌, subst, arith, length-append}
use Rattle.std.specs.Prelude.{unwrap_or}
use Rattle.event_log.specs.{declared.event.Event.Event, declared.entry.Entry.Entry, declared.entry.Run.Run}
use Rattle.sound_run.specs.Sound.{transcript_of, log_of}
use Rattle.sound_run.proofs.Slices.{read_get}
use Rattle.auditor.specs.{ReceivedRun.{ReceivedRun, log_begun, event_received, log_ended, log_received, transcript_begun, entry_received, transcript_ended, transcript_received, logs_received, run_received}, Faults.HasSteps, Passes.IsRunOver, SoFar.{IsInLog, IsBeforeLog, HasLogs, IsInTranscripts}, Terms.Terms}
use Rattle.auditor.proofs.Splits.{take_one, take_all, take_length}

-- i events of a log, of an object that was opened so
abbrev pub with_events : {T O P C R : Type 0} → ReceivedRun T O P C R → Terms P T → List (Event O P C R) → ℕ → ReceivedRun T O P C R
with_events d t log i = record d { opened = d.opened ++ t ∷ []; count = length log; events = take i log }

-- i entries of a transcript
abbrev pub with_entries : {T O P C R : Type 0} → ReceivedRun T O P C R → List (Entry O P C R) → ℕ → ReceivedRun T O P C R
with_entries d transcript i = record d { count = length transcript; entries = take i transcript }

-- i logs of a run
abbrev pub with_logs : {T O P C R : Type 0} → List (Terms P T) → Run O P C R → ℕ → ReceivedRun T O P C R
with_logs terms run i = record { cpus = length run.transcripts; objects = length run.logs; count = 0; opened = take i terms; logs = take i run.logs; events = []; transcripts = []; entries = [] }

-- all its logs, and i transcripts
abbrev pub with_transcripts : {T O P C R : Type 0} → List (Terms P T) → Run O P C R → ℕ → ReceivedRun T O P C R
with_transcripts terms run i = record { cpus = length run.transcripts; objects = length run.logs; count = 0; opened = terms; logs = run.logs; events = []; transcripts = take i run.transcripts; entries = [] }

module _ {T O P C R : Type 0} (d : ReceivedRun T O P C R) (t : Terms P T) (log : List (Event O P C R)) where
  pub events_begin : (new : ReceivedRun T O P C R) → d.events ≡ [] → new ≡ log_begun d t (length log) → new ≡ with_events d t log 0
  events_begin new none is = is ∙ (λ j. record d { opened = d.opened ++ t ∷ []; count = length log; events = none j })

  pub events_next : (j new : ReceivedRun T O P C R) (i : ℕ) (e : Event O P C R) → j ≡ with_events d t log i → i < length log → e ≡ get_or log i e → new ≡ event_received j e → new ≡ with_events d t log (i + 1)
  events_next j new i e at lt here is = is ∙ (ap (λ (k : ReceivedRun T O P C R). event_received k e) at ∙ (λ k. record d { opened = d.opened ++ t ∷ []; count = length log; events = sym (take_one log i e lt here) k }))

  pub events_end : (j new : ReceivedRun T O P C R) (i : ℕ) → j ≡ with_events d t log i → length log ≤ i → new ≡ log_ended j → new ≡ log_received d t log
  events_end j new i at le is = is ∙ (ap (λ (k : ReceivedRun T O P C R). log_ended k) at ∙ (λ k. record d { opened = d.opened ++ t ∷ []; logs = d.logs ++ take_all log i le k ∷ []; events = []; count = 0 }))

  module _ (j : ReceivedRun T O P C R) (i : ℕ) (at : j ≡ with_events d t log i) where
    pub still_in_log : IsBeforeLog d → IsInLog j
    still_in_log before =
        let a = length-append d.opened (t ∷ []) in
        let b = before.opened in
        let c : length (d.opened ++ t ∷ []) ≡ length d.logs + 1 = omega (arith, a, b) in
        subst (λ (k : ReceivedRun T O P C R). IsInLog k) (sym at) c

    pub more_events : i < length log → length j.events < j.count
    more_events lt =
        let n = take_length log i (omega (arith, lt)) in
        let c : length (take i log) < length log = omega (arith, n, lt) in
        subst (λ (k : ReceivedRun T O P C R). length k.events < k.count) (sym at) c

    pub no_more_events : length log ≤ i → length j.events ≡ j.count
    no_more_events le = subst (λ (k : ReceivedRun T O P C R). length k.events ≡ k.count) (sym at) (ap length (take_all log i le))

module _ {T O P C R : Type 0} (d : ReceivedRun T O P C R) (transcript : List (Entry O P C R)) where
  pub entries_begin : (new : ReceivedRun T O P C R) → d.entries ≡ [] → new ≡ transcript_begun d (length transcript) → new ≡ with_entries d transcript 0
  entries_begin new none is = is ∙ (λ j. record d { count = length transcript; entries = none j })

  pub entries_next : (j new : ReceivedRun T O P C R) (i : ℕ) (e : Entry O P C R) → j ≡ with_entries d transcript i → i < length transcript → e ≡ get_or transcript i e → new ≡ entry_received j e → new ≡ with_entries d transcript (i + 1)
  entries_next j new i e at lt here is = is ∙ (ap (λ (k : ReceivedRun T O P C R). entry_received k e) at ∙ (λ k. record d { count = length transcript; entries = sym (take_one transcript i e lt here) k }))

  pub entries_end : (j new : ReceivedRun T O P C R) (i : ℕ) → j ≡ with_entries d transcript i → length transcript ≤ i → new ≡ transcript_ended j → new ≡ transcript_received d transcript
  entries_end j new i at le is = is ∙ (ap (λ (k : ReceivedRun T O P C R). transcript_ended k) at ∙ (λ k. record d { transcripts = d.transcripts ++ take_all transcript i le k ∷ []; entries = []; count = 0 }))

  module _ (j : ReceivedRun T O P C R) (i : ℕ) (at : j ≡ with_entries d transcript i) where
    pub still_in : IsInTranscripts d → IsInTranscripts j
    still_in h = subst (λ (k : ReceivedRun T O P C R). IsInTranscripts k) (sym at) (record { logs = record { logs = h.logs.logs; opened = h.logs.opened; events = h.logs.events }; cpus = h.cpus })

    pub more_entries : i < length transcript → length j.entries < j.count
    more_entries lt =
        let n = take_length transcript i (omega (arith, lt)) in
        let c : length (take i transcript) < length transcript = omega (arith, n, lt) in
        subst (λ (k : ReceivedRun T O P C R). length k.entries < k.count) (sym at) c

    pub same_objects : j.objects ≡ d.objects
    same_objects = ap (λ (k : ReceivedRun T O P C R). k.objects) at

module _ {T O P C R : Type 0} (terms : List (Terms P T)) (run : Run O P C R) (given : IsRunOver terms run) where
  module _ (j : ReceivedRun T O P C R) (i : ℕ) where
    pub logs_next : (new : ReceivedRun T O P C R) (t : Terms P T) (log : List (Event O P C R)) → j ≡ with_logs terms run i → i < length run.logs → t ≡ get_or terms i t → log ≡ get_or run.logs i log → new ≡ log_received j t log → new ≡ with_logs terms run (i + 1)
    logs_next new t log at lt object here is =
        let n = given.counted in
        is ∙ (ap (λ (k : ReceivedRun T O P C R). log_received k t log) at ∙ (λ k. record {
          cpus = length run.transcripts;
          objects = length run.logs;
          count = 0;
          opened = sym (take_one terms i t (omega (arith, lt, n)) object) k;
          logs = sym (take_one run.logs i log lt here) k;
          events = [];
          transcripts = [];
          entries = [];
        }))

    pub logs_end : j ≡ with_logs terms run i → length run.logs ≤ i → j ≡ logs_received terms run
    logs_end at le =
        let n = given.counted in
        at ∙ (λ k. record { cpus = length run.transcripts; objects = length run.logs; count = 0; opened = take_all terms i (omega (arith, le, n)) k; logs = take_all run.logs i le k; events = []; transcripts = []; entries = [] })

    pub before_log : j ≡ with_logs terms run i → i < length run.logs → IsBeforeLog j
    before_log at lt =
        let n = given.counted in
        let a = take_length run.logs i (omega (arith, lt)) in
        let b = take_length terms i (omega (arith, lt, n)) in
        let here : IsBeforeLog (with_logs terms run i) = record { logs = omega (arith, a, lt); opened = b ∙ sym a; events = refl; transcripts = refl; entries = refl } in
        subst (λ (k : ReceivedRun T O P C R). IsBeforeLog k) (sym at) here

    pub transcripts_next : (new : ReceivedRun T O P C R) (transcript : List (Entry O P C R)) → j ≡ with_transcripts terms run i → i < length run.transcripts → transcript ≡ get_or run.transcripts i transcript → new ≡ transcript_received j transcript → new ≡ with_transcripts terms run (i + 1)
    transcripts_next new transcript at lt here is =
        is ∙ (ap (λ (k : ReceivedRun T O P C R). transcript_received k transcript) at ∙ (λ k. record {
          cpus = length run.transcripts;
          objects = length run.logs;
          count = 0;
          opened = terms;
          logs = run.logs;
          events = [];
          transcripts = sym (take_one run.transcripts i transcript lt here) k;
          entries = [];
        }))

    pub transcripts_end : j ≡ with_transcripts terms run i → length run.transcripts ≤ i → j ≡ run_received terms run
    transcripts_end at le = at ∙ (λ k. record { cpus = length run.transcripts; objects = length run.logs; count = 0; opened = terms; logs = run.logs; events = []; transcripts = take_all run.transcripts i le k; entries = [] })

    pub in_transcripts : j ≡ with_transcripts terms run i → i < length run.transcripts → IsInTranscripts j
    in_transcripts at lt =
        let a = take_length run.transcripts i (omega (arith, lt)) in
        let here : IsInTranscripts (with_transcripts terms run i) = record { logs = record { logs = refl; opened = sym given.counted; events = refl }; cpus = omega (arith, a, lt) } in
        subst (λ (k : ReceivedRun T O P C R). IsInTranscripts k) (sym at) here

    pub no_entries : j ≡ with_transcripts terms run i → j.entries ≡ []
    no_entries at = ap (λ (k : ReceivedRun T O P C R). k.entries) at

    -- the entries are on objects of the run
    pub entries_on : (transcript : List (Entry O P C R)) → j ≡ with_transcripts terms run i → i < length run.transcripts → transcript ≡ get_or run.transcripts i transcript → (n : ℕ) (e : Entry O P C R) → slice_get transcript n ≡ Some e → e.object < j.objects
    entries_on transcript at lt here n e found =
        let whole : transcript_of i run ≡ transcript = ap (λ o. unwrap_or o []) (read_get run.transcripts i transcript lt here) in
        let a = given.entries i n e (ap (λ l. slice_get l n) whole ∙ found) in
        let b = ap (λ (k : ReceivedRun T O P C R). k.objects) at in
        omega (arith, a, b)

    -- the events are of CPUs of the run, and have steps
    pub events_on : (log : List (Event O P C R)) → j ≡ with_logs terms run i → i < length run.logs → log ≡ get_or run.logs i log → (n : ℕ) (e : Event O P C R) → slice_get log n ≡ Some e → (e.cpu < j.cpus) × HasSteps e
    events_on log at lt here n e found =
        let whole : log_of i run ≡ log = ap (λ o. unwrap_or o []) (read_get run.logs i log lt here) in
        let a = given.events i n e (ap (λ l. slice_get l n) whole ∙ found) in
        let b = ap (λ (k : ReceivedRun T O P C R). k.cpus) at in
        let c = a.0 in
        (omega (arith, c, b), a.1)

  module _ (j : ReceivedRun T O P C R) (at : j ≡ run_received terms run) where
    pub has_logs : HasLogs j
    has_logs = subst (λ (k : ReceivedRun T O P C R). HasLogs k) (sym at) (record { logs = refl; opened = sym given.counted; events = refl })

    pub whole_run : IsRunOver j.opened (record { logs = j.logs; transcripts = j.transcripts })
    whole_run = subst (λ (k : ReceivedRun T O P C R). IsRunOver k.opened (record { logs = k.logs; transcripts = k.transcripts })) (sym at) given

    pub all_transcripts : length j.transcripts ≡ j.cpus
    all_transcripts = subst (λ (k : ReceivedRun T O P C R). length k.transcripts ≡ k.cpus) (sym at) refl

    pub none_open : j.entries ≡ []
    none_open = ap (λ (k : ReceivedRun T O P C R). k.entries) at
