-- A run that begins with what was received last begins with what was received before.
use Rattle.std.proofs.{Common.{◌≡◌, ℕ, List, [], ◌∷◌, ◌++◌, length, Some, slice_get, refl, sym, ap, ◌∙◌, arith, length-append, append_assoc}, lemmas.List.append-nil}
use Rattle.std.specs.Prelude.{unwrap_or}
use Rattle.event_log.specs.{declared.event.Event.Event, declared.entry.Entry.Entry, declared.entry.Run.Run}
use Rattle.event_log.proofs.Lists.{get_front, list_behind, no_more, some_at}
use Rattle.sound_run.specs.Sound.{transcript_of, log_of}
use Rattle.auditor.specs.{ReceivedRun.{ReceivedRun, log_begun, event_received, log_ended, transcript_begun, entry_received, transcript_ended, run_of}, Passes.IsRunOver, SoFar.{GoesOnFrom, IsInLog, HasLogs, IsWith}, Terms.Terms}

-- what begins with more begins with less
back : {X : Type 0} (a b : List X) (x : X) → GoesOnFrom (a ++ x ∷ []) b → GoesOnFrom a b
back a b x h = (x ∷ h.0, h.1 ∙ append_assoc a (x ∷ []) h.0)

module _ {T O P C R : Type 0} (d : ReceivedRun T O P C R) (terms : List (Terms P T)) (run : Run O P C R) where
  pub from_log : (t : Terms P T) (n : ℕ) → length d.opened ≡ length d.logs → IsWith (log_begun d t n) terms run → IsWith d terms run
  from_log t n same h = record { whole = h.whole; cpus = h.cpus; objects = h.objects; opened = back d.opened terms t h.opened; logs = h.logs; log = λ i. absurd (omega (arith, same, i)); transcripts = h.transcripts; entries = h.entries }

  pub from_event : (e : Event O P C R) → IsWith (event_received d e) terms run → IsWith d terms run
  from_event e h = record { whole = h.whole; cpus = h.cpus; objects = h.objects; opened = h.opened; logs = h.logs; log = λ i. ((h.log i).0, back d.events (log_of (length d.logs) run) e (h.log i).1); transcripts = h.transcripts; entries = h.entries }

  pub from_log_end : length d.events ≡ d.count → IsWith (log_ended d) terms run → IsWith d terms run
  from_log_end count h =
      let here : log_of (length d.logs) run ≡ d.events = ap (λ l. unwrap_or (slice_get l (length d.logs)) []) (h.logs.1 ∙ append_assoc d.logs (d.events ∷ []) h.logs.0) ∙ list_behind d.logs h.logs.0 d.events in
      record { whole = h.whole; cpus = h.cpus; objects = h.objects; opened = h.opened; logs = back d.logs run.logs d.events h.logs; log = λ i. (ap length here ∙ count, ([], here ∙ sym (append-nil d.events))); transcripts = h.transcripts; entries = h.entries }

  pub from_transcript : (n : ℕ) → HasLogs d → IsWith (transcript_begun d n) terms run → IsWith d terms run
  from_transcript n all h = record { whole = h.whole; cpus = h.cpus; objects = h.objects; opened = h.opened; logs = h.logs; log = λ i. let a = all.logs in let b = all.opened in absurd (omega (arith, a, b, i)); transcripts = h.transcripts; entries = h.entries }

  pub from_entry : (e : Entry O P C R) → IsWith (entry_received d e) terms run → IsWith d terms run
  from_entry e h = record { whole = h.whole; cpus = h.cpus; objects = h.objects; opened = h.opened; logs = h.logs; log = h.log; transcripts = h.transcripts; entries = back d.entries (transcript_of (length d.transcripts) run) e h.entries }

  -- the transcript that was received last
  pub transcript_here : IsWith (transcript_ended d) terms run → transcript_of (length d.transcripts) run ≡ d.entries
  transcript_here h = ap (λ l. unwrap_or (slice_get l (length d.transcripts)) []) (h.transcripts.1 ∙ append_assoc d.transcripts (d.entries ∷ []) h.transcripts.0) ∙ list_behind d.transcripts h.transcripts.0 d.entries

  pub from_transcript_end : HasLogs d → IsWith (transcript_ended d) terms run → IsWith d terms run
  from_transcript_end all h = record {
    whole = h.whole;
    cpus = h.cpus;
    objects = h.objects;
    opened = h.opened;
    logs = h.logs;
    log = λ i. let a = all.logs in let b = all.opened in absurd (omega (arith, a, b, i));
    transcripts = back d.transcripts run.transcripts d.entries h.transcripts;
    entries = ([], transcript_here h ∙ sym (append-nil d.entries));
  }

  module _ (h : IsWith d terms run) where
    pub opened_in : (x : ℕ) (t : Terms P T) → slice_get d.opened x ≡ Some t → slice_get terms x ≡ Some t
    opened_in x t found = ap (λ l. slice_get l x) h.opened.1 ∙ get_front d.opened h.opened.0 x t found

    pub log_in_run : (x : ℕ) (log : List (Event O P C R)) → slice_get d.logs x ≡ Some log → slice_get run.logs x ≡ Some log
    log_in_run x log found = ap (λ l. slice_get l x) h.logs.1 ∙ get_front d.logs h.logs.0 x log found

    -- the run has the log that is being received
    pub log_there : IsInLog d → slice_get run.logs (length d.logs) ≡ Some (log_of (length d.logs) run)
    log_there i =
        let a = ap length h.opened.1 ∙ length-append d.opened h.opened.0 in
        let b = h.whole.counted in
        let l = some_at run.logs (length d.logs) (omega (arith, a, b, i)) in
        l.1 ∙ ap (λ o. Some o) (sym (ap (λ o. unwrap_or o []) l.1))

    -- where all logs were received the run has these and no others
    pub all_logs : HasLogs d → run.logs ≡ d.logs
    all_logs all = no_more d.logs h.logs.0 run.logs h.logs.1 (h.objects ∙ sym all.logs)

    pub all_opened : HasLogs d → terms ≡ d.opened
    all_opened all = no_more d.opened h.opened.0 terms h.opened.1 (sym h.whole.counted ∙ (h.objects ∙ sym all.opened))

module _ {T O P C R : Type 0} (d : ReceivedRun T O P C R) where
  -- the run of all that was received
  pub with_itself : HasLogs d → length d.transcripts ≡ d.cpus → d.entries ≡ [] → IsRunOver d.opened (run_of d) → IsWith d d.opened (run_of d)
  with_itself all cpus none whole = record {
    whole = whole;
    cpus = cpus;
    objects = all.logs;
    opened = ([], sym (append-nil d.opened));
    logs = ([], sym (append-nil d.logs));
    log = λ i. let a = all.logs in let b = all.opened in absurd (omega (arith, a, b, i));
    transcripts = ([], sym (append-nil d.transcripts));
    entries = ([], behind ∙ sym (append-nil d.entries));
  }
    where
      nothing_at : {X : Type 0} (ls : List (List X)) → unwrap_or (slice_get ls (length ls)) [] ≡ []
      nothing_at [] = refl
      nothing_at (l ∷ ls) = nothing_at ls

      behind : transcript_of (length d.transcripts) (run_of d) ≡ d.entries
      behind = nothing_at d.transcripts ∙ sym none
