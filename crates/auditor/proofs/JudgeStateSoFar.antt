-- The judge's state, after one thing more was received.
use Rattle.std.proofs.{Common.{◌≡◌, ⊎_elim, ℕ, ◌+◌, ◌<◌, ◌≤◌, true, false, true≢false, List, [], ◌∷◌, ◌++◌, length, Option, Some, None, slice_get, refl, sym, ap, ◌∙◌, subst, arith, length-append}, Math.ListN.set}
use Rattle.std.specs.Prelude.{unwrap_or, slice_index, is_some}
use Rattle.event_log.specs.{declared.event.Event.Event, declared.entry.Entry.Entry, declared.entry.Run.Run}
use Rattle.event_log.proofs.Lists.{get_push}
use Rattle.sound_run.specs.Sound.{done_on}
use Rattle.auditor.specs.{declared.fault.Fault.Fault, declared.kept_log.KeptLog.KeptLog, declared.replay.Replay.Replay, Claims.{taken, IsRight, IsWrong}, Faults.HasSteps, ReceivedRun.{ReceivedRun, nothing, log_begun, event_received, log_ended, transcript_begun, entry_received, transcript_ended}, NextEvents.{IsAt, AreNextEvents}, JudgeStates.{IsHeld, IsRightWith, IsJudgeState}, SoFar.{IsInLog, IsBeforeLog, HasLogs, IsWith, IsFaultSoFar}, Transcripts.log_in, Turns.IsTurned, StepModels.{StepModel, replay_by, AreRight, IsFirstWrong}, Terms.Terms}
use Rattle.auditor.proofs.{EntriesSoFar.{wrong_entry, right_entry, right_transcript}, EntryFaults.kind_of, GoingOn.from_transcript, KeptLogs.{kept_begun, kept_event, kept_ended, kept_transcript, kept_entry, kept_turned}, LogsSoFar.{right_nothing, opened_last, in_log, right_begun, long_so_far, wrong_so_far, right_event, right_ended}, WrongSteps.replay_more}
use Rattle.auditor.specs.declared.fault.Fault.TheVariants as fault

module _ {T O P C R J W : Type 0} (model : StepModel T O P C R) (shows : J → T) where
  -- a fault that was found stays the first
  pub fault_stays : (d e : ReceivedRun T O P C R) (f : Option Fault) (r s : Option (Replay O J W P C R T)) (logs news : List (KeptLog O W P C R)) (room space : ℕ) → is_some f ≡ true → IsJudgeState model shows d f r logs room
      → ((o : List (Terms P T)) (g : Run O P C R) → IsWith e o g → IsWith d o g) → IsJudgeState model shows e f s news space
  fault_stays d e (Some f) r s logs news room space is state back = λ o g h. state o g (back o g h)
  fault_stays d e None r s logs news room space is state back = absurd (true≢false (sym is))

  -- where none was found, all was right
  pub none_found : (d : ReceivedRun T O P C R) (f : Option Fault) (r : Option (Replay O J W P C R T)) (logs : List (KeptLog O W P C R)) (room : ℕ) → is_some f ≡ false → IsJudgeState model shows d f r logs room → IsRightWith model shows d r logs room
  none_found d (Some f) r logs room is state = absurd (true≢false is)
  none_found d None r logs room is state = state

  pub still_none : (d : ReceivedRun T O P C R) (f : Option Fault) (r : Option (Replay O J W P C R T)) (logs : List (KeptLog O W P C R)) (room : ℕ) → is_some f ≡ false → IsRightWith model shows d r logs room → IsJudgeState model shows d f r logs room
  still_none d (Some f) r logs room is right = absurd (true≢false is)
  still_none d None r logs room is right = right

  pub noted_at : {d e : ReceivedRun T O P C R} {f g : Option Fault} {r s : Option (Replay O J W P C R T)} {logs news : List (KeptLog O W P C R)} {room space : ℕ} → d ≡ e → f ≡ g → r ≡ s → logs ≡ news → room ≡ space → IsJudgeState model shows d f r logs room → IsJudgeState model shows e g s news space
  noted_at a b c k n h = subst (λ (z : ReceivedRun T O P C R × Option Fault × Option (Replay O J W P C R T) × List (KeptLog O W P C R) × ℕ). IsJudgeState model shows z.0 z.1 z.2 z.3 z.4) (λ j. (a j, b j, c j, k j, n j)) h

  -- before anything is received
  pub noted_nothing : (cpus objects room : ℕ) → objects ≤ room → IsRightWith {W = W} model shows (nothing cpus objects) None [] room
  noted_nothing cpus objects room le = record {
    right = right_nothing model cpus objects;
    cpus = λ k e at. cc;
    held = λ i. absurd (omega (arith, i));
    logs = record { count = refl; each = λ x l at. cc };
    room = le;
  }

  module _ (d : ReceivedRun T O P C R) where
    held_entry : (e : Entry O P C R) (r : Option (Replay O J W P C R T)) → IsHeld model shows d r → IsHeld model shows (entry_received d e) r
    held_entry e (Some r) held = (held.0, record { opened = held.1.opened; object = held.1.object; limit = held.1.limit; log = held.1.log; state = held.1.state })
    held_entry e None held = held

    held_transcript : (n : ℕ) (r : Option (Replay O J W P C R T)) → IsHeld model shows d r → IsHeld model shows (transcript_begun d n) r
    held_transcript n (Some r) held = (held.0, record { opened = held.1.opened; object = held.1.object; limit = held.1.limit; log = held.1.log; state = held.1.state })
    held_transcript n None held = held

    held_end : (r : Option (Replay O J W P C R T)) → IsHeld model shows d r → IsHeld model shows (transcript_ended d) r
    held_end (Some r) held = (held.0, record { opened = held.1.opened; object = held.1.object; limit = held.1.limit; log = held.1.log; state = held.1.state })
    held_end None held = held

  module _ (d : ReceivedRun T O P C R) (old : Option (Replay O J W P C R T)) (logs : List (KeptLog O W P C R)) (room : ℕ) (all : IsRightWith model shows d old logs room) where
    -- a log begins
    module _ (before : IsBeforeLog d) (t : Terms P T) (n : ℕ) where
      pub too_long : (x : ℕ) → x ≡ length logs → t.limit < n → IsFaultSoFar model (log_begun d t n) (fault.TooLong x)
      too_long x is lt = subst (λ (k : ℕ). IsFaultSoFar model (log_begun d t n) (fault.TooLong k)) (sym (is ∙ all.logs.count)) (long_so_far model d all.right before t n lt)

      pub begun : (r : Replay O J W P C R T) → n ≤ t.limit → shows r.judge ≡ t.state → r.limit ≡ t.limit → r.log ≡ [] → IsRightWith model shows (log_begun d t n) (Some r) logs room
      begun r le state limit log = record {
        right = right_begun model d all.right before t n le;
        cpus = all.cpus;
        held = (
          in_log model d all.right before t n,
          record {
            opened = t;
            object = opened_last model d all.right before t n;
            limit = limit;
            log = log ∙ sym before.events;
            state = state ∙ sym (ap (replay_by model t.state) before.events);
          },
        );
        logs = kept_begun model.meaning d logs all.logs t n before.opened;
        room = all.room;
      }

    -- a transcript begins
    pub transcript_noted : (n : ℕ) → HasLogs d → IsRightWith model shows (transcript_begun d n) old logs room
    transcript_noted n whole = record {
      right = record {
        logs = λ o r h. all.right.logs o r (from_transcript d o r n whole h);
        short = λ t i. let a = whole.logs in let b = whole.opened in absurd (omega (arith, a, b, i));
        legal = all.right.legal;
        transcripts = λ o r h. all.right.transcripts o r (from_transcript d o r n whole h);
        entries = all.right.entries;
      };
      cpus = all.cpus;
      held = held_transcript d n old all.held;
      logs = kept_transcript model.meaning d logs all.logs n whole;
      room = all.room;
    }

    -- an entry comes
    module _ (whole : HasLogs d) (e : Entry O P C R) (l : KeptLog O W P C R) (at : slice_get logs e.object ≡ Some l) where
      log_here : log_in e.object d.logs ≡ l.log
      log_here = ap (λ o. unwrap_or o []) (all.logs.each e.object l at).log

      pub entry_wrong : (f : Fault) → IsWrong model.meaning (length d.transcripts) l.limit l.log (length d.entries) (length (done_on e.object d.entries)) e f → IsFaultSoFar model (entry_received d e) f
      entry_wrong f w =
          let k = all.logs.each e.object l at in
          let here : IsWrong model.meaning (length d.transcripts) k.opened.limit (log_in e.object d.logs) (length d.entries) (length (done_on e.object d.entries)) e f = subst (λ (z : ℕ × List (Event O P C R)). IsWrong model.meaning (length d.transcripts) z.0 z.1 (length d.entries) (length (done_on e.object d.entries)) e f) (λ j. (k.limit j, sym log_here j)) w in
          let g = kind_of model.meaning (length d.transcripts) k.opened.limit (log_in e.object d.logs) (length d.entries) (length (done_on e.object d.entries)) e f here in
          subst (λ (h : Fault). IsFaultSoFar model (entry_received d e) h) (sym g.1) (wrong_entry model d all.right whole e k.opened k.object g.0 g.2)

      pub entry_noted : (place : ℕ) → IsRight model.meaning (length d.transcripts) l.limit l.log (length (done_on e.object d.entries)) e.asked e.done → IsAt (length d.transcripts) l.log (taken (length (done_on e.object d.entries)) e.done) place → IsRightWith model shows (entry_received d e) old (set logs e.object (record l { place = place })) room
      entry_noted place r next =
          let k = all.logs.each e.object l at in
          let here : IsRight model.meaning (length d.transcripts) k.opened.limit (log_in e.object d.logs) (length (done_on e.object d.entries)) e.asked e.done = subst (λ (z : ℕ × List (Event O P C R)). IsRight model.meaning (length d.transcripts) z.0 z.1 (length (done_on e.object d.entries)) e.asked e.done) (λ j. (k.limit j, sym log_here j)) r in
          record {
            right = right_entry model d all.right whole e k.opened k.object here;
            cpus = all.cpus;
            held = held_entry d e old all.held;
            logs = kept_entry model.meaning d logs all.logs e l at place next;
            room = all.room;
          }

    -- a transcript ends
    pub turned : (new : List (KeptLog O W P C R)) → HasLogs d → length d.transcripts < d.cpus → length new ≡ length logs → ((x : ℕ) (k l : KeptLog O W P C R) → slice_get logs x ≡ Some k → slice_get new x ≡ Some l → IsTurned (length d.transcripts + 1) k l) → IsRightWith model shows (transcript_ended d) old new room
    turned new whole more same each = record {
      right = right_transcript model d all.right whole;
      cpus = all.cpus;
      held = held_end d old all.held;
      logs = kept_turned model.meaning d logs all.logs new whole more same each;
      room = all.room;
    }

  -- a transcript begins, whatever was found
  pub noted_transcript : (d : ReceivedRun T O P C R) (f : Option Fault) (r : Option (Replay O J W P C R T)) (logs : List (KeptLog O W P C R)) (room n : ℕ) → HasLogs d → IsJudgeState model shows d f r logs room → IsJudgeState model shows (transcript_begun d n) f r logs room
  noted_transcript d (Some f) r logs room n whole state = λ o g h. state o g (from_transcript d o g n whole h)
  noted_transcript d None r logs room n whole state = transcript_noted d r logs room state n whole

  -- where a log is being read, its replay is held
  pub none_held : (d : ReceivedRun T O P C R) (r : Option (Replay O J W P C R T)) (logs : List (KeptLog O W P C R)) (room : ℕ) → IsRightWith model shows d r logs room → r ≡ None → IsInLog d → ⊥
  none_held d r logs room all is i = subst (λ (v : Option (Replay O J W P C R T)). IsHeld model shows d v) is all.held i

  module _ (d : ReceivedRun T O P C R) (r : Replay O J W P C R T) (logs : List (KeptLog O W P C R)) (room : ℕ) (all : IsRightWith model shows d (Some r) logs room) where
    -- an event comes
    module _ (e : Event O P C R) where
      pub step_wrong : (x n k : ℕ) → x ≡ length logs → n ≡ length d.events → IsFirstWrong model (shows r.judge) e.steps.list.items k → IsFaultSoFar model (event_received d e) (fault.WrongStep x n k)
      step_wrong x n k is place w =
          let held = all.held.1 in
          let here : IsFirstWrong model (replay_by model (held.opened.state) d.events) e.steps.list.items k = subst (λ (s : T). IsFirstWrong model s e.steps.list.items k) held.state w in
          subst (λ (z : ℕ × ℕ). IsFaultSoFar model (event_received d e) (fault.WrongStep z.0 z.1 k)) (λ j. (sym (is ∙ all.logs.count) j, sym place j)) (wrong_so_far model d all.right e all.held.0 held.opened held.object k here)

      pub event_noted : (s : Replay O J W P C R T) → e.cpu < d.cpus → HasSteps e → AreRight model (shows r.judge) e.steps.list.items (shows s.judge) → s.limit ≡ r.limit → s.log ≡ r.log ++ e ∷ [] → IsRightWith model shows (event_received d e) (Some s) logs room
      event_noted s cpu steps right limit log =
          let held = all.held.1 in
          let S = held.opened.state in
          let here : AreRight model (replay_by model S d.events) e.steps.list.items (shows s.judge) = subst (λ (v : T). AreRight model v e.steps.list.items (shows s.judge)) held.state right in
          record {
            right = right_event model d all.right e all.held.0 held.opened held.object steps here.answers;
            cpus = λ k f at. ⊎_elim (λ found. all.cpus k f found) (λ q. subst (λ (v : Event O P C R). v.cpu < d.cpus) q.1 cpu) (get_push d.events e k f at);
            held = (
              all.held.0,
              record {
                opened = held.opened;
                object = held.object;
                limit = limit ∙ held.limit;
                log = log ∙ ap (λ l. l ++ e ∷ []) held.log;
                state = here.state ∙ sym (replay_more model S d.events e);
              },
            );
            logs = kept_event model.meaning d logs all.logs e;
            room = all.room;
          }

    -- a log ends
    pub ended : (new : KeptLog O W P C R) → length d.events ≡ d.count → d.transcripts ≡ [] → d.entries ≡ [] → new.limit ≡ r.limit → new.log ≡ r.log → AreNextEvents d.cpus new.log new.next_events.first.items new.next_events.next.items
        → (0 < length new.next_events.first.items → new.place ≡ slice_index new.next_events.first.items 0) → new.end ≡ length new.log → IsRightWith model shows (log_ended d) None (logs ++ new ∷ []) room
    ended new count none idle limit log next place end =
        let held = all.held.1 in
        let i = all.held.0 in
        record {
          right = right_ended model d all.right i count idle held.opened held.object;
          cpus = λ k e at. cc;
          held = λ j. let n = length-append d.logs (d.events ∷ []) in omega (arith, n, i, j);
          logs = kept_ended model.meaning d logs all.logs count none idle held.opened held.object new (limit ∙ held.limit) (log ∙ held.log) next place end;
          room = all.room;
        }

    -- the events of the log are of CPUs of the run, and no more than the limit
    pub held_cpus : (k : ℕ) (e : Event O P C R) → slice_get r.log k ≡ Some e → e.cpu < d.cpus
    held_cpus k e at = all.cpus k e (ap (λ l. slice_get l k) (sym all.held.1.log) ∙ at)

    pub held_short : length d.events ≡ d.count → length r.log ≤ r.limit
    held_short count =
        let held = all.held.1 in
        let a = ap length held.log in
        let b = held.limit in
        let c = all.right.short held.opened all.held.0 held.object in
        omega (arith, a, b, c, count)
