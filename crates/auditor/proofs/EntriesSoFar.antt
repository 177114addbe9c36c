-- What is known of the entries received so far, and after one more.
use Rattle.std.proofs.{Common.{◌≡◌, ◌≢◌, ℕ, ◌+◌, List, [], ◌∷◌, ◌++◌, length, Some, slice_get, refl, sym, ap, ◌∙◌, subst, arith, length-append, append_assoc}, lemmas.List.append-nil}
use mathlib.Core.Logic.{dite}
use native.Mathlib.Decide.{ℕ_discrete}
use Rattle.event_log.specs.{declared.object.SeqObject.Ghosts, declared.event.Event.Event, declared.event.Steps.Steps, declared.entry.Done.Done, declared.entry.Entry.Entry, declared.entry.Run.Run}
use Rattle.event_log.proofs.Lists.{same_front, get_behind, take_front, take_whole}
use Rattle.sound_run.specs.Sound.{transcript_of, done_on, with_steps}
use Rattle.sound_run.proofs.{Entries.{done_append, done_here, done_elsewhere}, Slices.one_of}
use Rattle.auditor.specs.{Claims.{taken, IsRight}, Faults.done_before, ReceivedRun.{ReceivedRun, entry_received, transcript_ended}, Passes.{AreSoundBefore, AreRightTo}, SoFar.{IsInLog, HasLogs, IsWith, IsFaultSoFar, IsRightSoFar}, Transcripts.{log_in, IsRightAt, AreRightBefore}, StepModels.StepModel, Terms.Terms}
use Rattle.auditor.proofs.{EntryFaults.{EntryFault, fault_at, IsWrongBy, IsWrongAt, first_entry, right_more}, GoingOn.{from_entry, from_transcript_end, transcript_here, all_logs, all_opened}, LogsSoFar.no_entry}
use Rattle.event_log.specs.declared.entry.Done.TheVariants as done

module _ {O P C R : Type 0} where
  one_taken : (d : Done O P C R) (xs : List (Steps O P C R)) → length (xs ++ with_steps d []) ≡ taken (length xs) d
  one_taken (done.Steps s) xs = length-append xs (s ∷ [])
  one_taken done.NoRoom xs = ap length (append-nil xs)

  -- how many entries were done on the object, after one more
  pub done_more : (x : ℕ) (es : List (Entry O P C R)) (e : Entry O P C R) → e.object ≡ x → length (done_on x (es ++ e ∷ [])) ≡ taken (length (done_on x es)) e.done
  done_more x es e on = ap length (done_append x es (e ∷ []) ∙ ap (λ l. done_on x es ++ l) (done_here x e on)) ∙ one_taken e.done (done_on x es)

  pub done_else : (x : ℕ) (es : List (Entry O P C R)) (e : Entry O P C R) → e.object ≢ x → length (done_on x (es ++ e ∷ [])) ≡ length (done_on x es)
  done_else x es e off = ap length (done_append x es (e ∷ []) ∙ (ap (λ l. done_on x es ++ l) (done_elsewhere x e off) ∙ append-nil (done_on x es)))

  done_all : (x : ℕ) (es more : List (Entry O P C R)) → done_before x (length es) (es ++ more) ≡ length (done_on x es)
  done_all x es more = ap (λ l. length (done_on x l)) (take_whole es more)

module _ {T O P C R : Type 0} (meaning : Ghosts O P C R) (terms : List (Terms P T)) (logs : List (List (Event O P C R))) (cpu : ℕ) (es : List (Entry O P C R)) where
  -- entries that are as they must be stay so when others come
  pub right_front : (more : List (Entry O P C R)) → AreRightBefore meaning terms logs cpu es (length es) → AreRightBefore meaning terms logs cpu (es ++ more) (length es)
  right_front more all i e lt there =
      let r = all i e lt (sym (same_front es more i lt) ∙ there) in
      record {
        opened = r.opened;
        object = r.object;
        right = subst (λ (l : List (Entry O P C R)). IsRight meaning cpu r.opened.limit (log_in e.object logs) (length (done_on e.object l)) e.asked e.done) (sym (take_front es more i (omega (arith, lt)))) r.right;
      }

  module _ (e : Entry O P C R) (t : Terms P T) (at : slice_get terms e.object ≡ Some t) where
    pub right_behind : IsRight meaning cpu t.limit (log_in e.object logs) (length (done_on e.object es)) e.asked e.done → AreRightBefore meaning terms logs cpu es (length es) → AreRightBefore meaning terms logs cpu (es ++ e ∷ []) (length (es ++ e ∷ []))
    right_behind right all i f lt there = dite (ℕ_discrete i (length es))
        (λ here.
        let same : e ≡ f = one_of e f (slice_get (es ++ e ∷ []) (length es)) (get_behind es [] e) (ap (λ k. slice_get (es ++ e ∷ []) k) (sym here) ∙ there) in
        let a : IsRightAt meaning terms logs cpu (es ++ e ∷ []) (length es) e = record {
          opened = t;
          object = at;
          right = subst (λ (k : ℕ). IsRight meaning cpu t.limit (log_in e.object logs) k e.asked e.done) (sym (done_all e.object es (e ∷ []))) right;
        } in
        subst (λ (z : ℕ × Entry O P C R). IsRightAt meaning terms logs cpu (es ++ e ∷ []) z.0 z.1) (λ j. (sym here j, same j)) a)
        (λ off. right_front (e ∷ []) all i f (let n = length-append es (e ∷ []) in omega (arith, n, lt, off)) there)

    pub wrong_behind : (more : List (Entry O P C R)) (f : EntryFault) → IsWrongBy meaning cpu t.limit (log_in e.object logs) (length (done_on e.object es)) e f → IsWrongAt meaning terms logs cpu (es ++ e ∷ more) (length es) f
    wrong_behind more f w = record {
      entry = e;
      there = get_behind es more e;
      opened = t;
      object = at;
      wrong = subst (λ (k : ℕ). IsWrongBy meaning cpu t.limit (log_in e.object logs) k e f) (sym (done_all e.object es (e ∷ more))) w;
    }

module _ {T O P C R : Type 0} (model : StepModel T O P C R) (d : ReceivedRun T O P C R) (right : IsRightSoFar model d) (all : HasLogs d) where
  out_of_log : IsInLog d → ⊥
  out_of_log i = let a = all.logs in let b = all.opened in omega (arith, a, b, i)

  sound_logs : (o : List (Terms P T)) (r : Run O P C R) → IsWith d o r → AreSoundBefore model o r (length r.logs)
  sound_logs o r h = subst (λ (n : ℕ). AreSoundBefore model o r n) (all.logs ∙ sym h.objects) (right.logs o r h)

  -- an entry comes
  module _ (e : Entry O P C R) (t : Terms P T) (at : slice_get d.opened e.object ≡ Some t) where
    pub wrong_entry : (f : EntryFault) → IsWrongBy model.meaning (length d.transcripts) t.limit (log_in e.object d.logs) (length (done_on e.object d.entries)) e f → IsFaultSoFar model (entry_received d e) (fault_at (length d.transcripts) (length d.entries) f)
    wrong_entry f w o r h =
        let cpu = length d.transcripts in
        let n = length d.entries in
        let b = from_entry d o r e h in
        let rest = h.entries.0 in
        let whole : transcript_of cpu r ≡ d.entries ++ e ∷ rest = h.entries.1 ∙ append_assoc d.entries (e ∷ []) rest in
        let logs = all_logs d o r b all in
        let opened = all_opened d o r b all in
        let before = right_front model.meaning d.opened d.logs cpu d.entries (e ∷ rest) right.entries in
        let here = wrong_behind model.meaning d.opened d.logs cpu d.entries e t at rest f w in
        first_entry model o r h.whole.counted (sound_logs o r b) cpu (right.transcripts o r b) n
        (subst (λ (z : List (Terms P T) × List (List (Event O P C R)) × List (Entry O P C R)). AreRightBefore model.meaning z.0 z.1 cpu z.2 n) (λ j. (sym opened j, sym logs j, sym whole j)) before)
        f
        (subst (λ (z : List (Terms P T) × List (List (Event O P C R)) × List (Entry O P C R)). IsWrongAt model.meaning z.0 z.1 cpu z.2 n f) (λ j. (sym opened j, sym logs j, sym whole j)) here)

    pub right_entry : IsRight model.meaning (length d.transcripts) t.limit (log_in e.object d.logs) (length (done_on e.object d.entries)) e.asked e.done → IsRightSoFar model (entry_received d e)
    right_entry r = record {
      logs = λ o g h. right.logs o g (from_entry d o g e h);
      short = λ u i. absurd (out_of_log i);
      legal = λ u i. absurd (out_of_log i);
      transcripts = λ o g h. right.transcripts o g (from_entry d o g e h);
      entries = right_behind model.meaning d.opened d.logs (length d.transcripts) d.entries e t at r right.entries;
    }

  -- a transcript ends
  pub right_transcript : IsRightSoFar model (transcript_ended d)
  right_transcript = record {
    logs = λ o r h. right.logs o r (from_transcript_end d o r all h);
    short = λ u i. absurd (out_of_log i);
    legal = λ u i. absurd (out_of_log i);
    transcripts = all_right;
    entries = no_entry model.meaning d.opened d.logs (length (d.transcripts ++ d.entries ∷ [])) [] refl;
  }
    where
      all_right : (o : List (Terms P T)) (r : Run O P C R) → IsWith (transcript_ended d) o r → AreRightTo model.meaning o r (length (d.transcripts ++ d.entries ∷ []))
      all_right o r h =
          let cpu = length d.transcripts in
          let b = from_transcript_end d o r all h in
          let logs = all_logs d o r b all in
          let opened = all_opened d o r b all in
          let whole = transcript_here d o r h in
          let here : AreRightBefore model.meaning o r.logs cpu (transcript_of cpu r) (length (transcript_of cpu r)) = subst (λ (z : List (Terms P T) × List (List (Event O P C R)) × List (Entry O P C R)). AreRightBefore model.meaning z.0 z.1 cpu z.2 (length z.2)) (λ j. (sym opened j, sym logs j, sym whole j)) right.entries in
          let size : cpu + 1 ≡ length (d.transcripts ++ d.entries ∷ []) = (let n = length-append d.transcripts (d.entries ∷ []) in omega (arith, n)) in
          subst (λ (n : ℕ). AreRightTo model.meaning o r n) size (right_more model o r cpu (right.transcripts o r b) here)
