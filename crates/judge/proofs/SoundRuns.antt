-- A run is sound by a model, and by its counts.
use Rattle.std.proofs.{Common.{◌≡◌, ⊎_elim, ℕ, ◌≤◌, Bool, true, false, List, [], length, Some, slice_get, sym, ap, ◌∙◌, subst, arith}, lemmas.Bool.cases_lt}
use Rattle.std.specs.{Prelude.{unwrap_or, slice_index}, List.AllByRecursion}
use Rattle.event_log.specs.Log.{steps_of}
use Rattle.sound_run.specs.Sound.{Opened, EntryIsSound, transcript_of}
use Rattle.auditor.specs.{ByModels.{LogIsSoundBy as CountedLog, SoundBy as CountedSound}, Faults.HasSteps}
use Rattle.custom_records.specs.{Custom.{CustomStep, CustomEvent, custom}, Ranges.CustomRecord, Settings.CustomSettings}
use Rattle.judge.specs.{Judging.{CustomTerms, term_of, custom_terms}, Models.{Model, AreRight, IsCount, AreCounts, SoundBy}}
use Rattle.judge.proofs.{CountedLogs.{by_count, legal_if, legal_right, legal_ends}, FirstFaults.count_at, CustomTerms.{terms_count, term_at, object_of, same_opened}}

module _ (model : Model) (r : CustomRecord) (counts : List ℕ) (are : AreCounts model r counts) (counted : length r.run.logs ≡ length r.head.objects) (sizes : (x : ℕ) (log : List CustomEvent) → slice_get r.run.logs x ≡ Some log → AllByRecursion HasSteps log) where
  abbrev Terms : List CustomTerms
  Terms = custom_terms counts r.head.objects

  -- what an object's count says of its log
  count_here : (x : ℕ) (o : CustomSettings) (log : List CustomEvent) → slice_get r.head.objects x ≡ Some o → slice_get r.run.logs x ≡ Some log → IsCount (model o) (steps_of log) (slice_index counts x)
  count_here x o log on at = subst (λ (l : List CustomEvent). IsCount (model o) (steps_of l) (slice_index counts x)) (ap (λ o. unwrap_or o []) at) (count_at model r counts are counted x o on)

  right_here : (right : List CustomStep → Bool) (steps : List CustomStep) (n : ℕ) → IsCount right steps n → AreRight right steps (length steps) → length steps ≤ n
  right_here right steps n c all = ⊎_elim (λ less. let bad : true ≡ false = sym (all n less) ∙ c.next less in absurd (cc)) (λ le. le) (cases_lt n (length steps))

  pub sound_to : SoundBy model r → CountedSound by_count Terms r.run
  sound_to s = record {
    counted = counted ∙ sym (terms_count counts r.head.objects);
    logs = λ x t log on at.
        let o = object_of counts r.head.objects x t on in
        let is = s.logs x o.0 log o.1 at in
        let right = right_here (model o.0) (steps_of log) (slice_index counts x) (count_here x o.0 log o.1 at) is.legal.steps in
        subst (λ (u : CustomTerms). CountedLog by_count u log) o.2 (record { legal = legal_if (slice_index counts x) log right is.legal.ends (sizes x log at); within = is.within });
    taken = s.taken;
    entries = λ cpu. subst (λ (os : List (Opened (Unit {0}))). AllByRecursion (λ e. EntryIsSound custom os r.run e) (transcript_of cpu r.run)) (sym (same_opened counts r.head)) (s.entries cpu);
    full = s.full;
  }

  pub sound_from : CountedSound by_count Terms r.run → SoundBy model r
  sound_from s = record {
    counted = counted;
    logs = λ x o log on at.
        let is = s.logs x (term_of o (slice_index counts x)) log (term_at counts r.head.objects x o on) at in
        let c = count_here x o log on at in
        let right = legal_right (slice_index counts x) log is.legal in
        record { legal = record { steps = λ k lt. c.all k (omega (arith, lt, right)); ends = legal_ends (slice_index counts x) log is.legal }; within = is.within };
    taken = s.taken;
    entries = λ cpu. subst (λ (os : List (Opened (Unit {0}))). AllByRecursion (λ e. EntryIsSound custom os r.run e) (transcript_of cpu r.run)) (same_opened counts r.head) (s.entries cpu);
    full = s.full;
  }
