-- A run without the auditor's faults is sound, and a sound run has none.
use Rattle.std.proofs.{Common.{◌≡◌, ⊎_elim, ℕ, zero, suc, ◌+◌, ◌<◌, ◌≤◌, List, [], ◌∷◌, ◌++◌, length, take, drop, slice_get, Option, Some, None, refl, sym, ap, ◌∙◌, subst, arith, length-append}, lemmas.Option.slice_get_within}
use Rattle.std.specs.{Prelude.unwrap_or, List.AllByRecursion}
use Rattle.arrayvec.specs.ArrayVec.{ArrayVec}
use Rattle.event_log.specs.{declared.event.Event.Event, declared.event.Steps.Steps, declared.entry.Done.Done, declared.entry.Entry.Entry, declared.entry.Run.Run}
use Rattle.event_log.proofs.Lists.{some_at, cut}
use Rattle.sound_run.specs.Sound.{Opened, EntryIsSound, Answers, NoneAfterFull, transcript_of, log_of, done_on, steps_by}
use Rattle.sound_run.proofs.{Slices.{one_of, map_get}, Entries.{done_append, done_without}}
use Rattle.auditor.specs.{declared.fault.Fault.Fault, Faults.{done_before, events_before, HadRoom, IsNotItsEvent, IsNotAsked, IsUnclaimed, IsFaultBy}, Claims.IsRight, Passes.AreSoundBefore, Transcripts.IsRightAt, ByModels.SoundBy, NoFaults.HasNoFaultBy, StepModels.StepModel, Terms.{Terms, opened_as, opened_list}}
use Rattle.auditor.proofs.{OwnEvents.own_steps, Ranked.{done_at, done_of}, LogFaults.{none_long, none_wrong}}
use Rattle.event_log.specs.declared.entry.Done.TheVariants as done
use Rattle.auditor.specs.declared.fault.Fault.TheVariants as fault

module _ {X : Type 0} where
  same_lists : (xs ys : List X) → ((r : ℕ) (x : X) → slice_get xs r ≡ Some x → slice_get ys r ≡ Some x) → length ys ≤ length xs → xs ≡ ys
  same_lists [] [] f le = refl
  same_lists [] (y ∷ ys) f le = absurd (omega arith)
  same_lists (x ∷ xs) [] f le = let e = f 0 x refl in cc
  same_lists (x ∷ xs) (y ∷ ys) f le =
      let e = f 0 x refl in
      let same : y ≡ x = cc in
      λ j. sym same j ∷ same_lists xs ys (λ r. f (suc r)) (omega arith) j

  all_from : (Q : X → Type 0) (xs : List X) → ((i : ℕ) (x : X) → slice_get xs i ≡ Some x → Q x) → AllByRecursion Q xs
  all_from Q [] f = tt
  all_from Q (x ∷ xs) f = (f 0 x refl, all_from Q xs (λ i. f (suc i)))

  pub all_at : (Q : X → Type 0) (xs : List X) → AllByRecursion Q xs → (i : ℕ) (x : X) → slice_get xs i ≡ Some x → Q x
  all_at Q [] all i x e = cc
  all_at Q (y ∷ ys) all zero x e = let same : y ≡ x = cc in subst Q same all.0
  all_at Q (y ∷ ys) all (suc i) x e = all_at Q ys all.1 i x e

  empty : (xs : List X) → length xs ≤ 0 → xs ≡ []
  empty [] le = refl
  empty (x ∷ xs) le = absurd (omega arith)

module _ {O P C R : Type 0} where
  -- a list of entries, cut at one without room
  cut_done : (x : ℕ) (es : List (Entry O P C R)) (n : ℕ) (e : Entry O P C R) → slice_get es n ≡ Some e → e.done ≡ done.NoRoom → length (done_on x es) ≡ done_before x n es + length (done_on x (drop (suc n) es))
  cut_done x es n e at none =
      let whole = ap (done_on x) (cut es n e at) ∙ (done_append x (take n es) (e ∷ drop (suc n) es) ∙ ap (λ l. done_on x (take n es) ++ l) (done_append x (e ∷ []) (drop (suc n) es) ∙ ap (λ l. l ++ done_on x (drop (suc n) es)) (done_without x e none))) in
      ap length whole ∙ length-append (done_on x (take n es)) (done_on x (drop (suc n) es))

  none_from : (es : List (Entry O P C R)) → ((n : ℕ) (e : Entry O P C R) → slice_get es n ≡ Some e → e.done ≡ done.NoRoom → done_on e.object (drop (suc n) es) ≡ []) → NoneAfterFull es
  none_from [] f = tt
  none_from (e ∷ es) f = (f 0 e refl, none_from es (λ n. f (suc n)))

  none_at : (es : List (Entry O P C R)) → NoneAfterFull es → (n : ℕ) (e : Entry O P C R) → slice_get es n ≡ Some e → e.done ≡ done.NoRoom → done_on e.object (drop (suc n) es) ≡ []
  none_at [] full n e at none = cc
  none_at (f ∷ es) full zero e at none = let same : f ≡ e = cc in subst (λ (g : Entry O P C R). done_on g.object es ≡ []) same (full.0 (ap (λ (g : Entry O P C R). g.done) same ∙ none))
  none_at (f ∷ es) full (suc n) e at none = none_at es full.1 n e at none

module _ {T O P C R : Type 0} (model : StepModel T O P C R) (terms : List (Terms P T)) (run : Run O P C R) where
  abbrev objects : List (Opened P)
  objects = opened_list terms

  answers_from : (cpu : ℕ) (t : Terms P T) (log : List (Event O P C R)) (k : ℕ) (asked : ArrayVec C) (d : Done O P C R) → IsRight model.meaning cpu t.limit log k asked d → length log ≤ t.limit → Answers model.meaning (opened_as t) log asked d
  answers_from cpu t log k asked (done.Steps s) r within = r.1
  answers_from cpu t log k asked done.NoRoom r within = let full = r.0 in omega (arith, full, within)

  module _ (h : HasNoFaultBy model terms run) where
    right_at : (cpu n : ℕ) (e : Entry O P C R) → slice_get (transcript_of cpu run) n ≡ Some e → IsRightAt model.meaning terms run.logs cpu (transcript_of cpu run) n e
    right_at cpu n e at = h.right cpu n e (slice_get_within (transcript_of cpu run) n e at) at

    taken_all : (cpu x : ℕ) → x < length run.logs → done_on x (transcript_of cpu run) ≡ steps_by cpu (log_of x run)
    taken_all cpu x lt = same_lists (done_on x (transcript_of cpu run)) (steps_by cpu (log_of x run)) each (h.claimed cpu x lt)
      where
        each : (r : ℕ) (s : Steps O P C R) → slice_get (done_on x (transcript_of cpu run)) r ≡ Some s → slice_get (steps_by cpu (log_of x run)) r ≡ Some s
        each r s at =
            let d = done_of x r (transcript_of cpu run) (slice_get_within (done_on x (transcript_of cpu run)) r s at) in
            let mine = done_at x (transcript_of cpu run) d.index d.entry d.steps d.there d.object d.done in
            let same : d.steps ≡ s = one_of d.steps s (slice_get (done_on x (transcript_of cpu run)) r) (ap (λ k. slice_get (done_on x (transcript_of cpu run)) k) (sym d.rank) ∙ mine) at in
            let i = right_at cpu d.index d.entry d.there in
            let j : IsRight model.meaning cpu i.opened.limit (log_of d.entry.object run) (done_before d.entry.object d.index (transcript_of cpu run)) d.entry.asked (done.Steps d.steps) = subst (λ (v : Done O P C R). IsRight model.meaning cpu i.opened.limit (log_of d.entry.object run) (done_before d.entry.object d.index (transcript_of cpu run)) d.entry.asked v) d.done i.right in
            let k : slice_get (steps_by cpu (log_of x run)) (done_before x d.index (transcript_of cpu run)) ≡ Some d.steps = subst (λ (y : ℕ). slice_get (steps_by cpu (log_of y run)) (done_before y d.index (transcript_of cpu run)) ≡ Some d.steps) d.object j.0 in
            ap (λ m. slice_get (steps_by cpu (log_of x run)) m) (sym d.rank) ∙ (k ∙ ap (λ t. Some t) same)

    log_at : (x : ℕ) (log : List (Event O P C R)) → slice_get run.logs x ≡ Some log → log_of x run ≡ log
    log_at x log e = ap (λ o. unwrap_or o []) e

    entry_is : (cpu n : ℕ) (e : Entry O P C R) → slice_get (transcript_of cpu run) n ≡ Some e → EntryIsSound model.meaning objects run e
    entry_is cpu n e at =
        let i = right_at cpu n e at in
        let l = some_at run.logs e.object (h.objects_in cpu n e at) in
        let sound = h.logs e.object i.opened l.0 i.object l.1 in
        record {
          opened = opened_as i.opened;
          log = l.0;
          object = map_get opened_as terms e.object i.opened i.object;
          logged = l.1;
          answers = answers_from cpu i.opened l.0 (done_before e.object n (transcript_of cpu run)) e.asked e.done (subst (λ (g : List (Event O P C R)). IsRight model.meaning cpu i.opened.limit g (done_before e.object n (transcript_of cpu run)) e.asked e.done) (log_at e.object l.0 l.1) i.right) sound.within;
        }

    none_later : (cpu n : ℕ) (e : Entry O P C R) → slice_get (transcript_of cpu run) n ≡ Some e → e.done ≡ done.NoRoom → done_on e.object (drop (suc n) (transcript_of cpu run)) ≡ []
    none_later cpu n e at none =
        let i = right_at cpu n e at in
        let r = subst (λ (v : Done O P C R). IsRight model.meaning cpu i.opened.limit (log_of e.object run) (done_before e.object n (transcript_of cpu run)) e.asked v) none i.right in
        let long = cut_done e.object (transcript_of cpu run) n e at none in
        let all = ap length (taken_all cpu e.object (h.objects_in cpu n e at)) in
        let few = r.1 in
        empty (done_on e.object (drop (suc n) (transcript_of cpu run))) (omega (arith, long, all, few))

    pub sound_of : SoundBy model terms run
    sound_of = record {
      counted = h.counted;
      logs = h.logs;
      taken = λ cpu x log e. taken_all cpu x (slice_get_within run.logs x log e) ∙ ap (steps_by cpu) (log_at x log e);
      entries = λ cpu. all_from (EntryIsSound model.meaning objects run) (transcript_of cpu run) (entry_is cpu);
      full = λ cpu. none_from (transcript_of cpu run) (none_later cpu);
    }

  module _ (sound : SoundBy model terms run) where
    all_sound : AreSoundBefore model terms run (length run.logs)
    all_sound x t log below at_opened at_log = sound.logs x t log at_opened at_log

    counted : length run.logs ≡ length terms
    counted = sound.counted

    entry_at : (cpu n : ℕ) (e : Entry O P C R) → slice_get (transcript_of cpu run) n ≡ Some e → EntryIsSound model.meaning objects run e
    entry_at cpu n e at = all_at (EntryIsSound model.meaning objects run) (transcript_of cpu run) (sound.entries cpu) n e at

    taken_in : (cpu n : ℕ) (e : Entry O P C R) → slice_get (transcript_of cpu run) n ≡ Some e → done_on e.object (transcript_of cpu run) ≡ steps_by cpu (log_of e.object run)
    taken_in cpu n e at = let s = entry_at cpu n e at in sound.taken cpu e.object s.log s.logged ∙ ap (steps_by cpu) (sym (ap (λ o. unwrap_or o []) s.logged))

    had_none : (cpu n : ℕ) → HadRoom model.meaning objects run cpu n → ⊥
    had_none cpu n f =
        let s = entry_at cpu n f.entry f.there in
        let full = subst (λ (d : Done O P C R). Answers model.meaning s.opened s.log f.entry.asked d) f.none s.answers in
        let same : s.opened ≡ f.opened = one_of s.opened f.opened (slice_get objects f.entry.object) s.object f.object in
        let limit = ap (λ (o : Opened P). o.limit) same in
        let is = ap length (ap (λ (o : Option (List (Event O P C R))). unwrap_or o []) s.logged) in
        let long = cut_done f.entry.object (transcript_of cpu run) n f.entry f.there f.none in
        let after = ap length (none_at (transcript_of cpu run) (sound.full cpu) n f.entry f.there f.none) in
        let all = ap length (taken_in cpu n f.entry f.there) in
        ⊎_elim (λ short. absurd (omega (arith, short, is, limit, full))) (λ own. absurd (omega (arith, own, long, after, all))) f.room

    its_event : (cpu n : ℕ) → IsNotItsEvent model.meaning objects run cpu n → ⊥
    its_event cpu n f = f.other (ap (λ l. slice_get l (done_before f.entry.object n (transcript_of cpu run))) (sym (taken_in cpu n f.entry f.there)) ∙ done_at f.entry.object (transcript_of cpu run) n f.entry f.steps f.there refl f.done)

    was_asked : (cpu n : ℕ) → IsNotAsked model.meaning objects run cpu n → ⊥
    was_asked cpu n f = let s = entry_at cpu n f.entry f.there in f.other (subst (λ (d : Done O P C R). Answers model.meaning s.opened s.log f.entry.asked d) f.done s.answers)

    was_claimed : (x e : ℕ) → IsUnclaimed model.meaning objects run x e → ⊥
    was_claimed x e f = by (slice_get run.logs x) refl
      where
        by : (o : Option (List (Event O P C R))) → slice_get run.logs x ≡ o → ⊥
        by None none = let at : slice_get (log_of x run) e ≡ Some f.event = f.there in let no : log_of x run ≡ [] = ap (λ o. unwrap_or o []) none in let bad : slice_get (let l : List (Event O P C R) = [] in l) e ≡ Some f.event = ap (λ l. slice_get l e) (sym no) ∙ at in absurd (cc)
        by (Some log) found =
            let is : log_of x run ≡ log = ap (λ o. unwrap_or o []) found in
            let lt = slice_get_within (steps_by f.event.cpu (log_of x run)) (events_before f.event.cpu e (log_of x run)) f.event.steps (own_steps f.event.cpu (log_of x run) e f.event f.there refl) in
            let all = ap length (sound.taken f.event.cpu x log found ∙ ap (steps_by f.event.cpu) (sym is)) in
            let none = f.none in
            absurd (omega (arith, lt, all, none))

    -- a sound run has no fault
    pub no_fault : (f : Fault) → IsFaultBy model terms run f → ⊥
    no_fault (fault.TooLong x) h = none_long model terms run counted all_sound x h
    no_fault (fault.WrongStep x e i) h = none_wrong model terms run counted all_sound x e i h
    no_fault (fault.RoomWasLeft cpu n) h = had_none cpu n h
    no_fault (fault.NotItsEvent cpu n) h = its_event cpu n h
    no_fault (fault.NotAsked cpu n) h = was_asked cpu n h
    no_fault (fault.Unclaimed x e) h = was_claimed x e h
