-- What is sound by the model of an object is so by its answers.
use Rattle.std.proofs.{Common.{◌≡◌, List, [], ◌∷◌, refl, sym, ap, ◌∙◌, subst}, lemmas.List.length-map}
use Rattle.std.specs.{Prelude.{◌↔◌, Result, Ok, Err, IfOk}, List.AllByRecursion}
use Rattle.event_log.specs.{declared.object.SeqObject.Ghosts, declared.event.Step.Step, declared.event.Event.Event, declared.entry.Run.Run, Log.{after, AreAnswers, LegalFrom}}
use Rattle.sound_run.specs.Sound.{Opened, Sound, EntryIsSound, transcript_of}
use Rattle.sound_run.proofs.Slices.{map_get, get_map}
use Rattle.auditor.specs.{ByModels.{LogIsSoundBy, SoundBy}, StepModels.{object_model, behind_all, AreRightFrom, LegalBy}, Terms.{start, starts, opened_list}}

module _ {O P C R : Type 0} (meaning : Ghosts O P C R) where
  same_after : (s : O) (steps : List (Step O P C R)) → behind_all (object_model meaning) s steps ≡ after meaning s steps
  same_after s [] = refl
  same_after s (x ∷ xs) = same_after (meaning.answer s x.call).0 xs

  answers_to : (s : O) (steps : List (Step O P C R)) → AreAnswers meaning s steps → AreRightFrom (object_model meaning) s steps
  answers_to s [] h = tt
  answers_to s (x ∷ []) h = h
  answers_to s (x ∷ y ∷ ys) h = (h.0, h.1, answers_to (meaning.answer s x.call).0 (y ∷ ys) h.2)

  answers_from : (s : O) (steps : List (Step O P C R)) → AreRightFrom (object_model meaning) s steps → AreAnswers meaning s steps
  answers_from s [] h = tt
  answers_from s (x ∷ []) h = h
  answers_from s (x ∷ y ∷ ys) h = (h.0, h.1, answers_from (meaning.answer s x.call).0 (y ∷ ys) h.2)

  legal_to : (s : O) (log : List (Event O P C R)) → LegalFrom meaning s log → LegalBy (object_model meaning) s log
  legal_to s [] h = tt
  legal_to s (e ∷ log) h =
      let steps = e.steps.list.items in
      (record { some = h.0.some; few = h.0.few; right = answers_to s steps h.0.answered }, subst (λ (t : O). LegalBy (object_model meaning) t log) (sym (same_after s steps)) (legal_to (after meaning s steps) log h.1))

  legal_from : (s : O) (log : List (Event O P C R)) → LegalBy (object_model meaning) s log → LegalFrom meaning s log
  legal_from s [] h = tt
  legal_from s (e ∷ log) h =
      let steps = e.steps.list.items in
      (record { some = h.0.some; few = h.0.few; answered = answers_from s steps h.0.right }, legal_from (after meaning s steps) log (subst (λ (t : O). LegalBy (object_model meaning) t log) (same_after s steps) h.1))

  -- what was opened stays
  pub opened_back : (objects : List (Opened P)) → opened_list (starts meaning objects) ≡ objects
  opened_back [] = refl
  opened_back (o ∷ objects) = ap (λ l. o ∷ l) (opened_back objects)

module _ {O P C R : Type 0} (meaning : Ghosts O P C R) (objects : List (Opened P)) (run : Run O P C R) where
  pub sound_to : Sound meaning objects run → SoundBy (object_model meaning) (starts meaning objects) run
  sound_to h = record {
    counted = h.counted ∙ sym (length-map objects (start meaning));
    logs = λ x t log at here.
        let o = get_map (start meaning) objects x t at in
        let l = h.logs x o.0 log o.1 here in
        subst (λ u. LogIsSoundBy (object_model meaning) u log) o.2 (record { legal = legal_to meaning (meaning.opening o.0.params) log l.legal; within = l.within });
    taken = h.taken;
    entries = λ cpu. subst (λ (os : List (Opened P)). AllByRecursion (λ e. EntryIsSound meaning os run e) (transcript_of cpu run)) (sym (opened_back meaning objects)) (h.entries cpu);
    full = h.full;
  }

  pub sound_from : SoundBy (object_model meaning) (starts meaning objects) run → Sound meaning objects run
  sound_from h = record {
    counted = h.counted ∙ length-map objects (start meaning);
    logs = λ x o log at here.
        let l = h.logs x (start meaning o) log (map_get (start meaning) objects x o at) here in
        record { legal = legal_from meaning (meaning.opening o.params) log l.legal; within = l.within };
    taken = h.taken;
    entries = λ cpu. subst (λ (os : List (Opened P)). AllByRecursion (λ e. EntryIsSound meaning os run e) (transcript_of cpu run)) (opened_back meaning objects) (h.entries cpu);
    full = h.full;
  }

  -- as it stands in clauses
  pub sound_both : {V : Type 0} → V ↔ SoundBy (object_model meaning) (starts meaning objects) run → V ↔ Sound meaning objects run
  sound_both h = ((λ v. sound_from (h.0 v)), (λ s. h.1 (sound_to s)))

module _ {A B : Type 0} where
  -- what follows of a fact follows of an answer's
  pub if_ok : {X Y : Type 0} (r : Result A B) → (X → Y) → IfOk r (λ a. X) → IfOk r (λ a. Y)
  if_ok (Ok a) f h = f h
  if_ok (Err b) f h = tt
