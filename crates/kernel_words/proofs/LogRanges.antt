-- A legal log whose calls are in range has replies in range: for every object whose answers keep what its states keep.
use Rattle.std.specs.Cmp.Derive.{both_true}
use Rattle.std.proofs.{Common.{◌≡◌, Bool, true, List, [], ◌∷◌, refl, ◌∙◌, ap}, lemmas.Bool.and_parts}
use Rattle.event_log.specs.{declared.object.SeqObject.Ghosts, declared.event.Step.Step, declared.event.Event.Event, Log.{AreAnswers, LegalFrom, Legal, after}}
use Rattle.kernel_words.specs.Ranges.{steps_ask, steps_answer, log_asks, log_answers}

-- what holds of a state and a reply
pub record Keeps {S R : Type 0} (Good : S → Type 0) (test : R → Bool) (a : S × R) : Type 0 where
  pub good : Good a.0
  pub fits : test a.1 ≡ true

module _ {O P C R : Type 0} (meaning : Ghosts O P C R) (Good : O → Type 0) (call_fits : C → Bool) (reply_fits : R → Bool) (keeps : (s : O) (c : C) → Good s → call_fits c ≡ true → Keeps Good reply_fits (meaning.answer s c)) where
  steps_fit : (s : O) (steps : List (Step O P C R)) → Good s → AreAnswers meaning s steps → steps_ask call_fits steps ≡ true → Keeps Good (steps_answer {O = O} {P = P} {C = C} {R = R} reply_fits) (after meaning s steps, steps)
  steps_fit s [] good is asks = record { good = good; fits = refl }
  steps_fit s (x ∷ []) good is asks =
      let parts = and_parts (call_fits x.call) true asks in
      let here = keeps s x.call good parts.0 in
      record { good = here.good; fits = both_true (ap reply_fits is ∙ here.fits) refl }
  steps_fit s (x ∷ y ∷ ys) good is asks =
      let parts = and_parts (call_fits x.call) (steps_ask call_fits (y ∷ ys)) asks in
      let here = keeps s x.call good parts.0 in
      let more = steps_fit (meaning.answer s x.call).0 (y ∷ ys) here.good is.2 parts.1 in
      record { good = more.good; fits = both_true (ap reply_fits is.0 ∙ here.fits) more.fits }

  log_fits : (s : O) (log : List (Event O P C R)) → Good s → LegalFrom meaning s log → log_asks call_fits log ≡ true → log_answers reply_fits log ≡ true
  log_fits s [] good legal asks = refl
  log_fits s (e ∷ es) good legal asks =
      let parts = and_parts (steps_ask call_fits e.steps.list.items) (log_asks call_fits es) asks in
      let here = steps_fit s e.steps.list.items good legal.0.answered parts.0 in
      both_true here.fits (log_fits (after meaning s e.steps.list.items) es here.good legal.1 parts.1)

  pub legal_fits : (p : P) (log : List (Event O P C R)) → Good (meaning.opening p) → Legal meaning p log → log_asks call_fits log ≡ true → log_answers reply_fits log ≡ true
  legal_fits p log good legal asks = log_fits (meaning.opening p) log good legal asks
