-- A fault that is in a record names an object of its settings, and its other numbers are small.
use Rattle.std.proofs.{Common.{◌≡◌, ℕ, zero, suc, ◌<◌, ◌^◌, List, [], ◌∷◌, length, Some, slice_get, refl, ◌∙◌, inl, inr, arith}, lemmas.List.length-map, lemmas.Option.slice_get_within}
use Rattle.std.specs.Prelude.{◌↔◌, Result, Ok, Err, IfOk}
use Rattle.event_log.specs.{declared.event.Step.Step, declared.event.Event.Event}
use Rattle.sound_run.specs.Sound.{transcript_of, log_of}
use Rattle.kernel_object.specs.{declared.call.KParams.KParams, declared.call.KCall.KCall, declared.call.KReply.KReply, declared.object.KernelObject.KernelObject, contracts.object.KernelObjectSeqObject.TheImpl.{ghosts as kernel}, KernelTypes.{KernelEvent, KernelEntry}}
use Rattle.records.specs.{Runs.opened_of, RecordRanges.{Record, RecordFits, EventFits}}
use Rattle.kernel_words.specs.declared.form.TheConstants.{WRITTEN}
use Rattle.auditor.specs.{Faults.{IsFaultBy, IsFirstFault}, StepModels.{StepModel, object_model, behind_all, StepIsWrongBy, EventIsWrongBy}, Terms.{Terms, opened_as, opened_list, start, starts}, VerdictText.{IsNamed, CanBeReported}, declared.fault.Fault.Fault, declared.fault.Verdict.Verdict, declared.fault.Fault.TheVariants.{TooLong, WrongStep, RoomWasLeft, NotItsEvent, NotAsked, Unclaimed}}
use Rattle.auditor.proofs.{NextEventSteps.list_within, RecordRuns.{object_opened, log_fits, transcript_fits}, Verdicts.all_at}
use Rattle.auditor.specs.declared.fault.Verdict.TheVariants as verdict

module _ {T O P C R : Type 0} (model : StepModel T O P C R) where
  step_within : (s : T) (steps : List (Step O P C R)) (i : ℕ) → StepIsWrongBy model s steps i → i < length steps
  step_within s [] i h = absurd h
  step_within s (x ∷ xs) zero h = omega arith
  step_within s (x ∷ xs) (suc i) h =
      elim h as (λ _. suc i < length (x ∷ xs)) [ inl p ↦ omega (arith, p.1) | inr q ↦ omega (arith, step_within (model.behind s x) xs i q) ]

  -- the event is there, and the step in it
  event_within : (s : T) (log : List (Event O P C R)) (e i : ℕ) → EventIsWrongBy model s log e i → (x : Event O P C R) × (slice_get log e ≡ Some x) × (i < length x.steps.list.items)
  event_within s [] e i h = absurd h
  event_within s (x ∷ xs) zero i h = (x, refl, step_within s x.steps.list.items i h)
  event_within s (x ∷ xs) (suc e) i h = event_within (behind_all model s x.steps.list.items) xs e i h

module _ (r : Record) (fits : RecordFits r) where
  entry_small : (cpu n : ℕ) (e : KernelEntry) → slice_get (transcript_of cpu r.run) n ≡ Some e → n < 2 ^ 63
  entry_small cpu n e there =
      let few = transcript_fits r fits cpu in
      omega (arith, few.0, slice_get_within (transcript_of cpu r.run) n e there)

  event_small : (x n : ℕ) (e : KernelEvent) → slice_get (log_of x r.run) n ≡ Some e → n < 2 ^ 63
  event_small x n e there = omega (arith, (log_fits r fits x).0, slice_get_within (log_of x r.run) n e there)

  step_small : (x n i : ℕ) (e : KernelEvent) → slice_get (log_of x r.run) n ≡ Some e → i < length e.steps.list.items → i < 2 ^ 63
  step_small x n i e there lt =
      let fit = all_at (EventFits WRITTEN r.settings.cpus) (log_of x r.run) (log_fits r fits x).1 n e there in
      omega (arith, fit.steps.few, lt)

  -- a fault that is there can be reported
  pub fault_is_named : {T : Type 0} (model : StepModel T KernelObject KParams KCall KReply) (terms : List (Terms KParams T)) (f : Fault) → length terms ≡ length r.settings.objects → IsFaultBy model terms r.run f → IsNamed r.settings f
  fault_is_named model terms (TooLong x) same h = omega (arith, same, length-map terms opened_as, slice_get_within (opened_list terms) x h.opened h.object)
  fault_is_named model terms (WrongStep x e i) same h =
      let there = event_within model h.opened.state (log_of x r.run) e i h.wrong in
      (omega (arith, same, slice_get_within terms x h.opened h.object), event_small x e there.0 there.1, step_small x e i there.0 there.1 there.2)
  fault_is_named model terms (RoomWasLeft cpu n) same h = entry_small cpu n h.entry h.there
  fault_is_named model terms (NotItsEvent cpu n) same h = entry_small cpu n h.entry h.there
  fault_is_named model terms (NotAsked cpu n) same h = entry_small cpu n h.entry h.there
  fault_is_named model terms (Unclaimed x e) same h = (omega (arith, fits.1.log_count, list_within r.run.logs x e h.event h.there), event_small x e h.event h.there)

  pub first_is_named : (f : Fault) → IsFirstFault kernel (opened_of r.settings) r.run f → IsNamed r.settings f
  first_is_named f h = fault_is_named (object_model kernel) (starts kernel (opened_of r.settings)) f (length-map (opened_of r.settings) (start kernel) ∙ length-map r.settings.objects object_opened) h.there

  -- a verdict on a record can be reported
  received : (v : Verdict) → ((f : Fault) → v ≡ verdict.Unsound f → IsFirstFault kernel (opened_of r.settings) r.run f) → CanBeReported r.settings v
  received verdict.Sound h = tt
  received (verdict.Unsound f) h = first_is_named f (h f refl)

  pub can_be_reported : {E : Type 0} (result : Result Verdict E) → ((f : Fault) → IfOk result (λ v. (v ≡ verdict.Unsound f) ↔ IsFirstFault kernel (opened_of r.settings) r.run f)) → IfOk result (CanBeReported r.settings)
  can_be_reported (Ok v) h = received v (λ f e. (h f).0 e)
  can_be_reported (Err e) h = tt
