-- What is said of a run of one CPU, which counts once on a counter for 3 and then reads a value.
use Rattle.std.proofs.{Common.{◌≡◌, ◌≢◌, ◌↔◌, ℕ, zero, suc, ◌<◌, ⊎_elim, List, [], ◌∷◌, slice_get, Some, Result, Ok, Err, IfOk, refl, sym, ap, subst, arith}, lemmas.Bool.Decides.nat_tests, lemmas.Option.{none-some, same_Some}}
use Rattle.std.specs.List.{AllByRecursion}
use Rattle.event_log.specs.{declared.event.Event.Event, declared.object.OutOfMemory.OutOfMemory}
use Rattle.sound_run.specs.Sound.{Opened, Sound, LogIsSound, EntryIsSound, NoneAfterFull, transcript_of, done_on, steps_by}
use Rattle.auditor.specs.{declared.fault.Fault.Fault, declared.fault.Verdict.Verdict, Faults.{IsTooLong, HasWrongStepBy, IsFault, IsBefore, IsFirstFault, place}, StepModels.{object_model, EventIsWrongBy}, Terms.{Terms, start, starts}}
use Rattle.auditor.proofs.FaultOrder.{rest_before, not_later}
use Rattle.counter.specs.{State.CounterState, JudgedRun.{one_event, one_entry, read_after_one}, contracts.counter.BoundedCounterSeqObject.TheImpl.ghosts, declared.call.CounterCall.CounterCall, declared.call.CounterCall.TheVariants.{Increase, Read}, declared.call.CounterReply.CounterReply}
use Rattle.auditor.specs.declared.fault.Fault.TheVariants as fault
use Rattle.auditor.specs.declared.fault.Verdict.TheVariants as verdict
use Rattle.counter.specs.declared.call.CounterReply.TheVariants as reply

abbrev CounterEvent : Type 0
CounterEvent = Event CounterState ℕ CounterCall CounterReply

abbrev pub three : Opened ℕ
three = record { params = 3; limit = 100 }

abbrev log_of_one : ℕ → List CounterEvent
log_of_one n = one_event Increase reply.Ok ∷ one_event Read (reply.Value n) ∷ []

log_is : LogIsSound ghosts three (log_of_one 1)
log_is = record {
  legal = (record { some = omega arith; few = omega arith; answered = refl }, (record { some = omega arith; few = omega arith; answered = refl }, tt));
  within = omega arith;
}

logs_are : (x : ℕ) (o : Opened ℕ) (log : List CounterEvent) → slice_get (three ∷ []) x ≡ Some o → slice_get (log_of_one 1 ∷ []) x ≡ Some log → LogIsSound ghosts o log
logs_are zero o log a b = subst (λ (z : Opened ℕ × List CounterEvent). LogIsSound ghosts z.0 z.1) (λ j. (same_Some _ _ a j, same_Some _ _ b j)) log_is
logs_are (suc x) o log a b = absurd (none-some o a)

done_by : (cpu : ℕ) → done_on 0 (transcript_of cpu (read_after_one 1)) ≡ steps_by cpu (log_of_one 1)
done_by zero = refl
done_by (suc cpu) = grind (arith, nat_tests)

taken : (cpu x : ℕ) (log : List CounterEvent) → slice_get (log_of_one 1 ∷ []) x ≡ Some log → done_on x (transcript_of cpu (read_after_one 1)) ≡ steps_by cpu log
taken cpu zero log b = subst (λ l. done_on 0 (transcript_of cpu (read_after_one 1)) ≡ steps_by cpu l) (same_Some _ _ b) (done_by cpu)
taken cpu (suc x) log b = absurd (none-some log b)

entry_is : (call : CounterCall) (said : CounterReply) → EntryIsSound ghosts (three ∷ []) (read_after_one 1) (one_entry call said)
entry_is call said = record { opened = three; log = log_of_one 1; object = refl; logged = refl; answers = record { beginning = record { start = refl }; whole = λ _. refl } }

entries_are : (cpu : ℕ) → AllByRecursion (EntryIsSound ghosts (three ∷ []) (read_after_one 1)) (transcript_of cpu (read_after_one 1))
entries_are zero = (entry_is Increase reply.Ok, (entry_is Read (reply.Value 1), tt))
entries_are (suc cpu) = tt

none_full : (cpu : ℕ) → NoneAfterFull (transcript_of cpu (read_after_one 1))
none_full zero = ((λ e. absurd (grind arith)), ((λ e. refl), tt))
none_full (suc cpu) = tt

right : Sound ghosts (three ∷ []) (read_after_one 1)
right = record { counted = refl; logs = logs_are; taken = taken; entries = entries_are; full = none_full }

abbrev value_in : CounterReply → ℕ
value_in reply.Ok = 0
value_in reply.Full = 0
value_in (reply.Value n) = n

one_is_read : (n : ℕ) → Sound ghosts (three ∷ []) (read_after_one n) → n ≡ 1
one_is_read n s = ap value_in (s.logs 0 three (log_of_one n) refl refl).legal.1.0.answered

pub sound_if_one : (r : Result Verdict OutOfMemory) (n : ℕ)
    → IfOk r (λ v. (v ≡ verdict.Sound) ↔ Sound ghosts (three ∷ []) (read_after_one n)) → IfOk r (λ v. (v ≡ verdict.Sound) ↔ (n ≡ 1))
sound_if_one (Ok v) n h = ((λ e. one_is_read n (h.0 e)), (λ e. h.1 (subst (λ k. Sound ghosts (three ∷ []) (read_after_one k)) (sym e) right)))
sound_if_one (Err e) n h = tt

-- what the second event has wrong, if its value isn't 1
is_wrong : (n : ℕ) → n ≢ 1 → HasWrongStepBy (object_model ghosts) (starts ghosts (three ∷ [])) (read_after_one n) 0 1 0
is_wrong n ne = record { opened = start ghosts three; object = refl; wrong = λ e. ne (ap value_in e) }

-- no earlier fault is there
not_long : (n x : ℕ) → IsTooLong ghosts (three ∷ []) (read_after_one n) x → ⊥
not_long n zero f =
    let limit : 100 ≡ f.opened.limit = ap (λ (o : Opened ℕ). o.limit) (same_Some _ _ f.object) in
    let longer : f.opened.limit < 2 = f.longer in
    absurd (omega (arith, limit, longer))
not_long n (suc x) f = absurd (none-some _ f.object)

first_right : (n i : ℕ) → EventIsWrongBy (object_model ghosts) (ghosts.opening 3) (log_of_one n) 0 i → ⊥
first_right n zero w = w refl
first_right n (suc i) w = grind arith

not_first : (n i : ℕ) → HasWrongStepBy (object_model ghosts) (starts ghosts (three ∷ [])) (read_after_one n) 0 0 i → ⊥
not_first n i f = first_right n i (subst (λ (t : Terms ℕ CounterState). EventIsWrongBy (object_model ghosts) t.state (log_of_one n) 0 i) (sym (same_Some _ _ f.object)) f.wrong)

not_at : (e i : ℕ) → IsBefore (0 ∷ 0 ∷ suc (suc e) ∷ i ∷ []) (0 ∷ 0 ∷ 2 ∷ 0 ∷ []) → ⊥
not_at e i b =
    let after : IsBefore (suc (suc e) ∷ i ∷ []) (2 ∷ 0 ∷ []) = rest_before 0 (suc (suc e) ∷ i ∷ []) (2 ∷ 0 ∷ []) (rest_before 0 (0 ∷ suc (suc e) ∷ i ∷ []) (0 ∷ 2 ∷ 0 ∷ []) b) in
    ⊎_elim
    (λ (lt : suc (suc e) < 2). absurd (omega (arith, lt)))
    (λ (r : (suc (suc e) ≡ 2) × IsBefore (i ∷ []) (0 ∷ [])). ⊎_elim (λ (lt : i < 0). absurd (omega (arith, lt))) (λ (q : (i ≡ 0) × IsBefore [] []). q.1) r.1)
    after

first_of : (n : ℕ) (g : Fault) → IsBefore (place g) (0 ∷ 0 ∷ 2 ∷ 0 ∷ []) → IsFault ghosts (three ∷ []) (read_after_one n) g → ⊥
first_of n (fault.TooLong x) b f = not_long n x f
first_of n (fault.WrongStep zero zero i) b f = not_first n i f
first_of n (fault.WrongStep zero (suc e) i) b f = not_at e i b
first_of n (fault.WrongStep (suc x) e i) b f = absurd (none-some _ f.object)
first_of n (fault.RoomWasLeft cpu m) b f = not_later 1 0 (cpu ∷ m ∷ 0 ∷ []) (0 ∷ 2 ∷ 0 ∷ []) (omega arith) b
first_of n (fault.NotItsEvent cpu m) b f = not_later 1 0 (cpu ∷ m ∷ 0 ∷ []) (0 ∷ 2 ∷ 0 ∷ []) (omega arith) b
first_of n (fault.NotAsked cpu m) b f = not_later 1 0 (cpu ∷ m ∷ 1 ∷ []) (0 ∷ 2 ∷ 0 ∷ []) (omega arith) b
first_of n (fault.Unclaimed x e) b f = not_later 2 0 (x ∷ e ∷ 0 ∷ []) (0 ∷ 2 ∷ 0 ∷ []) (omega arith) b

not_one : (n : ℕ) → HasWrongStepBy (object_model ghosts) (starts ghosts (three ∷ [])) (read_after_one n) 0 1 0 → n ≢ 1
not_one n f e = (subst (λ (t : Terms ℕ CounterState). EventIsWrongBy (object_model ghosts) t.state (log_of_one n) 1 0) (sym (same_Some _ _ f.object)) f.wrong) (ap reply.Value e)

pub fault_unless_one : (r : Result Verdict OutOfMemory) (n : ℕ)
    → IfOk r (λ v. (v ≡ verdict.Unsound (fault.WrongStep 0 1 0)) ↔ IsFirstFault ghosts (three ∷ []) (read_after_one n) (fault.WrongStep 0 1 0))
    → IfOk r (λ v. (v ≡ verdict.Unsound (fault.WrongStep 0 1 0)) ↔ (n ≢ 1))
fault_unless_one (Ok v) n h = ((λ e. not_one n (h.0 e).there), (λ ne. h.1 (record { there = is_wrong n ne; first = first_of n })))
fault_unless_one (Err e) n h = tt
