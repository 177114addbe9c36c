-- From what single steps say of a run to what whole calls say.
use Rattle.std.proofs.{Common.{◌≡◌, ℕ, ◌+◌, ◌-◌, ◌^◌, min, Bool, true, false, List, [], ◌∷◌, ◌++◌, length, refl, sym, ap, ◌∙◌, subst, arith, append_assoc, length-append, Some, Result, Ok, Err, IfOk}, lemmas.List.append_cancel_left, lemmas.List.Elements.filter-append}
use Rattle.std.specs.List.{filter}
use Rattle.event_log.specs.{declared.object.SeqObject.Ghosts, declared.event.Event.Event, History.History}
use Rattle.word_rule.specs.{declared.machine.step_done.StepDone.StepDone, declared.lock_kind.Stage.Stage, declared.view.TraceStep.TraceStep, Cell.{Caller, HoldView, stored}, CallerState.{CallerState, Moves, Takes, Gives}, Locks.holding, LockRuns.{Extends, ExtendsUntil, events_in}, OneHold.{gets_object, how_many, Acquires, Releases, looks_in, leaving, silently, HasAcquired, HasReleased, HasHeld}, Queued.IsQueued, StepKinds.{arrives, ends_hold, is_look}}
use Rattle.word_rule.proofs.RunLists.{extends_then, until_then, until_since, silently_append}
use Rattle.word_rule.specs.declared.machine.step_done.StepDone.TheVariants as steps

pub count_append : (test : StepDone → Bool) (a b : List StepDone) → how_many test (a ++ b) ≡ how_many test a + how_many test b
count_append test a b = ap length (filter-append test a b) ∙ length-append (filter test a) (filter test b)

-- a CPU has arrived so often by these steps, with so many looks, and hasn't got the object
pub record Waits (arrivals looks : ℕ) (done : List StepDone) : Type 0 where
  pub arrived : how_many arrives done ≡ arrivals
  pub got : how_many gets_object done ≡ 0
  pub unended : how_many ends_hold done ≡ 0
  pub looked : looks ≡ looks_in done

-- a CPU has arrived once by these steps and hasn't got the object; as many of them were looks as of those that it did in vain
pub record HasArrived (first vain : List StepDone) : Type 0 where
  pub arrived : how_many arrives first ≡ 1
  pub got : how_many gets_object first ≡ 0
  pub unended : how_many ends_hold first ≡ 0
  pub looked : how_many is_look first ≡ how_many is_look vain

-- one look more
look_counted : (n m : ℕ) → min (min n (2 ^ 64 - 1) + 1) (2 ^ 64 - 1) ≡ min (n + 1) (2 ^ 64 - 1)
look_counted n m = omega arith

pub looks_more : (looks more : ℕ) (done : List StepDone) (hit : Bool) → looks ≡ looks_in done → more ≡ min (looks + 1) (2 ^ 64 - 1) → more ≡ looks_in (done ++ steps.Look hit ∷ [])
looks_more looks more done hit is counted =
    let n : ℕ = how_many is_look done in
    let longer : how_many is_look (done ++ steps.Look hit ∷ []) ≡ n + 1 = count_append is_look done (steps.Look hit ∷ []) in
    counted ∙ (ap (λ (z : ℕ). min (z + 1) (2 ^ 64 - 1)) is ∙ (look_counted n 0 ∙ ap (λ (z : ℕ). min z (2 ^ 64 - 1)) (sym longer)))

pub waits_more : (arrivals looks more : ℕ) (done : List StepDone) → Waits arrivals looks done → more ≡ min (looks + 1) (2 ^ 64 - 1) → Waits arrivals more (done ++ steps.Look false ∷ [])
waits_more arrivals looks more done w counted = record {
  arrived = let c = count_append arrives done (steps.Look false ∷ []) in let a = w.arrived in omega (arith, a, c);
  got = let c = count_append gets_object done (steps.Look false ∷ []) in let a = w.got in omega (arith, a, c);
  unended = let c = count_append ends_hold done (steps.Look false ∷ []) in let a = w.unended in omega (arith, a, c);
  looked = looks_more looks more done false w.looked counted;
}

module _ {O P C R : Type 0} where
  -- the steps that a caller has done since it was there
  abbrev pub Since : Caller O P C R → List (TraceStep (Event O P C R)) → List StepDone → CallerState O P C R → Type 0
  Since caller before done a = (a.caller ≡ caller) × Extends caller.owned before (silently caller.acting done) a.run

  -- and what it does more
  pub since_more : (caller : Caller O P C R) (before after : List (TraceStep (Event O P C R))) (done more : List StepDone) (a : CallerState O P C R) → Since caller before done a → Extends a.caller.owned a.run (silently a.caller.acting more) after → Extends caller.owned before (silently caller.acting (done ++ more)) after
  since_more caller before after done more a s e = subst (λ l. Extends caller.owned before l after) (sym (silently_append caller.acting done more))
      (extends_then caller.owned before (silently caller.acting done) a.run (silently caller.acting more) after s.1 (subst (λ (k : Caller O P C R). Extends k.owned a.run (silently k.acting more) after) s.0 e))

  -- one that has arrived by its first steps, and then gets the object, has acquired it
  pub acquired_queued : (caller : Caller O P C R) (before : List (TraceStep (Event O P C R))) (first vain : List StepDone) (looks : ℕ) (found : List (Event O P C R)) (after : List (TraceStep (Event O P C R))) (b : CallerState O P C R) → HasArrived first vain → Since caller before first b → IsQueued b vain looks found after → HasAcquired caller before looks found after
  acquired_queued caller before first vain looks found after b h s q =
      let rest : List StepDone = q.done ++ steps.Look true ∷ [] in
      record {
        done = first ++ rest;
        acquires = record {
          before = first ++ q.done;
          last = steps.Look true;
          is = sym (append_assoc first q.done (steps.Look true ∷ []));
          got = refl;
          once = let c = count_append gets_object first rest in let d = count_append gets_object q.done (steps.Look true ∷ []) in let a = h.got in let b = q.got in omega (arith, a, b, c, d);
          arrived = let c = count_append arrives first rest in let d = count_append arrives q.done (steps.Look true ∷ []) in let a = h.arrived in let b = q.arrived in omega (arith, a, b, c, d);
          unended = let c = count_append ends_hold first rest in let d = count_append ends_hold q.done (steps.Look true ∷ []) in let a = h.unended in let b = q.unended in omega (arith, a, b, c, d);
        };
        looked = q.looked ∙ ap (λ (n : ℕ). min n (2 ^ 64 - 1)) (count_append is_look vain rest ∙ (ap (λ (n : ℕ). n + how_many is_look rest) (sym h.looked) ∙ sym (count_append is_look first rest)));
        left = q.left ∙ ap (λ (k : Caller O P C R). k.cell.opening ++ events_in after) s.0;
        extends = since_more caller before after first rest b s q.extends;
      }

  -- a holder that has done these steps since, and has seen no event
  pub record HeldSince (hold : HoldView O P C R) (before : List (TraceStep (Event O P C R))) (done : List StepDone) (a : CallerState O P C R) : Type 0 where
    pub since : Since hold.caller before done a
    pub seen : a.seen ≡ hold.caller.cell.opening ++ events_in before
    pub has : a.has ≡ Some hold.history

module _ {O P C R : Type 0} (meaning : Ghosts O P C R) where
  pub since_moved : (caller : Caller O P C R) (before : List (TraceStep (Event O P C R))) (done more : List StepDone) (p q : Stage) (a b : CallerState O P C R) → Since caller before done a → Moves meaning p q more a b → Since caller before (done ++ more) b
  since_moved caller before done more p q a b s m = (m.caller ∙ s.0, since_more caller before b.run done more a s m.extends)

  -- the object that came has the log that the run left
  pub found_left : (caller : Caller O P C R) (x : History O P C R) (p q : Stage) (now : List StepDone) (a b : CallerState O P C R) → a.caller ≡ caller → Takes meaning p q now a b → b.has ≡ Some x → b.seen ≡ b.caller.cell.opening ++ events_in b.run → x.log ≡ caller.cell.opening ++ events_in b.run
  found_left caller x p q now a b same t has left =
      let is : x ≡ stored meaning a.caller.cell b.seen = cc (has, t.has) in
      ap (λ z. z.log) is ∙ (left ∙ ap (λ (k : Caller O P C R). k.cell.opening ++ events_in b.run) (t.caller ∙ same))

  -- a hold ends by this step, after others of which none saw an event
  pub released_by : (hold : HoldView O P C R) (before : List (TraceStep (Event O P C R))) (done : List StepDone) (last : StepDone) (p q : Stage) (a b : CallerState O P C R) → Releases done last → a.seen ≡ hold.caller.cell.opening ++ events_in before → Since hold.caller before done a
      → a.has ≡ Some hold.history → Gives meaning p q last a b → HasReleased hold before b.run
  released_by hold before done last p q a b r seen s has t =
      let same : hold.history ≡ stored meaning a.caller.cell b.seen = cc (has, t.had) in
      record {
        done = done;
        last = last;
        releases = r;
        events = t.events;
        added = ap (λ z. z.log) same ∙ (t.added ∙ ap (λ l. l ++ t.events) seen);
        extends = until_since hold.caller.owned before (silently hold.caller.acting done) a.run (leaving hold.caller.acting last t.events) b.run s.1 (subst (λ (k : Caller O P C R). ExtendsUntil k.owned a.run [] (leaving k.acting last t.events) b.run) s.0 t.extends);
      }

  pub held_moved : (hold : HoldView O P C R) (before : List (TraceStep (Event O P C R))) (done more : List StepDone) (p q : Stage) (a b : CallerState O P C R) → HeldSince hold before done a → Moves meaning p q more a b → holding p ≡ true → HeldSince hold before (done ++ more) b
  held_moved hold before done more p q a b s m holds = record { since = since_moved hold.caller before done more p q a b s.since m; seen = m.still holds ∙ s.seen; has = m.has ∙ s.has }

  pub held_given : (hold : HoldView O P C R) (before : List (TraceStep (Event O P C R))) (done : List StepDone) (last : StepDone) (p q : Stage) (a b : CallerState O P C R) → HeldSince hold before done a → Releases done last → Gives meaning p q last a b → HasReleased hold before b.run
  held_given hold before done last p q a b s r t = released_by hold before done last p q a b r s.seen s.since s.has t

  -- a try that gets the object
  pub acquired_at_once : (caller : Caller O P C R) (before : List (TraceStep (Event O P C R))) (looks : ℕ) (x : History O P C R) (done now : List StepDone) (p q : Stage) (a b : CallerState O P C R) → Acquires (done ++ now) → looks ≡ looks_in (done ++ now) → Since caller before done a → Takes meaning p q now a b
      → b.has ≡ Some x → b.seen ≡ b.caller.cell.opening ++ events_in b.run → HasAcquired caller before looks x.log b.run
  acquired_at_once caller before looks x done now p q a b acquires looked s t has left = record { done = done ++ now; acquires = acquires; looked = looked; left = found_left caller x p q now a b s.0 t has left; extends = since_more caller before b.run done now a s t.extends }

module _ {O P C R : Type 0} where
  -- a whole hold, which left these events
  pub held_once : (caller : Caller O P C R) (before : List (TraceStep (Event O P C R))) (looks : ℕ) (h k : HoldView O P C R) (run run' after : List (TraceStep (Event O P C R))) (events : List (Event O P C R)) → HasAcquired caller before looks h.history.log run → h.caller ≡ caller → k.caller ≡ h.caller → run' ≡ run
      → k.history.log ≡ h.history.log ++ events → HasReleased k run' after → HasHeld caller before looks events after
  held_once caller before looks h k run run' after events a is same still longer r =
      let who : k.caller ≡ caller = same ∙ is in
      let front : k.caller.cell.opening ++ events_in run' ≡ h.history.log = (λ i. (who i).cell.opening ++ events_in (still i)) ∙ sym a.left in
      let left : r.events ≡ events = append_cancel_left h.history.log r.events events (ap (λ l. l ++ r.events) (sym front) ∙ (sym r.added ∙ longer)) in
      record {
        got = a.done;
        acquires = a.acquires;
        looked = a.looked;
        done = r.done;
        last = r.last;
        releases = r.releases;
        extends = subst (λ l. ExtendsUntil caller.owned before l (leaving caller.acting r.last events) after) (sym (silently_append caller.acting a.done r.done))
            (until_then caller.owned before (silently caller.acting a.done) run (silently caller.acting r.done) (leaving caller.acting r.last events) after a.extends
            (subst (λ (z : Caller O P C R × List (TraceStep (Event O P C R)) × List (Event O P C R)). ExtendsUntil z.0.owned z.1 (silently z.0.acting r.done) (leaving z.0.acting r.last z.2) after) (λ i. (who i, still i, left i)) r.extends));
      }

-- what holds of an Ok holds of what follows from it
pub if_ok : {A E : Type 0} {P Q : A → Type 0} (r : Result A E) → ((a : A) → P a → Q a) → IfOk r P → IfOk r Q
if_ok (Ok a) f p = f a p
if_ok (Err e) f p = tt
