-- The first fault by a model, and the first by the counts.
use Rattle.std.proofs.{Common.{◌≡◌, ◌⊎◌, inl, inr, ⊎_elim, ℕ, zero, suc, ◌+◌, ◌<◌, ◌≤◌, true≢false, List, [], ◌∷◌, ◌++◌, length, take, Some, slice_get, refl, sym, ap, ◌∙◌, subst, arith, append_assoc, length-append}, lemmas.Bool.cases_lt, lemmas.List.take-append-le, lemmas.Option.{slice_get_within, get_or_from_slice_get}}
use Rattle.std.specs.Prelude.{slice_index}
use Rattle.event_log.specs.Log.{steps_of}
use Rattle.event_log.proofs.Lists.{some_at}
use Rattle.sound_run.specs.Sound.{Opened, log_of}
use Rattle.auditor.specs.{declared.fault.Fault.Fault, Faults.{IsTooLong, HadRoom, IsNotItsEvent, IsNotAsked, IsUnclaimed, IsBefore, place, HasWrongStepBy as CountedWrong, IsFaultBy as CountedFault, IsFirstFaultBy as CountedFirst}, StepModels.EventIsWrongBy, Terms.opened_list}
use Rattle.custom_records.specs.{Custom.{CustomStep, CustomEvent, custom}, Ranges.CustomRecord, Settings.CustomSettings}
use Rattle.judge.specs.{Judging.{CustomTerms, term_of, custom_terms}, Models.{Model, opened, IsCount, AreCounts, IsBehindRefusing, HasWrongStepBy, IsFaultBy, IsFirstFaultBy}}
use Rattle.judge.proofs.{CountedLogs.{by_count, EventAt, find_event, event_wrong_only, event_wrong_if}, CustomTerms.{term_at, object_of, same_opened}}
use Rattle.auditor.specs.declared.fault.Fault.TheVariants as fault

pub before_trans : (xs ys zs : List ℕ) → IsBefore xs ys → IsBefore ys zs → IsBefore xs zs
before_trans [] ys zs a b = absurd a
before_trans (x ∷ xs) [] zs a b = absurd a
before_trans (x ∷ xs) (y ∷ ys) [] a b = absurd b
before_trans (x ∷ xs) (y ∷ ys) (z ∷ zs) a b = ⊎_elim
    (λ less. ⊎_elim (λ more. inl (omega (arith, less, more))) (λ same. let e = same.0 in inl (omega (arith, less, e))) b)
    (λ same. let e = same.0 in ⊎_elim (λ more. inl (omega (arith, e, more))) (λ next. inr (same.0 ∙ next.0, before_trans xs ys zs same.1 next.1)) b)
    a

-- how many steps are before an event, and behind it
events_past : (log : List CustomEvent) (e f : ℕ) (d : CustomEvent) → slice_get log e ≡ Some d → e < f → length (steps_of (take e log)) + length d.steps.list.items ≤ length (steps_of (take f log))
events_past [] e f d at lt = cc
events_past (x ∷ log) e zero d at lt = absurd (omega arith)
events_past (x ∷ log) zero (suc f) d at lt =
    let same : x ≡ d = cc in
    let n = length-append x.steps.list.items (steps_of (take f log)) in
    let k = ap (λ (v : CustomEvent). length v.steps.list.items) same in
    omega (arith, n, k)
events_past (x ∷ log) (suc e) (suc f) d at lt =
    let h = events_past log e f d at (omega arith) in
    let n = length-append x.steps.list.items (steps_of (take f log)) in
    let m = length-append x.steps.list.items (steps_of (take e log)) in
    omega (arith, h, n, m)

event_within : (log : List CustomEvent) (e : ℕ) (d : CustomEvent) → slice_get log e ≡ Some d → length (steps_of (take e log)) + length d.steps.list.items ≤ length (steps_of log)
event_within [] e d at = cc
event_within (x ∷ log) zero d at =
    let same : x ≡ d = cc in
    let n = length-append x.steps.list.items (steps_of log) in
    let k = ap (λ (v : CustomEvent). length v.steps.list.items) same in
    omega (arith, n, k)
event_within (x ∷ log) (suc e) d at =
    let h = event_within log e d at in
    let n = length-append x.steps.list.items (steps_of log) in
    let m = length-append x.steps.list.items (steps_of (take e log)) in
    omega (arith, h, n, m)

-- an earlier step stands at an earlier place
pub earlier : (log : List CustomEvent) (e i k f j m : ℕ) → EventAt log e i k → EventAt log f j m → k < m → (e < f) ⊎ ((e ≡ f) × (i < j))
earlier log e i k f j m a b lt = ⊎_elim
    (λ less. inl less)
    (λ le. ⊎_elim
    (λ more.
    let p = a.place in
    let q = b.place in
    let w = b.within in
    let h = events_past log f e b.event b.there more in
    absurd (omega (arith, p, q, w, h, lt)))
    (λ ge.
    let same : e ≡ f = omega arith in
    let p = a.place in
    let q = b.place in
    let n = ap (λ (g : ℕ). length (steps_of (take g log))) same in
    inr (same, omega (arith, p, q, n, lt)))
    (cases_lt f e))
    (cases_lt e f)

-- the steps up to one and with it
pub steps_to : (log : List CustomEvent) (e i : ℕ) (d : CustomEvent) → slice_get log e ≡ Some d → i < length d.steps.list.items → take (length (steps_of (take e log)) + i + 1) (steps_of log) ≡ steps_of (take e log) ++ take (i + 1) d.steps.list.items
steps_to [] e i d at lt = cc
steps_to (x ∷ log) zero i d at lt =
    let same : x ≡ d = cc in
    let here = ap (λ (v : CustomEvent). length v.steps.list.items) same in
    let n : 0 + i + 1 ≡ i + 1 = omega arith in
    ap (λ k. take k (x.steps.list.items ++ steps_of log)) n ∙ (take-append-le (i + 1) x.steps.list.items (steps_of log) (omega (arith, here, lt)) ∙ ap (λ (v : CustomEvent). take (i + 1) v.steps.list.items) same)
steps_to (x ∷ log) (suc e) i d at lt =
    let n : length (x.steps.list.items ++ steps_of (take e log)) + i + 1 ≡ length x.steps.list.items + (length (steps_of (take e log)) + i + 1) = let m = length-append x.steps.list.items (steps_of (take e log)) in omega (arith, m) in
    ap (λ k. take k (x.steps.list.items ++ steps_of log)) n ∙ (past x.steps.list.items (steps_of log) (length (steps_of (take e log)) + i + 1) ∙ (ap (λ l. x.steps.list.items ++ l) (steps_to log e i d at lt) ∙ sym (append_assoc x.steps.list.items (steps_of (take e log)) (take (i + 1) d.steps.list.items))))
  where
    past : (xs ys : List CustomStep) (n : ℕ) → take (length xs + n) (xs ++ ys) ≡ xs ++ take n ys
    past [] ys n = let e : 0 + n ≡ n = omega arith in ap (λ k. take k ys) e
    past (x ∷ xs) ys n = let e : suc (length xs) + n ≡ suc (length xs + n) = omega arith in ap (λ k. take k (x ∷ (xs ++ ys))) e ∙ ap (λ l. x ∷ l) (past xs ys n)

-- the place of a step comes before a later one's
step_place : (x e i f j : ℕ) → (e < f) ⊎ ((e ≡ f) × (i < j)) → IsBefore (place (fault.WrongStep x e i)) (place (fault.WrongStep x f j))
step_place x e i f j h = inr (refl, inr (refl, ⊎_elim (λ lt. inl (omega (arith, lt))) (λ s. inr (ap suc s.0, inl s.1)) h))

module _ (model : Model) (r : CustomRecord) (counts : List ℕ) (are : AreCounts model r counts) (counted : length r.run.logs ≡ length r.head.objects) where
  abbrev Terms : List CustomTerms
  Terms = custom_terms counts r.head.objects

  abbrev WrongStep : ℕ → ℕ → ℕ → Type 0
  WrongStep x e i = CountedWrong by_count Terms r.run x e i

  -- an object has a count
  pub count_at : (x : ℕ) (o : CustomSettings) → slice_get r.head.objects x ≡ Some o → IsCount (model o) (steps_of (log_of x r.run)) (slice_index counts x)
  count_at x o on =
      let n = are.counted in
      let lt = slice_get_within r.head.objects x o on in
      let c = some_at counts x (omega (arith, n, lt)) in
      subst (λ (k : ℕ). IsCount (model o) (steps_of (log_of x r.run)) k) (sym (get_or_from_slice_get counts x c.0 0 c.1)) (are.each x o c.0 on c.1)

  -- a step that is wrong by the counts, in the words of its log
  step_to : (x e i : ℕ) (o : CustomSettings) (d : CustomEvent) → slice_get r.head.objects x ≡ Some o → slice_get (log_of x r.run) e ≡ Some d → i < length d.steps.list.items → (slice_index counts x ≤ length (steps_of (take e (log_of x r.run))) + i) ⊎ IsBehindRefusing d.steps.list.items i → WrongStep x e i
  step_to x e i o d on at lt h = record { opened = term_of o (slice_index counts x); object = term_at counts r.head.objects x o on; wrong = event_wrong_if (slice_index counts x) (log_of x r.run) e i d at lt h }

  step_from : (x e i : ℕ) → WrongStep x e i → (o : CustomSettings) × (slice_get r.head.objects x ≡ Some o) × (h : EventAt (log_of x r.run) e i (length (steps_of (take e (log_of x r.run))) + i)) × ((slice_index counts x ≤ length (steps_of (take e (log_of x r.run))) + i) ⊎ IsBehindRefusing h.event.steps.list.items i)
  step_from x e i w =
      let o = object_of counts r.head.objects x w.opened w.object in
      let h = event_wrong_only (slice_index counts x) (log_of x r.run) e i (subst (λ (t : CustomTerms). EventIsWrongBy by_count t.state (log_of x r.run) e i) (sym o.2) w.wrong) in
      (o.0, o.1, h.0, h.1)

  -- what the first step that isn't right is, on both sides
  first_by : (x e i : ℕ) (o : CustomSettings) → slice_get r.head.objects x ≡ Some o → slice_index counts x < length (steps_of (log_of x r.run)) → EventAt (log_of x r.run) e i (slice_index counts x) → HasWrongStepBy model r x e i
  first_by x e i o on lt h =
      let p = h.place in
      record {
        object = o;
        there = on;
        event = h.event;
        at = h.there;
        within = h.within;
        wrong = inl (ap (model o) (sym (steps_to (log_of x r.run) e i h.event h.there h.within)) ∙ (ap (λ k. model o (take (k + 1) (steps_of (log_of x r.run)))) p ∙ (count_at x o on).next lt));
      }

  -- a step that is wrong by the model is wrong as counted
  wrong_of_by : (x e i : ℕ) → HasWrongStepBy model r x e i → WrongStep x e i
  wrong_of_by x e i f =
      let k = length (steps_of (take e (log_of x r.run))) + i in
      let n = slice_index counts x in
      step_to x e i f.object f.event f.there f.at f.within (⊎_elim
      (λ wrong. inl (⊎_elim
      (λ less. absurd (true≢false (sym ((count_at x f.object f.there).all k less) ∙ (ap (model f.object) (steps_to (log_of x r.run) e i f.event f.at f.within) ∙ wrong))))
      (λ le. le)
      (cases_lt k n)))
      (λ b. inr b)
      f.wrong)

  -- a step that is wrong by the counts is so by the model, or an earlier one is
  by_or_earlier : (x e i : ℕ) → WrongStep x e i → HasWrongStepBy model r x e i ⊎ ((f : ℕ) × (j : ℕ) × ((f < e) ⊎ ((f ≡ e) × (j < i))) × HasWrongStepBy model r x f j)
  by_or_earlier x e i w =
      let q = step_from x e i w in
      let o = q.0 in
      let on = q.1 in
      let h = q.2 in
      let n = slice_index counts x in
      let k = length (steps_of (take e (log_of x r.run))) + i in
      let lt = h.within in
      let all = event_within (log_of x r.run) e h.event h.there in
      let inside : k < length (steps_of (log_of x r.run)) = omega (arith, lt, all) in
      ⊎_elim
      (λ le. ⊎_elim
      (λ less.
      let f = find_event (log_of x r.run) n (omega (arith, less, inside)) in
      inr (f.0, f.1, earlier (log_of x r.run) f.0 f.1 n e i k f.2 h less, first_by x f.0 f.1 o on (omega (arith, less, inside)) f.2))
      (λ ge.
      let same : k ≡ n = omega (arith, le, ge) in
      inl (first_by x e i o on (omega (arith, le, ge, inside)) (record { event = h.event; there = h.there; within = h.within; place = same })))
      (cases_lt n k))
      (λ b. inl (record { object = o; there = on; event = h.event; at = h.there; within = h.within; wrong = inr b }))
      q.3

  -- of all but steps a model says nothing
  same_faults : (Q : List (Opened (Unit {0})) → Type 0) → Q (opened r.head) → Q (opened_list Terms)
  same_faults Q q = subst Q (sym (same_opened counts r.head)) q

  back_faults : (Q : List (Opened (Unit {0})) → Type 0) → Q (opened_list Terms) → Q (opened r.head)
  back_faults Q q = subst Q (same_opened counts r.head) q

  -- the fault by the model is one by the counts
  fault_to : (g : Fault) → IsFaultBy model r g → CountedFault by_count Terms r.run g
  fault_to (fault.TooLong x) h = same_faults (λ os. IsTooLong custom os r.run x) h
  fault_to (fault.WrongStep x e i) h = wrong_of_by x e i h
  fault_to (fault.RoomWasLeft cpu n) h = same_faults (λ os. HadRoom custom os r.run cpu n) h
  fault_to (fault.NotItsEvent cpu n) h = same_faults (λ os. IsNotItsEvent custom os r.run cpu n) h
  fault_to (fault.NotAsked cpu n) h = same_faults (λ os. IsNotAsked custom os r.run cpu n) h
  fault_to (fault.Unclaimed x e) h = same_faults (λ os. IsUnclaimed custom os r.run x e) h

  -- a fault by the counts is one by the model, where no earlier step is wrong
  fault_from : (g : Fault) → ((x e i : ℕ) → IsBefore (place (fault.WrongStep x e i)) (place g) → WrongStep x e i → ⊥) → CountedFault by_count Terms r.run g → IsFaultBy model r g
  fault_from (fault.TooLong x) none h = back_faults (λ os. IsTooLong custom os r.run x) h
  fault_from (fault.WrongStep x e i) none h = ⊎_elim (λ w. w) (λ q. absurd (none x q.0 q.1 (step_place x q.0 q.1 e i q.2) (wrong_of_by x q.0 q.1 q.3))) (by_or_earlier x e i h)
  fault_from (fault.RoomWasLeft cpu n) none h = back_faults (λ os. HadRoom custom os r.run cpu n) h
  fault_from (fault.NotItsEvent cpu n) none h = back_faults (λ os. IsNotItsEvent custom os r.run cpu n) h
  fault_from (fault.NotAsked cpu n) none h = back_faults (λ os. IsNotAsked custom os r.run cpu n) h
  fault_from (fault.Unclaimed x e) none h = back_faults (λ os. IsUnclaimed custom os r.run x e) h

  pub first_from : (f : Fault) → CountedFirst by_count Terms r.run f → IsFirstFaultBy model r f
  first_from f h = record { there = fault_from f (λ x e i b w. h.first (fault.WrongStep x e i) b w) h.there; first = λ g b w. h.first g b (fault_to g w) }

  -- where no step before a place is wrong by the model, none is as counted
  none_wrong : (ys : List ℕ) → ((x e i : ℕ) → IsBefore (place (fault.WrongStep x e i)) ys → HasWrongStepBy model r x e i → ⊥) → (x e i : ℕ) → IsBefore (place (fault.WrongStep x e i)) ys → WrongStep x e i → ⊥
  none_wrong ys none x e i b w = ⊎_elim (λ v. none x e i b v)
      (λ q. none x q.0 q.1 (before_trans (place (fault.WrongStep x q.0 q.1)) (place (fault.WrongStep x e i)) ys (step_place x q.0 q.1 e i q.2) b) q.3)
      (by_or_earlier x e i w)

  pub first_to : (f : Fault) → IsFirstFaultBy model r f → CountedFirst by_count Terms r.run f
  first_to f h =
      let none : (x e i : ℕ) → IsBefore (place (fault.WrongStep x e i)) (place f) → HasWrongStepBy model r x e i → ⊥ = λ x e i b w. h.first (fault.WrongStep x e i) b w in
      record {
        there = fault_to f h.there;
        first = λ g b w. h.first g b (fault_from g (λ x e i c v. none_wrong (place f) none x e i (before_trans (place (fault.WrongStep x e i)) (place g) (place f) c b) v) w);
      }
