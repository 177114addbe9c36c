-- Steps, events and logs of which so many steps are right.
use Rattle.std.proofs.{Common.{◌≡◌, ◌⊎◌, inl, inr, ⊎_elim, ℕ, zero, suc, ◌+◌, ◌-◌, ◌<◌, ◌≤◌, Bool, true, false, true≢false, List, [], ◌∷◌, length, take, Some, slice_get, refl, sym, ap, ◌∙◌, subst, arith, length-append}, lemmas.Bool.cases_lt}
use Rattle.std.specs.List.{AllByRecursion}
use Rattle.event_log.specs.Log.{steps_of}
use Rattle.auditor.specs.{Faults.HasSteps, StepModels.{StepModel, counted_model, behind_all, AreRightFrom, LegalBy, StepIsWrongBy, EventIsWrongBy}}
use Rattle.custom_records.specs.{declared.object.CustomObject.CustomObject, declared.object.CustomReply.CustomReply, Custom.{CustomStep, CustomEvent, custom}, Said.Said}
use Rattle.judge.specs.Models.{IsBehindRefusing, NoneBehindRefusing}

-- so many steps are right
abbrev pub by_count : StepModel ℕ CustomObject (Unit {0}) Said CustomReply
by_count = counted_model custom

-- so many are left behind steps
all_less : (n : ℕ) (steps : List CustomStep) → behind_all by_count n steps ≡ n - length steps
all_less n [] = omega arith
all_less n (s ∷ steps) = let e : n - 1 - length steps ≡ n - suc (length steps) = omega arith in all_less (n - 1) steps ∙ e

-- an earlier step that refused, one place on
behind_more : (s : CustomStep) (steps : List CustomStep) (i : ℕ) → IsBehindRefusing steps i → IsBehindRefusing (s ∷ steps) (suc i)
behind_more s steps i b = let lt = b.before in record { index = suc b.index; before = omega (arith, lt); step = b.step; there = b.there; refuses = b.refuses }

behind_first : (s : CustomStep) (steps : List CustomStep) (i : ℕ) → s.reply.refuses ≡ true → IsBehindRefusing (s ∷ steps) (suc i)
behind_first s steps i r = record { index = 0; before = omega arith; step = s; there = refl; refuses = r }

-- the first step refused, or an earlier one of the others
behind_less : (s : CustomStep) (steps : List CustomStep) (i : ℕ) → IsBehindRefusing (s ∷ steps) (suc i) → (s.reply.refuses ≡ true) ⊎ IsBehindRefusing steps i
behind_less s steps i b = by b.index b.before b.there
  where
    by : (k : ℕ) → k < suc i → slice_get (s ∷ steps) k ≡ Some b.step → (s.reply.refuses ≡ true) ⊎ IsBehindRefusing steps i
    by zero lt at = let same : s ≡ b.step = cc in inl (ap (λ (t : CustomStep). t.reply.refuses) same ∙ b.refuses)
    by (suc k) lt at = inr (record { index = k; before = omega arith; step = b.step; there = at; refuses = b.refuses })

not_behind_none : (steps : List CustomStep) → IsBehindRefusing steps 0 → ⊥
not_behind_none steps b = let lt = b.before in absurd (omega (arith, lt))

-- a step is wrong from the first that isn't right on, and behind one that refused
not_more : (n : ℕ) → (0 < n → ⊥) → n ≤ 0
not_more zero h = omega arith
not_more (suc n) h = absurd (h (omega arith))

pub wrong_only : (n : ℕ) (steps : List CustomStep) (i : ℕ) → StepIsWrongBy by_count n steps i → (i < length steps) × ((n ≤ i) ⊎ IsBehindRefusing steps i)
wrong_only n [] i w = absurd w
wrong_only n (x ∷ xs) zero w = (omega arith, inl (not_more n w))
wrong_only n (x ∷ xs) (suc i) w = ⊎_elim
    (λ r. let lt = r.1 in (omega (arith, lt), inr (behind_first x xs i r.0)))
    (λ v. let h = wrong_only (n - 1) xs i v in let lt = h.0 in (omega (arith, lt), ⊎_elim (λ le. inl (omega (arith, le))) (λ b. inr (behind_more x xs i b)) h.1))
    w

pub wrong_if : (n : ℕ) (steps : List CustomStep) (i : ℕ) → i < length steps → (n ≤ i) ⊎ IsBehindRefusing steps i → StepIsWrongBy by_count n steps i
wrong_if n [] i lt h = absurd (omega arith)
wrong_if n (x ∷ xs) zero lt h = λ more. ⊎_elim (λ le. absurd (omega (arith, le, more))) (λ b. absurd (not_behind_none (x ∷ xs) b)) h
wrong_if n (x ∷ xs) (suc i) lt h = ⊎_elim
    (λ le. inr (wrong_if (n - 1) xs i (omega arith) (inl (omega (arith, le)))))
    (λ b. ⊎_elim (λ r. inl (r, omega arith)) (λ c. inr (wrong_if (n - 1) xs i (omega arith) (inr c))) (behind_less x xs i b))
    h

-- the event at a place, with how many steps are before it
pub record EventAt (log : List CustomEvent) (e i k : ℕ) : Type 0 where
  pub event : CustomEvent
  pub there : slice_get log e ≡ Some event
  pub within : i < length event.steps.list.items
  pub place : length (steps_of (take e log)) + i ≡ k

pub event_wrong_only : (n : ℕ) (log : List CustomEvent) (e i : ℕ) → EventIsWrongBy by_count n log e i → (h : EventAt log e i (length (steps_of (take e log)) + i)) × ((n ≤ length (steps_of (take e log)) + i) ⊎ IsBehindRefusing h.event.steps.list.items i)
event_wrong_only n [] e i w = absurd w
event_wrong_only n (x ∷ log) zero i w = let h = wrong_only n x.steps.list.items i w in (record { event = x; there = refl; within = h.0; place = refl }, ⊎_elim (λ le. inl (omega (arith, le))) (λ b. inr b) h.1)
event_wrong_only n (x ∷ log) (suc e) i w =
    let h = event_wrong_only (behind_all by_count n x.steps.list.items) log e i w in
    let q = all_less n x.steps.list.items in
    let m = length-append x.steps.list.items (steps_of (take e log)) in
    (record { event = h.0.event; there = h.0.there; within = h.0.within; place = refl }, ⊎_elim (λ le. inl (omega (arith, m, le, q))) (λ b. inr b) h.1)

pub event_wrong_if : (n : ℕ) (log : List CustomEvent) (e i : ℕ) (x : CustomEvent) → slice_get log e ≡ Some x → i < length x.steps.list.items → (n ≤ length (steps_of (take e log)) + i) ⊎ IsBehindRefusing x.steps.list.items i → EventIsWrongBy by_count n log e i
event_wrong_if n [] e i x at lt h = cc
event_wrong_if n (y ∷ log) zero i x at lt h =
    let same : x ≡ y = cc in
    wrong_if n y.steps.list.items i (subst (λ (z : CustomEvent). i < length z.steps.list.items) same lt) (⊎_elim (λ le. inl (omega (arith, le))) (λ b. inr (subst (λ (z : CustomEvent). IsBehindRefusing z.steps.list.items i) same b)) h)
event_wrong_if n (y ∷ log) (suc e) i x at lt h =
    let m = length-append y.steps.list.items (steps_of (take e log)) in
    let q = all_less n y.steps.list.items in
    event_wrong_if (behind_all by_count n y.steps.list.items) log e i x at lt (⊎_elim (λ le. inl (omega (arith, m, le, q))) (λ b. inr b) h)

-- the event that has the step at a place among all steps of a log
pub find_event : (log : List CustomEvent) (k : ℕ) → k < length (steps_of log) → (e : ℕ) × (i : ℕ) × EventAt log e i k
find_event [] k lt = absurd (omega arith)
find_event (x ∷ log) k lt = ⊎_elim
    (λ less. (0, k, record { event = x; there = refl; within = less; place = omega arith }))
    (λ le.
    let m = length-append x.steps.list.items (steps_of log) in
    let h = find_event log (k - length x.steps.list.items) (omega (arith, m, lt, le)) in
    let p = h.2.place in
    let q = length-append x.steps.list.items (steps_of (take h.0 log)) in
    (suc h.0, h.1, record { event = h.2.event; there = h.2.there; within = h.2.within; place = omega (arith, p, q, le) }))
    (cases_lt k (length x.steps.list.items))

answers_if : (n : ℕ) (steps : List CustomStep) → length steps ≤ n → ((i : ℕ) → i < length steps → IsBehindRefusing steps i → ⊥) → AreRightFrom by_count n steps
answers_if n [] le none = tt
answers_if n (x ∷ []) le none = omega (arith, le)
answers_if n (x ∷ y ∷ steps) le none = (omega (arith, le), by x.reply.refuses refl, answers_if (n - 1) (y ∷ steps) (omega (arith, le)) (λ i lt b. none (suc i) (omega arith) (behind_more x (y ∷ steps) i b)))
  where
    by : (b : Bool) → x.reply.refuses ≡ b → x.reply.refuses ≡ false
    by true r = absurd (none 1 (omega arith) (behind_first x (y ∷ steps) 0 r))
    by false r = r

answers_right : (n : ℕ) (steps : List CustomStep) → AreRightFrom by_count n steps → length steps ≤ n
answers_right n [] h = omega arith
answers_right n (x ∷ []) h = omega (arith, h)
answers_right n (x ∷ y ∷ steps) h = let t = answers_right (n - 1) (y ∷ steps) h.2 in let more = h.0 in omega (arith, t, more)

answers_ends : (n : ℕ) (steps : List CustomStep) → AreRightFrom by_count n steps → (i : ℕ) → i < length steps → IsBehindRefusing steps i → ⊥
answers_ends n [] h i lt b = absurd (omega arith)
answers_ends n (x ∷ steps) h zero lt b = not_behind_none (x ∷ steps) b
answers_ends n (x ∷ []) h (suc i) lt b = absurd (omega arith)
answers_ends n (x ∷ y ∷ steps) h (suc i) lt b = ⊎_elim (λ r. absurd (true≢false (sym r ∙ h.1))) (λ c. answers_ends (n - 1) (y ∷ steps) h.2 i (omega arith) c) (behind_less x (y ∷ steps) i b)

-- a log is legal where all of its steps are right and none stands behind one that refused
pub legal_if : (n : ℕ) (log : List CustomEvent) → length (steps_of log) ≤ n → AllByRecursion NoneBehindRefusing log → AllByRecursion HasSteps log → LegalBy by_count n log
legal_if n [] le ends sizes = tt
legal_if n (e ∷ log) le ends sizes =
    let m = length-append e.steps.list.items (steps_of log) in
    let q = all_less n e.steps.list.items in
    (record { some = sizes.0.some; few = sizes.0.few; right = answers_if n e.steps.list.items (omega (arith, m, le)) ends.0 }, legal_if (behind_all by_count n e.steps.list.items) log (omega (arith, m, le, q)) ends.1 sizes.1)

pub legal_right : (n : ℕ) (log : List CustomEvent) → LegalBy by_count n log → length (steps_of log) ≤ n
legal_right n [] h = omega arith
legal_right n (e ∷ log) h =
    let m = length-append e.steps.list.items (steps_of log) in
    let q = all_less n e.steps.list.items in
    let here = answers_right n e.steps.list.items h.0.right in
    let t = legal_right (behind_all by_count n e.steps.list.items) log h.1 in
    omega (arith, m, here, t, q)

pub legal_ends : (n : ℕ) (log : List CustomEvent) → LegalBy by_count n log → AllByRecursion NoneBehindRefusing log
legal_ends n [] h = tt
legal_ends n (e ∷ log) h = (answers_ends n e.steps.list.items h.0.right, legal_ends (behind_all by_count n e.steps.list.items) log h.1)
