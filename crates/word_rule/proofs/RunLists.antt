-- Lists of steps: what each CPU did, what the steps left, and how one run extends another.
use Rattle.std.proofs.{Common.{◌≡◌, ◌≢◌, ℕ, ◌<◌, ◌==◌, Bool, true, false, cond, List, [], ◌∷◌, ◌++◌, length, drop, refl, sym, ap, ◌∙◌, subst, append_assoc, append-nil, eq-eqb, ne_eqb}, lemmas.List.Elements.filter-append, lemmas.List.map-append}
use Rattle.std.specs.List.{AllByRecursion}
use Rattle.event_log.specs.declared.event.Event.{Event}
use Rattle.event_log.proofs.Beginnings.{begins_self, begins_then, begins_more, begins_append, begins_rest}
use Rattle.word_rule.specs.{declared.machine.step_done.StepDone.StepDone, declared.view.TraceStep.TraceStep, LockRuns.{by_cpu, events_in, doers_in, Extends, ExtendsUntil, IsTraceStep}, OneHold.{leaving, silently}}

module _ {E : Type 0} where
  pub by_append : (k : ℕ) (a b : List (TraceStep E)) → by_cpu k (a ++ b) ≡ by_cpu k a ++ by_cpu k b
  by_append k a b = filter-append (λ m. m.cpu == k) a b

  pub events_append : (a b : List (TraceStep E)) → events_in (a ++ b) ≡ events_in a ++ events_in b
  events_append [] b = refl
  events_append (m ∷ ms) b = ap (λ l. m.events ++ l) (events_append ms b) ∙ sym (append_assoc m.events (events_in ms) (events_in b))

  pub doers_append : (test : StepDone → Bool) (a b : List (TraceStep E)) → doers_in test (a ++ b) ≡ doers_in test a ++ doers_in test b
  doers_append test [] b = refl
  doers_append test (m ∷ ms) b = by (test m.step) (doers_append test ms b)
    where
      by : (t : Bool) → doers_in test (ms ++ b) ≡ doers_in test ms ++ doers_in test b → cond t (m.cpu ∷ doers_in test (ms ++ b)) (doers_in test (ms ++ b)) ≡ cond t (m.cpu ∷ doers_in test ms) (doers_in test ms) ++ doers_in test b
      by true e = ap (λ l. m.cpu ∷ l) e
      by false e = e

  -- steps of one CPU are no other's
  pub by_other : (k cpu : ℕ) (ms : List (TraceStep E)) → AllByRecursion (λ m. m.cpu ≡ cpu) ms → k ≢ cpu → by_cpu k ms ≡ []
  by_other k cpu [] all ne = refl
  by_other k cpu (m ∷ ms) all ne = ap (λ b. cond b (m ∷ by_cpu k ms) (by_cpu k ms)) (ne_eqb m.cpu k (λ is. ne (sym is ∙ all.0))) ∙ by_other k cpu ms all.1 ne

  pub extends_self : (owned : ℕ → Bool) (a : List (TraceStep E)) → Extends owned a [] a
  extends_self owned a = record { begins = begins_self a; own = λ k _. ap (by_cpu k) (sym (append-nil a)) }

  pub extends_then : (owned : ℕ → Bool) (a xs b ys c : List (TraceStep E)) → Extends owned a xs b → Extends owned b ys c → Extends owned a (xs ++ ys) c
  extends_then owned a xs b ys c p q = record {
    begins = begins_then a b c p.begins q.begins;
    own = λ k o. q.own k o ∙ (by_append k b ys ∙ (ap (λ l. l ++ by_cpu k ys) (p.own k o) ∙ (sym (by_append k (a ++ xs) ys) ∙ ap (by_cpu k) (append_assoc a xs ys))));
  }

  -- what others add in between changes nothing
  pub extends_after : (owned : ℕ → Bool) (a b ys c : List (TraceStep E)) → Extends owned a [] b → Extends owned b ys c → Extends owned a ys c
  extends_after owned a b ys c p q = extends_then owned a [] b ys c p q

  pub extends_before : (owned : ℕ → Bool) (a xs b c : List (TraceStep E)) → Extends owned a xs b → Extends owned b [] c → Extends owned a xs c
  extends_before owned a xs b c p q = subst (λ l. Extends owned a l c) (append-nil xs) (extends_then owned a xs b [] c p q)

  -- steps of the caller's own come at the end
  pub extends_by : (owned : ℕ → Bool) (a ms : List (TraceStep E)) → Extends owned a ms (a ++ ms)
  extends_by owned a ms = record { begins = begins_append a ms; own = λ _ _. refl }

  -- a last step, after others
  pub until_then : (owned : ℕ → Bool) (a xs b ys : List (TraceStep E)) (last : TraceStep E) (c : List (TraceStep E)) → Extends owned a xs b → ExtendsUntil owned b ys last c → ExtendsUntil owned a (xs ++ ys) last c
  until_then owned a xs b ys last c p q = record { before = q.before; extends = extends_then owned a xs b ys q.before p q.extends; is = q.is }

  pub until_since : (owned : ℕ → Bool) (a xs b : List (TraceStep E)) (last : TraceStep E) (c : List (TraceStep E)) → Extends owned a xs b → ExtendsUntil owned b [] last c → ExtendsUntil owned a xs last c
  until_since owned a xs b last c p q = subst (λ l. ExtendsUntil owned a l last c) (append-nil xs) (until_then owned a xs b [] last c p q)

  -- and steps of another CPU
  pub extends_beside : (owned : ℕ → Bool) (a b : List (TraceStep E)) (cpu : ℕ) (ms : List (TraceStep E)) → Extends owned a [] b → AllByRecursion (λ m. m.cpu ≡ cpu) ms → ((k : ℕ) → owned k ≡ true → k ≢ cpu) → Extends owned a [] (b ++ ms)
  extends_beside owned a b cpu ms p all apart = record {
    begins = begins_more a b ms p.begins;
    own = λ k o. by_append k b ms ∙ (ap (λ l. by_cpu k b ++ l) (by_other k cpu ms all (apart k o)) ∙ (append-nil (by_cpu k b) ∙ p.own k o));
  }

  pub silently_append : (cpu : ℕ) (a b : List StepDone) → silently {E = E} cpu (a ++ b) ≡ silently cpu a ++ silently cpu b
  silently_append cpu a b = map-append (λ s. leaving {E = E} cpu s []) a b

pub silent_own : (E : Type 0) (cpu : ℕ) (done : List StepDone) → AllByRecursion (λ (m : TraceStep E). m.cpu ≡ cpu) (silently {E = E} cpu done)
silent_own E cpu [] = tt
silent_own E cpu (s ∷ ss) = (refl, silent_own E cpu ss)

-- a run that extends another by nothing of any CPU is that one
more_steps : {E : Type 0} (n : ℕ) (a c : List (TraceStep E)) → ((z : ℕ) → z < n → by_cpu z (a ++ c) ≡ by_cpu z a) → AllByRecursion (λ m. m.cpu < n) c → c ≡ []
more_steps n a [] f below = refl
more_steps {E} n a (m ∷ ms) f below = absurd (longer (by_cpu m.cpu a) (by_cpu m.cpu ms) m (sym (f m.cpu below.0) ∙ (by_append m.cpu a (m ∷ ms) ∙ ap (λ l. by_cpu m.cpu a ++ l) (ap (λ b. cond b (m ∷ by_cpu m.cpu ms) (by_cpu m.cpu ms)) (eq-eqb m.cpu m.cpu refl)))))
  where
    longer : (xs ys : List (TraceStep E)) (d : TraceStep E) → xs ≡ xs ++ d ∷ ys → ⊥
    longer [] ys d e = absurd (cc)
    longer (x ∷ xs) ys d e = longer xs ys d (cc)

all_behind : {A : Type 0} (P : A → Type 0) (a b : List A) → AllByRecursion P (a ++ b) → AllByRecursion P b
all_behind P [] b all = all
all_behind P (x ∷ xs) b all = all_behind P xs b all.1

pub same_run : {E : Type 0} (n : ℕ) (owned : ℕ → Bool) (a b : List (TraceStep E)) → Extends owned a [] b → ((k : ℕ) → k < n → owned k ≡ true) → AllByRecursion (λ m. m.cpu < n) b → b ≡ a
same_run {E} n owned a b e all below =
    let is = begins_rest a b e.begins in
    let none = more_steps n a (drop (length a) b) (λ z lt. ap (by_cpu z) (sym is) ∙ (e.own z (all z lt) ∙ ap (by_cpu z) (append-nil a))) (all_behind (λ (m : TraceStep E). m.cpu < n) a (drop (length a) b) (subst (AllByRecursion (λ (m : TraceStep E). m.cpu < n)) is below)) in
    is ∙ (ap (λ l. a ++ l) none ∙ append-nil a)

pub all_inside : {O P C R : Type 0} (n : ℕ) (ms : List (TraceStep (Event O P C R))) → AllByRecursion (IsTraceStep n) ms → AllByRecursion (λ m. m.cpu < n) ms
all_inside n [] all = tt
all_inside n (m ∷ ms) all = (all.0.inside, all_inside n ms all.1)
