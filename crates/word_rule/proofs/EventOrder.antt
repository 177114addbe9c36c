-- Where each CPU does its run by a script, the events come in the order in which the holds ended.
use Rattle.std.proofs.{Common.{◌≡◌, ◌⊎◌, inl, inr, ⊎_elim, ℕ, ◌<◌, ◌≤◌, Bool, true, false, cond, List, [], ◌∷◌, ◌++◌, map, length, drop, refl, sym, ap, ◌∙◌, subst, arith, append_assoc, length-append}, Math.Seq.drop-append_seam}
use Rattle.std.specs.List.{AllByRecursion}
use Rattle.event_log.specs.{declared.object.SeqObject.Ghosts, declared.event.Event.Event, declared.entry.Todo.Todo, Log.Begins}
use Rattle.event_log.proofs.Beginnings.{begins_self, begins_append, begins_cons}
use Rattle.word_rule.specs.{declared.view.TraceStep.TraceStep, Cell.Cell, LockRuns.{events_in, IsTraceStep, HasRun, endings_in}, Replay.{DoesRun, AllDoRun}, StepKinds.ends_hold}

module _ {O P C R : Type 0} (n limit : ℕ) where
  -- one event, or none in a full log
  abbrev One : List (Event O P C R) → List (Event O P C R) → Type 0
  One log events = ((e : Event O P C R) × (events ≡ e ∷ [])) ⊎ ((events ≡ []) × (length log ≡ limit))

  -- each step that ends a hold left one event in the log so far, or none where that was full
  abbrev LeftOne : List (Event O P C R) → List (TraceStep (Event O P C R)) → Type 0
  LeftOne log [] = Unit {0}
  LeftOne log (m ∷ ms) = (ends_hold m.step ≡ true → One log m.events) × LeftOne (log ++ m.events) ms

  abbrev cpus_of : List (Event O P C R) → List ℕ
  cpus_of es = map (λ e. e.cpu) es

  -- the events of a step that ended a hold, and all that came behind it
  module _ (log : List (Event O P C R)) (m : TraceStep (Event O P C R)) (later : List (Event O P C R)) (is : IsTraceStep n m) where
    none_first : m.events ≡ [] → cpus_of (m.events ++ later) ≡ cpus_of later
    none_first none = ap (λ es. cpus_of (es ++ later)) none

    one_first : (e : Event O P C R) → m.events ≡ e ∷ [] → cpus_of (m.events ++ later) ≡ m.cpu ∷ cpus_of later
    one_first e one = ap (λ es. cpus_of (es ++ later)) one ∙ ap (λ (z : ℕ). z ∷ cpus_of later) ((subst (AllByRecursion (λ (x : Event O P C R). x.cpu ≡ m.cpu)) one is.own).0)

    -- nothing comes in a full log
    full_last : length (log ++ (m.events ++ later)) ≤ limit → length log ≡ limit → cpus_of (m.events ++ later) ≡ []
    full_last fits full = by (m.events ++ later) (let long = length-append log (m.events ++ later) in omega (arith, fits, full, long))
      where
        by : (es : List (Event O P C R)) → length es ≡ 0 → cpus_of es ≡ []
        by [] none = refl
        by (e ∷ es) none = absurd (omega (arith, none))

  begins_by_ends : (log : List (Event O P C R)) (ms : List (TraceStep (Event O P C R))) → AllByRecursion (IsTraceStep n) ms → LeftOne log ms → length (log ++ events_in ms) ≤ limit → Begins (cpus_of (events_in ms)) (endings_in ms)
  begins_by_ends log [] all one fits = begins_self []
  begins_by_ends log (m ∷ ms) all one fits = by (ends_hold m.step) refl (begins_by_ends (log ++ m.events) ms all.1 one.1 (subst (λ l. length l ≤ limit) (sym (append_assoc log m.events (events_in ms))) fits))
    where
      by : (b : Bool) → ends_hold m.step ≡ b → Begins (cpus_of (events_in ms)) (endings_in ms) → Begins (cpus_of (m.events ++ events_in ms)) (cond b (m.cpu ∷ endings_in ms) (endings_in ms))
      by false not more = subst (λ l. Begins l (endings_in ms)) (sym (none_first log m (events_in ms) all.0 (all.0.silent not))) more
      by true ends more = ⊎_elim
          (λ (e : (e : Event O P C R) × (m.events ≡ e ∷ [])). subst (λ l. Begins l (m.cpu ∷ endings_in ms)) (sym (one_first log m (events_in ms) all.0 e.0 e.1)) (begins_cons m.cpu (cpus_of (events_in ms)) (endings_in ms) more))
          (λ (e : (m.events ≡ []) × (length log ≡ limit)). subst (λ l. Begins l (m.cpu ∷ endings_in ms)) (sym (full_last log m (events_in ms) all.0 fits e.1)) (begins_append [] (m.cpu ∷ endings_in ms)))
          (one.0 ends)

  same_as_ends : (log : List (Event O P C R)) (ms : List (TraceStep (Event O P C R))) → AllByRecursion (IsTraceStep n) ms → LeftOne log ms → length (log ++ events_in ms) < limit → cpus_of (events_in ms) ≡ endings_in ms
  same_as_ends log [] all one fits = refl
  same_as_ends log (m ∷ ms) all one fits = by (ends_hold m.step) refl (same_as_ends (log ++ m.events) ms all.1 one.1 (subst (λ l. length l < limit) (sym (append_assoc log m.events (events_in ms))) fits))
    where
      by : (b : Bool) → ends_hold m.step ≡ b → cpus_of (events_in ms) ≡ endings_in ms → cpus_of (m.events ++ events_in ms) ≡ cond b (m.cpu ∷ endings_in ms) (endings_in ms)
      by false not more = none_first log m (events_in ms) all.0 (all.0.silent not) ∙ more
      by true ends more = ⊎_elim
          (λ (e : (e : Event O P C R) × (m.events ≡ e ∷ [])). one_first log m (events_in ms) all.0 e.0 e.1 ∙ ap (λ l. m.cpu ∷ l) more)
          (λ (e : (m.events ≡ []) × (length log ≡ limit)). let full = e.1 in let long = length-append log (m.events ++ events_in ms) in absurd (omega (arith, fits, full, long)))
          (one.0 ends)

module _ {O P C R : Type 0} (meaning : Ghosts O P C R) where
  -- a CPU does the run by some script
  record Plays (cpu limit : ℕ) (log : List (Event O P C R)) (ms : List (TraceStep (Event O P C R))) : Type 0 where
    script : List (Todo O P C R)
    rest : List (Todo O P C R)
    does : DoesRun meaning cpu limit log ms script rest

  left_one : (n limit : ℕ) (log : List (Event O P C R)) (ms : List (TraceStep (Event O P C R))) → AllByRecursion (IsTraceStep n) ms → ((i : ℕ) → i < n → Plays i limit log ms) → LeftOne n limit log ms
  left_one n limit log [] all each = tt
  left_one n limit log (m ∷ ms) all each = (
    λ ends. ⊎_elim (λ one. inl (one.0, one.1)) inr (((each m.cpu all.0.inside).does.1 refl).ended ends).0,
    left_one n limit (log ++ m.events) ms all.1 (λ i lt. let p = each i lt in record { script = p.does.0; rest = p.rest; does = p.does.3 }),
  )

  module _ (h : Cell O P C R) (log : List (Event O P C R)) (run : List (TraceStep (Event O P C R))) (script rest : ℕ → List (Todo O P C R)) (ran : HasRun h log run) (all : AllDoRun meaning h run script rest) where
    one : LeftOne h.numbers h.limit h.opening run
    one = left_one h.numbers h.limit h.opening run ran.each (λ i lt. record { script = script i; rest = rest i; does = all i lt })

    since : cpus_of h.numbers h.limit (drop (length h.opening) log) ≡ cpus_of h.numbers h.limit (events_in run)
    since = ap (λ l. cpus_of h.numbers h.limit (drop (length h.opening) l)) ran.left ∙ ap (cpus_of h.numbers h.limit) (drop-append_seam h.opening (events_in run))

    pub events_begin : length log ≤ h.limit → Begins (map (λ e. e.cpu) (drop (length h.opening) log)) (endings_in run)
    events_begin fits = subst (λ l. Begins l (endings_in run)) (sym since) (begins_by_ends h.numbers h.limit h.opening run ran.each one (subst (λ l. length l ≤ h.limit) ran.left fits))

    pub events_end : length log < h.limit → map (λ e. e.cpu) (drop (length h.opening) log) ≡ endings_in run
    events_end room = since ∙ same_as_ends h.numbers h.limit h.opening run ran.each one (subst (λ l. length l < h.limit) ran.left room)
