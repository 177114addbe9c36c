-- What a step leaves with a caller: the types of every lock's callers stay true, and the step is one of its kind.
use Rattle.std.proofs.{Common.{◌≡◌, ℕ, ◌<◌, ◌≤◌, ◌||◌, true, List, [], ◌∷◌, ◌++◌, map, min, length, drop, refl, sym, ap, ◌∙◌, subst, ⊎_elim, arith, Option, Some, None, Result, Ok, Err, IfOk, OnErr, append_assoc, ◌==◌}, Math.Seq.drop-append_seam, lemmas.Bool.{or_right, or_left}, lemmas.List.Folds.list_any-append}
use Rattle.std.specs.List.{AllByRecursion}
use mathlib.Core.Logic.{dite}
use native.Mathlib.Decide.{dec_le}
use Rattle.atomic_table.specs.Table.{rest}
use Rattle.event_log.specs.{declared.object.SeqObject.Ghosts, declared.event.Event.Event, declared.event.Steps.Steps, Distinct.has, Log.{Begins, Legal, after, one_step, replay}, History.{History, IsKept, with_event}}
use Rattle.event_log.proofs.{Each.all_push, Beginnings.{begins_self, begins_more, begins_rest}}
use Rattle.word_rule.specs.{declared.machine.step_done.StepDone.StepDone, declared.lock_kind.Stage.Stage, declared.lock_kind.Stage.TheVariants.Idle, declared.view.TraceStep.TraceStep, Answered.IsBusy, Cell.{Cell, Grows, IsCaller, Lawful, OwnsAll, stored}, CallerState.{CallerState, Moves, Takes, Gives, NeedsAnother}, Locks.holding, LockRuns.{Extends, HasRun}, OneHold.silently, Rule.CellInvariant.SeatView, Rule.Seats.{Seat, shown, at, moved_on, settled, taken_in, keeping, letting, merged}, Rule.Announced.{Lacks, HasAll, Learns, Goes, Lags, Gets, Left, Returns, any_has}, Rule.Callers.{AddedBy, caller_of, state_without, state_with, StandsAt, IsWithout, IsWith}}
use Rattle.word_rule.proofs.{Known.value_of, RunLists.extends_self, Lists.{has_append, of_push, grows_self, grows_then, or_none}}

module _ {O P C R : Type 0} where
  -- the seat after a step that its first caller did
  stands_settled : (h : Cell O P C R) (cpu : ℕ) (p q : Stage) (log : List (Event O P C R)) (run : List (TraceStep (Event O P C R))) (slots slots' : List (ℕ × Option (History O P C R))) (m : Seat O P C R) → StandsAt h cpu p slots m → StandsAt h cpu q slots' (settled m.0 q log run, slots')
  stands_settled h cpu p q log run slots slots' m a = record { alone = ap (map (shown log run)) a.alone; number = a.number; carries = refl; stands = refl; reported = a.reported }

  stands_moved : (h : Cell O P C R) (cpu : ℕ) (p q : Stage) (log : List (Event O P C R)) (run : List (TraceStep (Event O P C R))) (slots : List (ℕ × Option (History O P C R))) (m : Seat O P C R) → StandsAt h cpu p slots m → StandsAt h cpu q slots (moved_on m.0 q log run, slots)
  stands_moved h cpu p q log run slots m a = record { alone = a.alone; number = a.number; carries = refl; stands = refl; reported = a.reported }

module _ {O P C R : Type 0} (meaning : Ghosts O P C R) where
  -- it has seen this log and this run
  pub sees_without : (h : Cell O P C R) (cpu : ℕ) (p q : Stage) (log : List (Event O P C R)) (run : List (TraceStep (Event O P C R))) (m m' : Seat O P C R) → IsWithout meaning h cpu p m → Lawful meaning h log → HasRun h log run → m' ≡ (settled m.0 q log run, []) → IsWithout meaning h cpu q m'
  sees_without h cpu p q log run m m' w valid ran e = subst (IsWithout meaning h cpu q) (sym e) record {
    at = stands_settled h cpu p q log run [] [] m w.at;
    pass_view = record { caller = w.pass_view.caller; valid = valid };
    ran = ran;
  }

  -- it stands elsewhere, by these steps
  pub goes_without : (h : Cell O P C R) (cpu : ℕ) (p q : Stage) (done : List StepDone) (m m' : Seat O P C R) → IsWithout meaning h cpu p m → Goes meaning q done m m' → IsWithout meaning h cpu q m'
  goes_without h cpu p q done m m' w g = subst (IsWithout meaning h cpu q) (sym (g.seat ∙ (λ k. (moved_on m.0 q g.log g.run, w.at.carries k)))) record {
    at = stands_moved h cpu p q g.log g.run [] m w.at;
    pass_view = record { caller = w.pass_view.caller; valid = g.learns.valid h w.at.reported };
    ran = g.learns.ran h w.at.reported;
  }

  pub moves_without : (h : Cell O P C R) (cpu : ℕ) (p q : Stage) (done : List StepDone) (m m' : Seat O P C R) → IsWithout meaning h cpu p m → Goes meaning q done m m' → Moves meaning p q done (state_without h p m) (state_without h q m')
  moves_without h cpu p q done m m' w g = subst (λ z. Moves meaning p q done (state_without h p m) (state_without h q z)) (sym g.seat) record {
    caller = refl;
    from = refl;
    to = refl;
    grows = g.learns.grows;
    still = λ e. g.still (ap holding w.at.stands ∙ e);
    extends = g.learns.extends;
    valid = g.learns.valid h w.at.reported;
    has = refl;
  }

  -- so does one with the object
  pub goes_with : (h : Cell O P C R) (cpu : ℕ) (p q : Stage) (done : List StepDone) (x : History O P C R) (m m' : Seat O P C R) → IsWith meaning h cpu p x m → holding p ≡ true → Goes meaning q done m m' → IsWith meaning h cpu q x m'
  goes_with h cpu p q done x m m' w holds g = subst (IsWith meaning h cpu q x) (sym (g.seat ∙ (λ k. (moved_on m.0 q g.log g.run, w.at.carries k)))) record {
    at = stands_moved h cpu p q g.log g.run ((0, None) ∷ []) m w.at;
    added = subst (λ (l : List (Event O P C R)). AddedBy m.0.main.cpu l x.log) (sym (g.still (ap holding w.at.stands ∙ holds))) w.added;
    hold_view = w.hold_view;
    ran = g.learns.ran h w.at.reported;
  }

  pub moves_with : (h : Cell O P C R) (cpu : ℕ) (p q : Stage) (done : List StepDone) (x : History O P C R) (m m' : Seat O P C R) → IsWith meaning h cpu p x m → Goes meaning q done m m' → Moves meaning p q done (state_with h p x m) (state_with h q x m')
  moves_with h cpu p q done x m m' w g = subst (λ z. Moves meaning p q done (state_with h p x m) (state_with h q x z)) (sym g.seat) record {
    caller = refl;
    from = refl;
    to = refl;
    grows = g.learns.grows;
    still = λ e. g.still (ap holding w.at.stands ∙ e);
    extends = g.learns.extends;
    valid = g.learns.valid h w.at.reported;
    has = refl;
  }

  -- it has the object, and stands where its seat says
  pub holds_now : (h : Cell O P C R) (cpu : ℕ) (p q : Stage) (x : History O P C R) (run : List (TraceStep (Event O P C R))) (m m' : Seat O P C R) → IsWithout meaning h cpu p m → Lawful meaning h x.log → HasRun h x.log run → x ≡ stored meaning h x.log → m' ≡ (settled m.0 q x.log run, (0, None) ∷ []) → IsWith meaning h cpu m'.0.main.stage x m'
  holds_now h cpu p q x run m m' w valid ran is e = subst (λ z. IsWith meaning h cpu z.0.main.stage x z) (sym e) record {
    at = stands_settled h cpu p q x.log run [] ((0, None) ∷ []) m w.at;
    added = record { begins = begins_self x.log; others = λ _ _. refl };
    hold_view = record { caller = w.pass_view.caller; valid = valid; replayed = is };
    ran = ran;
  }

  pub takes_now : (h : Cell O P C R) (p q : Stage) (done : List StepDone) (x : History O P C R) (run : List (TraceStep (Event O P C R))) (m m' : Seat O P C R) → Grows (caller_of h m.0).owned m.0.main.seen x.log → Extends (caller_of h m.0).owned m.0.main.run (silently m.0.main.cpu done) run → Lawful meaning h x.log → x ≡ stored meaning h x.log
      → m' ≡ (settled m.0 q x.log run, (0, None) ∷ []) → Takes meaning p q done (state_without h p m) (state_with h m'.0.main.stage x m')
  takes_now h p q done x run m m' grows extends valid is e = subst (λ z. Takes meaning p q done (state_without h p m) (state_with h z.0.main.stage x z)) (sym e) record {
    caller = refl;
    from = refl;
    to = refl;
    grows = grows;
    extends = extends;
    valid = valid;
    had = refl;
    has = ap Some is;
  }

  -- it gave the object back
  pub rests_now : (h : Cell O P C R) (cpu : ℕ) (p q : Stage) (step : StepDone) (x : History O P C R) (m m' : Seat O P C R) → IsWith meaning h cpu p x m → Left q step m.0 m' x [] → IsWithout meaning h cpu q m'
  rests_now h cpu p q step x m m' w t = subst (IsWithout meaning h cpu q) (sym t.seat) record {
    at = stands_settled h cpu p q x.log t.run ((0, None) ∷ []) [] m w.at;
    pass_view = record { caller = w.hold_view.caller; valid = w.hold_view.valid };
    ran = t.ran h w.at.reported;
  }

  pub gives_now : (h : Cell O P C R) (cpu : ℕ) (p q : Stage) (step : StepDone) (x : History O P C R) (m m' : Seat O P C R) → IsWith meaning h cpu p x m → Left q step m.0 m' x [] → Gives meaning p q step (state_with h p x m) (state_without h q m')
  gives_now h cpu p q step x m m' w t = subst (λ z. Gives meaning p q step (state_with h p x m) (state_without h q z)) (sym t.seat) record {
    caller = refl;
    from = refl;
    to = refl;
    valid = w.hold_view.valid;
    events = t.events;
    added = t.added;
    extends = t.extends;
    had = ap Some w.hold_view.replayed;
    has = refl;
  }

  -- a step gave the object to the slot of the seat, and it was taken out of there
  pub record Took (q : Stage) (done : List StepDone) (m m' : Seat O P C R) (x : History O P C R) : Type 0 where
    pub run : List (TraceStep (Event O P C R))
    pub seat : m' ≡ (settled m.0 q x.log run, (0, None) ∷ m.1)
    pub learns : Learns meaning m.0 (silently m.0.main.cpu done) x.log run
    pub replayed : (k : Cell O P C R) → m.0.reported ≡ k ∷ [] → x ≡ stored meaning k x.log

  pub took : (q : Stage) (done : List StepDone) (m m' m'' : Seat O P C R) (r : Option (History O P C R)) (y : History O P C R) → Gets meaning q done m m' → m'.1 ≡ (0, r) ∷ rest m'.1 → m'' ≡ (m'.0, (0, None) ∷ rest m'.1) → r ≡ Some y → Took q done m m'' y
  took q done m m' m'' r y g slot out is =
      let same : g.object ≡ y = ap (value_of g.object) (sym (ap (λ (z : Seat O P C R). z.1) g.seat) ∙ (slot ∙ ap (λ (z : Option (History O P C R)). (0, z) ∷ rest m'.1) is)) in
      let now : m'' ≡ (settled m.0 q g.object.log g.run, (0, None) ∷ m.1) = out ∙ (λ k. ((g.seat k).0, (0, None) ∷ rest (g.seat k).1)) in
      subst (Took q done m m'') same record { run = g.run; seat = now; learns = g.learns; replayed = g.replayed }

  -- so it is the caller's
  pub holds_from : (h : Cell O P C R) (cpu : ℕ) (p q : Stage) (done : List StepDone) (x : History O P C R) (m m' : Seat O P C R) → IsWithout meaning h cpu p m → Took q done m m' x → IsWith meaning h cpu m'.0.main.stage x m'
  holds_from h cpu p q done x m m' w t = holds_now h cpu p q x t.run m m' w (t.learns.valid h w.at.reported) (t.learns.ran h w.at.reported) (t.replayed h w.at.reported) (t.seat ∙ ap (λ cs. (settled m.0 q x.log t.run, (0, None) ∷ cs)) w.at.carries)

  pub takes_from : (h : Cell O P C R) (cpu : ℕ) (p q : Stage) (done : List StepDone) (x : History O P C R) (m m' : Seat O P C R) → IsWithout meaning h cpu p m → Took q done m m' x → Takes meaning p q done (state_without h p m) (state_with h m'.0.main.stage x m')
  takes_from h cpu p q done x m m' w t = takes_now h p q done x t.run m m' t.learns.grows t.learns.extends (t.learns.valid h w.at.reported) (t.replayed h w.at.reported) (t.seat ∙ ap (λ cs. (settled m.0 q x.log t.run, (0, None) ∷ cs)) w.at.carries)

  -- the object was put into the slot, and the step sent it home
  pub left : (q : Stage) (step : StepDone) (m m' m'' : Seat O P C R) (x : History O P C R) → m.1 ≡ (0, None) ∷ [] → m' ≡ (m.0, (0, Some x) ∷ rest m.1) → Returns q step m' m'' → Left q step m.0 m'' x []
  left q step m m' m'' x had filled reported = subst (λ (z : SeatView O P C R × List (ℕ × Option (History O P C R))). Left q step z.0 m'' x z.1) (λ k. ((filled k).0, rest (had k))) (reported x (rest m.1) (ap (λ (z : Seat O P C R). z.1) filled))

  -- who owns every number has a seat with each
  pub not_all : (h : Cell O P C R) (m : Seat O P C R) → m.0.reported ≡ h ∷ [] → Lacks m.0 → OwnsAll (caller_of h m.0) → ⊥
  not_all h m reported lacks all = lacks h record { reported = reported; each = λ x below. ap (λ b. b || any_has x m.0.others) (all.each x below) }

  -- nothing changed
  pub still_without : (h : Cell O P C R) (cpu : ℕ) (p : Stage) (m m' : Seat O P C R) → IsWithout meaning h cpu p m → m' ≡ m → Moves meaning p p [] (state_without h p m) (state_without h p m')
  still_without h cpu p m m' w e = subst (λ z. Moves meaning p p [] (state_without h p m) (state_without h p z)) (sym e) record {
    caller = refl;
    from = refl;
    to = refl;
    grows = grows_self (caller_of h m.0).owned m.0.main.seen;
    still = λ _. refl;
    extends = extends_self (caller_of h m.0).owned m.0.main.run;
    valid = w.pass_view.valid;
    has = refl;
  }

  -- a step that another CPU has made so
  pub lags_without : (h : Cell O P C R) (cpu : ℕ) (p q : Stage) (done : List StepDone) (m m' : Seat O P C R) → IsWithout meaning h cpu p m → Lags meaning q done m m' → NeedsAnother meaning (Moves meaning p q done) (state_without h p m) (state_without h q m')
  lags_without h cpu p q done m m' w g = record { made = moves_without h cpu p q done m m' w g.goes; another = not_all h m w.at.reported g.lacks }

  pub lags_with : (h : Cell O P C R) (cpu : ℕ) (p q : Stage) (done : List StepDone) (x : History O P C R) (m m' : Seat O P C R) → IsWith meaning h cpu p x m → Lags meaning q done m m' → NeedsAnother meaning (Moves meaning p q done) (state_with h p x m) (state_with h q x m')
  lags_with h cpu p q done x m m' w g = record { made = moves_with h cpu p q done x m m' w g.goes; another = not_all h m w.at.reported g.lacks }

  -- a caller that goes without the object, a step later, finds it busy
  pub busy_by : (p q r : Stage) (done more : List StepDone) (a b c : CallerState O P C R) → Moves meaning p q done a b → NeedsAnother meaning (Moves meaning q r more) b c → IsBusy {O = O} {P = P} {C = C} {R = R} record { caller = a.caller; seen = a.seen } record { caller = c.caller; seen = c.seen }
  busy_by p q r done more a b c m n = record {
    caller = n.made.caller ∙ m.caller;
    grows = grows_then a.caller.owned a.seen b.seen c.seen m.grows (subst (λ k. Grows k.owned b.seen c.seen) m.caller n.made.grows);
    another = λ all. n.another (subst OwnsAll (sym m.caller) all);
  }

module _ {O P C R : Type 0} (meaning : Ghosts O P C R) where
  -- a lawful log stays so with one event more of a CPU of the cell, if it is legal and within the limit
  pub valid_push : (h : Cell O P C R) (log : List (Event O P C R)) (e : Event O P C R) (x : History O P C R) → Lawful meaning h log → e.cpu < h.numbers → IsKept meaning x → x.params ≡ h.params → x.limit ≡ h.limit → x.log ≡ log ++ e ∷ [] → Lawful meaning h x.log
  valid_push h log e x valid below kept params limit is =
      let since = drop (length h.opening) log in
      let front : log ≡ h.opening ++ since = begins_rest h.opening log valid.begins in
      let whole : log ++ e ∷ [] ≡ h.opening ++ (since ++ e ∷ []) = ap (λ l. l ++ e ∷ []) front ∙ append_assoc h.opening since (e ∷ []) in
      record {
        begins = subst (Begins h.opening) (sym is) (begins_more h.opening log (e ∷ []) valid.begins);
        legal = subst (λ p. Legal meaning p x.log) params kept.legal;
        within = subst (λ n. length x.log ≤ n) limit kept.within;
        numbered = subst (λ l. AllByRecursion (λ (d : Event O P C R). d.cpu < h.numbers) (drop (length h.opening) l)) (sym (is ∙ whole))
            (subst (AllByRecursion (λ (d : Event O P C R). d.cpu < h.numbers)) (sym (drop-append_seam h.opening (since ++ e ∷ []))) (all_push (λ (d : Event O P C R). d.cpu < h.numbers) since e valid.numbered below));
      }

  pub added_push : (cpu : ℕ) (a b : List (Event O P C R)) (e : Event O P C R) → e.cpu ≡ cpu → AddedBy cpu a b → AddedBy cpu a (b ++ e ∷ [])
  added_push cpu a b e is added = record {
    begins = begins_more a b (e ∷ []) added.begins;
    others = λ x n. of_push x b e (λ q. n (q ∙ is)) ∙ added.others x n;
  }

  -- the holder did one event more, or none
  pub applied : {X : Type 0} (h : Cell O P C R) (cpu : ℕ) (p : Stage) (x y : History O P C R) (m : Seat O P C R) (r : Result (Steps O P C R) X) → IsWith meaning h cpu p x m → IsKept meaning y
      → IfOk r (λ s. y ≡ with_event x (record { cpu = cpu; steps = s }) (after meaning x.state s.list.items)) → OnErr r (y ≡ x) → IsWith meaning h cpu p y m
  applied h cpu p x y m (Err e) w kept next same = subst (λ z. IsWith meaning h cpu p z m) (sym same) w
  applied h cpu p x y m (Ok s) w kept next same =
      let e : Event O P C R = record { cpu = cpu; steps = s } in
      let longer : y.log ≡ x.log ++ e ∷ [] = ap (λ z. z.log) next in
      let params : y.params ≡ h.params = ap (λ z. z.params) next ∙ ap (λ z. z.params) w.hold_view.replayed in
      let limit : y.limit ≡ h.limit = ap (λ z. z.limit) next ∙ ap (λ z. z.limit) w.hold_view.replayed in
      let below : cpu < h.numbers = subst (λ k. k < h.numbers) w.at.number (w.hold_view.caller.below m.0.main.cpu w.hold_view.caller.acts) in
      record {
        at = w.at;
        added = subst (AddedBy m.0.main.cpu m.0.main.seen) (sym longer) (added_push m.0.main.cpu m.0.main.seen x.log e (sym w.at.number) w.added);
        hold_view = record {
          caller = w.hold_view.caller;
          valid = valid_push h x.log e y w.hold_view.valid below kept params limit longer;
          replayed = λ i. record { params = params i; limit = limit i; log = y.log; state = (kept.replayed ∙ ap (λ q. replay meaning q y.log) params) i };
        };
        ran = w.ran;
      }

  -- the same of one call
  pub applied_one : {X : Type 0} (h : Cell O P C R) (cpu : ℕ) (p : Stage) (x y : History O P C R) (m : Seat O P C R) (c : C) (r : Result R X) → IsWith meaning h cpu p x m → IsKept meaning y
      → IfOk r (λ v. y ≡ with_event x (record { cpu = cpu; steps = one_step c v }) (meaning.answer x.state c).0) → OnErr r (y ≡ x) → IsWith meaning h cpu p y m
  applied_one {X} h cpu p x y m c (Err e) w kept next same = applied {X = X} h cpu p x y m (Err e) w kept tt same
  applied_one {X} h cpu p x y m c (Ok v) w kept next same = applied {X = X} h cpu p x y m (Ok (one_step c v)) w kept next tt

-- two seats, joined, at a step of the first, and split again
module _ {O P C R : Type 0} where
  pub halves : (q : Stage) (log : List (Event O P C R)) (run : List (TraceStep (Event O P C R))) (slots : List (ℕ × Option (History O P C R))) (v w : SeatView O P C R) (m' first second : Seat O P C R) → v.others ≡ [] → w.others ≡ [] → w.reported ≡ v.reported
      → m' ≡ (settled (taken_in v w) q log run, slots) → first ≡ (keeping m'.0, m'.1) → second ≡ (letting m'.0, []) → (first ≡ (settled v q log run, slots)) × (second ≡ (settled w w.main.stage log run, []))
  halves q log run slots v w m' first second alone alone' reported e f s = (
    f ∙ ((λ i. (keeping (e i).0, (e i).1)) ∙ (λ i. (record { reported = v.reported; main = shown log run (at q v.main); others = map (shown log run) (sym alone i) }, slots))),
    s ∙ ((λ i. (letting (e i).0, [])) ∙ (λ i. (record { reported = sym reported i; main = shown log run w.main; others = map (shown log run) (sym alone' i) }, []))),
  )

has_both : (xs ys : List ℕ) (k : ℕ) → has k (xs ++ ys) ≡ (has k xs || has k ys)
has_both xs ys k = list_any-append (λ y. y == k) xs ys

module _ {O P C R : Type 0} (meaning : Ghosts O P C R) where
  -- one caller with the numbers of two
  pub both_callers : (h : Cell O P C R) (p q r : ℕ) (xs ys : List ℕ) → r ≡ min p q → IsCaller {O = O} {P = P} {C = C} {R = R} record { cell = h; owned = λ k. has k xs; acting = p } → IsCaller {O = O} {P = P} {C = C} {R = R} record { cell = h; owned = λ k. has k ys; acting = q }
      → IsCaller {O = O} {P = P} {C = C} {R = R} record { cell = h; owned = λ k. has k (xs ++ ys); acting = r }
  both_callers h p q r xs ys is one two = record {
    acts = dite (dec_le p q)
        (λ le. let e : r ≡ p = omega arith in subst (λ (z : ℕ). has z (xs ++ ys) ≡ true) (sym e) (has_both xs ys p ∙ or_left (has p xs) (has p ys) one.acts))
        (λ gt. let e : r ≡ q = omega arith in subst (λ (z : ℕ). has z (xs ++ ys) ≡ true) (sym e) (has_both xs ys q ∙ or_right (has q xs) (has q ys) two.acts));
    least = λ x hx. ⊎_elim {0, 0, 0} (λ a. let f = one.least x a in omega arith) (λ a. let f = two.least x a in omega arith) (has_append x xs ys hx);
    below = λ x hx. ⊎_elim {0, 0, 0} (one.below x) (two.below x) (has_append x xs ys hx);
  }

  -- the pass that two become
  pub joined : (h : Cell O P C R) (p q r : ℕ) (log : List (Event O P C R)) (run : List (TraceStep (Event O P C R))) (m w m' m'' : Seat O P C R) → r ≡ min p q → IsWithout meaning h p Idle m → IsWithout meaning h q Idle w → m' ≡ (taken_in m.0 w.0, []) → m'' ≡ (merged m'.0 log run, m'.1) → Lawful meaning h log → HasRun h log run
      → (m'' ≡ (merged (taken_in m.0 w.0) log run, [])) × IsWithout meaning h r Idle m''
  joined h p q r log run m w m' m'' is one two e e' valid ran =
      let now : m'' ≡ (merged (taken_in m.0 w.0) log run, []) = e' ∙ (λ i. (merged (e i).0 log run, (e i).1)) in
      let number : r ≡ min m.0.main.cpu w.0.main.cpu = is ∙ (λ i. min (sym one.at.number i) (sym two.at.number i)) in (
        now,
        subst (IsWithout meaning h r Idle) (sym now) record {
          at = record { alone = refl; number = sym number; carries = refl; stands = refl; reported = one.at.reported };
          pass_view = record { caller = both_callers h m.0.main.cpu w.0.main.cpu (min m.0.main.cpu w.0.main.cpu) m.0.main.owned w.0.main.owned refl one.pass_view.caller two.pass_view.caller; valid = valid };
          ran = ran;
        },
      )

  -- what two callers have seen now, beside what they had
  pub record BothSee (h : Cell O P C R) (m w : Seat O P C R) (done : List StepDone) (log : List (Event O P C R)) (run : List (TraceStep (Event O P C R))) : Type 0 where
    pub first_grows : Grows (λ y. has y m.0.main.owned) m.0.main.seen log
    pub second_grows : Grows (λ y. has y w.0.main.owned) w.0.main.seen log
    pub first_run : Extends (λ y. has y m.0.main.owned) m.0.main.run (silently m.0.main.cpu done) run
    pub second_run : Extends (λ y. has y w.0.main.owned) w.0.main.run [] run
    pub valid : Lawful meaning h log
    pub ran : HasRun h log run

  both_see : (h : Cell O P C R) (m w m1 : Seat O P C R) (done : List StepDone) (log : List (Event O P C R)) (run : List (TraceStep (Event O P C R))) → m.0.reported ≡ h ∷ [] → m1 ≡ (taken_in m.0 w.0, m.1) → Learns meaning m1.0 (silently m1.0.main.cpu done) log run → BothSee h m w done log run
  both_see h m w m1 done log run reported e learns =
      let l : Learns meaning (taken_in m.0 w.0) (silently m.0.main.cpu done) log run = subst (λ (z : Seat O P C R). Learns meaning z.0 (silently z.0.main.cpu done) log run) e learns in
      record { first_grows = l.grows; second_grows = l.others.0.0; first_run = l.extends; second_run = l.others.0.1; valid = l.valid h reported; ran = l.ran h reported }

  -- two passes that met
  pub record Met (h : Cell O P C R) (m w m' w' : Seat O P C R) (log : List (Event O P C R)) (run : List (TraceStep (Event O P C R))) : Type 0 where
    pub first : m' ≡ (settled m.0 Idle log run, [])
    pub second : w' ≡ (settled w.0 Idle log run, [])
    pub see : BothSee h m w [] log run

  pub met : (h : Cell O P C R) (p q : ℕ) (log : List (Event O P C R)) (run : List (TraceStep (Event O P C R))) (m w m1 m2 m' w' : Seat O P C R) → IsWithout meaning h p Idle m → IsWithout meaning h q Idle w → m1 ≡ (taken_in m.0 w.0, m.1) → m2 ≡ (settled m1.0 m1.0.main.stage log run, m1.1) → Learns meaning m1.0 [] log run
      → m' ≡ (keeping m2.0, m2.1) → w' ≡ (letting m2.0, []) → Met h m w m' w' log run
  met h p q log run m w m1 m2 m' w' one two e e' learns f s =
      let now : m2 ≡ (settled (taken_in m.0 w.0) Idle log run, []) = e' ∙ ((λ i. (settled (e i).0 (e i).0.main.stage log run, (e i).1)) ∙ (λ i. (settled (taken_in m.0 w.0) (one.at.stands i) log run, one.at.carries i))) in
      let both = halves Idle log run [] m.0 w.0 m2 m' w' one.at.alone two.at.alone (two.at.reported ∙ sym one.at.reported) now f s in
      record { first = both.0; second = both.1 ∙ (λ i. (settled w.0 (two.at.stands i) log run, [])); see = both_see h m w m1 [] log run one.at.reported e learns }

  -- a look by two callers together that took the object
  pub record TookLast (h : Cell O P C R) (q : Stage) (done : List StepDone) (x : History O P C R) (m w m' w' : Seat O P C R) : Type 0 where
    pub run : List (TraceStep (Event O P C R))
    pub first : m' ≡ (settled m.0 q x.log run, (0, None) ∷ [])
    pub second : w' ≡ (settled w.0 Idle x.log run, [])
    pub see : BothSee h m w done x.log run
    pub replayed : x ≡ stored meaning h x.log

  pub took_last : (h : Cell O P C R) (cpu other : ℕ) (p q : Stage) (done : List StepDone) (x : History O P C R) (m w m1 m2 m' w' : Seat O P C R) → IsWithout meaning h cpu p m → IsWithout meaning h other Idle w → m1 ≡ (taken_in m.0 w.0, m.1) → Took meaning q done m1 m2 x
      → m' ≡ (keeping m2.0, m2.1) → w' ≡ (letting m2.0, []) → TookLast h q done x m w m' w'
  took_last h cpu other p q done x m w m1 m2 m' w' one two e t f s =
      let run = t.run in
      let now : m2 ≡ (settled (taken_in m.0 w.0) q x.log run, (0, None) ∷ []) = t.seat ∙ ((λ i. (settled (e i).0 q x.log run, (0, None) ∷ (e i).1)) ∙ (λ i. (settled (taken_in m.0 w.0) q x.log run, (0, None) ∷ one.at.carries i))) in
      let both = halves q x.log run ((0, None) ∷ []) m.0 w.0 m2 m' w' one.at.alone two.at.alone (two.at.reported ∙ sym one.at.reported) now f s in
      record {
        run = run;
        first = both.0;
        second = both.1 ∙ (λ i. (settled w.0 (two.at.stands i) x.log run, []));
        see = both_see h m w m1 done x.log run one.at.reported e t.learns;
        replayed = t.replayed h (ap (λ (z : Seat O P C R). z.0.reported) e ∙ one.at.reported);
      }

  -- the same, from what the step gave and what was taken out of the slot
  pub last_taken : (h : Cell O P C R) (cpu other : ℕ) (p q : Stage) (done : List StepDone) (r : Option (History O P C R)) (x : History O P C R) (m w m1 m2 m3 m' w' : Seat O P C R) → IsWithout meaning h cpu p m → IsWithout meaning h other Idle w → m1 ≡ (taken_in m.0 w.0, m.1) → Gets meaning q done m1 m2
      → m2.1 ≡ (0, r) ∷ rest m2.1 → m3 ≡ (m2.0, (0, None) ∷ rest m2.1) → r ≡ Some x → m' ≡ (keeping m3.0, m3.1) → w' ≡ (letting m3.0, []) → TookLast h q done x m w m' w'
  last_taken h cpu other p q done r x m w m1 m2 m3 m' w' one two e got slot out is f s = took_last h cpu other p q done x m w m1 m3 m' w' one two e (took meaning q done m1 m2 m3 r x got slot out is) f s

  -- two callers that own every number together
  pub all_together : (h : Cell O P C R) (m w m1 : Seat O P C R) → m.0.reported ≡ h ∷ [] → m1 ≡ (taken_in m.0 w.0, m.1) → ((k : ℕ) → k < h.numbers → (has k m.0.main.owned || has k w.0.main.owned) ≡ true) → HasAll m1.0 h
  all_together h m w m1 reported e all = subst (λ (z : Seat O P C R). HasAll z.0 h) (sym e) record {
    reported = reported;
    each = λ x below. ap (λ b. has x m.0.main.owned || b) (or_none (has x w.0.main.owned)) ∙ all x below;
  }

  -- the log of the object that a step gave
  pub takes_log : (p q : Stage) (done : List StepDone) (x : History O P C R) (before after : CallerState O P C R) → Takes meaning p q done before after → after.has ≡ Some x → Grows before.caller.owned before.seen x.log
  takes_log p q done x before after t is =
      let same : x ≡ stored meaning before.caller.cell after.seen = cc (is, t.has) in
      subst (Grows before.caller.owned before.seen) (sym (ap (λ z. z.log) same)) t.grows
