-- Of two calls in real time, the first one's event precedes the other's in the log.
use Rattle.std.proofs.Common.{◌≡◌, ◌<◌, List, [], ◌∷◌, ◌++◌, length, drop, sym, ◌∙◌, ap, subst, arith, append_assoc, Result, Ok, Err, IfOk}
use Rattle.event_log.specs.{declared.object.SeqObject.Ghosts, declared.event.Event.Event, declared.event.Steps.Steps, declared.logged.NoRoom.NoRoom, Log.{Begins, one_step}}
use Rattle.event_log.proofs.Beginnings.{begins_rest, begins_self}
use Rattle.word_rule.specs.{Cell.{Caller, PassView}, Answered.IsAnswered}
use Rattle.guarded_cell.proofs.Workers.{longer}
use Rattle.guarded_cell.specs.RealTime.{Precedes, ReturnedBefore, event_of}

-- a list that ends with x, and begins with a shorter one, has x at the end of the rest
last_of : {E : Type 0} (a more front : List E) (x : E) → a ++ more ≡ front ++ x ∷ [] → length a < length (front ++ x ∷ [])
    → (rest : List E) × (more ≡ rest ++ x ∷ [])
last_of [] more front x e lt = (front, e)
last_of (y ∷ a) more [] x e lt = absurd (omega (arith, lt))
last_of (y ∷ a) more (z ∷ front) x e lt =
    let tail : a ++ more ≡ front ++ x ∷ [] = cc in
    last_of a more front x tail (omega (arith, lt))

module _ {O P C R : Type 0} (meaning : Ghosts O P C R) where
  -- the first caller's event precedes the second one's
  pub came_before : (first first_after : PassView O P C R) (firsts : List C) (a : Steps O P C R) (second second_after : PassView O P C R)
      (seconds : List C) (b : Steps O P C R) (log : List (Event O P C R))
      → ReturnedBefore meaning first first_after firsts a second second_after seconds b log
      → Precedes (event_of first a) (event_of second b) log
  came_before first first_after firsts a second second_after seconds b log h =
      let x : Event O P C R = event_of first a in
      let y : Event O P C R = event_of second b in
      let more : List (Event O P C R) = drop (length second.seen) second_after.seen in
      let between : List (Event O P C R) = drop (length first_after.seen) second.seen in
      let rest : List (Event O P C R) = drop (length second_after.seen) log in
      let one : second_after.seen ≡ second.seen ++ more = begins_rest second.seen second_after.seen h.then.begins in
      let ends : second_after.seen ≡ h.then.front ++ y ∷ [] = h.then.last in
      let l = last_of second.seen more h.then.front y (sym one ∙ ends)
      (subst (λ n. length second.seen < n) (ap length ends) (longer meaning second second_after seconds b h.then)) in
      let two : second.seen ≡ first_after.seen ++ between = begins_rest first_after.seen second.seen h.told in
      let three : first_after.seen ≡ h.answered.front ++ x ∷ [] = h.answered.last in
      let four : log ≡ second_after.seen ++ rest = begins_rest second_after.seen log h.further in
      record {
        front = h.answered.front;
        middle = between ++ l.0;
        rest = rest;
        is = four ∙ (ap (λ z. z ++ rest)
            (one ∙ (ap (λ z. second.seen ++ z) l.1 ∙ ap (λ z. z ++ (l.0 ++ y ∷ [])) (two ∙ ap (λ z. z ++ between) three)))
            ∙ spread h.answered.front x between l.0 y rest);
      }
    where
      spread : {E : Type 0} (f : List E) (x : E) (m n : List E) (y : E) (r : List E)
          → (((f ++ x ∷ []) ++ m) ++ (n ++ y ∷ [])) ++ r ≡ f ++ x ∷ ((m ++ n) ++ y ∷ r)
      spread f x m n y r = grind (arith, append_assoc)

  -- the same of one call of each, where the second caller met the first in between
  pub calls_in_turn : (first first_after original second second_after : PassView O P C R) (c d : C) (r s : Result R NoRoom)
      → IfOk r (λ v. IsAnswered meaning first (c ∷ []) (one_step c v) first_after) → Begins first_after.seen second.seen
      → second.caller ≡ original.caller
      → IfOk s (λ v. IsAnswered meaning second (d ∷ []) (one_step d v) second_after)
      → IfOk r (λ v. IfOk s (λ w. Precedes (event_of first (one_step c v)) (event_of original (one_step d w)) second_after.seen))
  calls_in_turn first first_after original second second_after c d (Ok v) (Ok w) answered told same then =
      subst (λ (z : Caller O P C R). Precedes (event_of first (one_step c v))
      (record { cpu = z.acting; steps = one_step d w }) second_after.seen) same
      (came_before first first_after (c ∷ []) (one_step c v) second second_after (d ∷ []) (one_step d w) second_after.seen
      (record { answered = answered; told = told; then = then; further = begins_self second_after.seen }))
  calls_in_turn first first_after original second second_after c d (Ok v) (Err e) answered told same then = tt
  calls_in_turn first first_after original second second_after c d (Err e) s answered told same then = tt
