-- What a caller knows of itself and of another that a word named, whichever lock its cell has.
use Rattle.std.proofs.Common.{◌≡◌, ℕ, ◌<◌, true, true≢false, List, [], ◌∷◌, sym, ap, ◌∙◌, subst, arith, Option, Some, None}
use Rattle.atomic_table.specs.Table.{rest}
use Rattle.event_log.specs.{declared.object.SeqObject.Ghosts, declared.event.Event.Event, History.History}
use Rattle.word_rule.specs.{declared.machine.step_done.StepDone.StepDone, declared.lock_kind.Stage.Stage, Cell.{Cell, Grows, OwnsAll}, CallerState.{CallerState, IsOther}, Locks.holding, OneHold.silently, Rule.Announced.{Goes, IsElse, Lacks, Lags, Learns}, Rule.Callers.{IsWith, IsWithout, caller_of}, Rule.Seats.{Seat, moved_on}}
use Rattle.word_rule.proofs.{Known.value_of, Lists.grows_then}

module _ {O P C R : Type 0} where
  -- who owns every number owns the one that a word named
  pub not_else : (h : Cell O P C R) (m : Seat O P C R) (j : ℕ) → m.0.reported ≡ h ∷ [] → IsElse m.0 j → OwnsAll (caller_of h m.0) → ⊥
  not_else h m j reported other all = true≢false (sym (all.each j (other.inside h reported)) ∙ other.other)

  -- that is a CPU of the cell which isn't the caller's
  pub is_other : (h : Cell O P C R) (m : Seat O P C R) (j : ℕ) → m.0.reported ≡ h ∷ [] → IsElse m.0 j → IsOther (caller_of h m.0) j
  is_other h m j reported other = record { other = other.other; inside = other.inside h reported }

  pub else_below : (h : Cell O P C R) (n j : ℕ) (m : Seat O P C R) → h.numbers ≡ n → m.0.reported ≡ h ∷ [] → IsElse m.0 j → j < n
  else_below h n j m is reported other = let below = other.inside h reported in omega arith

  pub else_now : (meaning : Ghosts O P C R) (q : Stage) (done : List StepDone) (m m' : Seat O P C R) (j : ℕ) → Goes meaning q done m m' → IsElse m.0 j → IsElse m'.0 j
  else_now meaning q done m m' j g other = subst (λ (z : Seat O P C R). IsElse z.0 j) (sym g.seat) record { other = other.other; inside = other.inside }

  -- what a caller has seen grows step by step
  pub grows_on : (before after : CallerState O P C R) (log : List (Event O P C R)) → after.caller ≡ before.caller → Grows before.caller.owned before.seen after.seen → Grows after.caller.owned after.seen log → Grows before.caller.owned before.seen log
  grows_on before after log same one two = grows_then before.caller.owned before.seen after.seen log one (subst (λ k. Grows k.owned after.seen log) same two)

module _ {O P C R : Type 0} (meaning : Ghosts O P C R) where
  -- a caller acts as a number of the cell
  pub below_without : (h : Cell O P C R) (n cpu : ℕ) (p : Stage) (m : Seat O P C R) → h.numbers ≡ n → IsWithout meaning h cpu p m → cpu < n
  below_without h n cpu p m is w = let below = w.pass_view.caller.below m.0.main.cpu w.pass_view.caller.acts in let number = w.at.number in omega arith

  pub below_with : (h : Cell O P C R) (n cpu : ℕ) (p : Stage) (x : History O P C R) (m : Seat O P C R) → h.numbers ≡ n → IsWith meaning h cpu p x m → cpu < n
  below_with h n cpu p x m is w = let below = w.hold_view.caller.below m.0.main.cpu w.hold_view.caller.acts in let number = w.at.number in omega arith

  -- the object was put into the slot, the step left it there, and it was taken out again
  pub came_back : (q : Stage) (done : List StepDone) (m m1 m2 m3 : Seat O P C R) (x y : History O P C R) (r : Option (History O P C R)) → m.1 ≡ (0, None) ∷ [] → m1 ≡ (m.0, (0, Some x) ∷ rest m.1) → Lags meaning q done m1 m2
      → m2.1 ≡ (0, r) ∷ rest m2.1 → m3 ≡ (m2.0, (0, None) ∷ rest m2.1) → r ≡ Some y → Lags meaning q done m m3 × (x ≡ y)
  came_back q done m m1 m2 m3 x y r had filled went slot out is =
      let g = went.goes in
      let there : m2 ≡ (moved_on m.0 q g.log g.run, (0, Some x) ∷ []) = g.seat ∙ ((λ i. (moved_on (filled i).0 q g.log g.run, (filled i).1)) ∙ (λ i. (moved_on m.0 q g.log g.run, (0, Some x) ∷ rest (had i)))) in (
        record {
          goes = record {
            log = g.log;
            run = g.run;
            seat = out ∙ ((λ i. ((there i).0, (0, None) ∷ rest (there i).1)) ∙ (λ i. (moved_on m.0 q g.log g.run, sym had i)));
            learns = subst (λ (z : Seat O P C R). Learns meaning z.0 (silently z.0.main.cpu done) g.log g.run) filled g.learns;
            still = subst (λ (z : Seat O P C R). holding z.0.main.stage ≡ true → g.log ≡ z.0.main.seen) filled g.still;
          };
          lacks = subst (λ (z : Seat O P C R). Lacks z.0) filled went.lacks;
        },
        ap (value_of x) (sym (ap (λ (z : Seat O P C R). z.1) there) ∙ (slot ∙ ap (λ (z : Option (History O P C R)). (0, z) ∷ rest m2.1) is)),
      )
