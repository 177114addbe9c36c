-- A caller that has held for lists of calls: once more, and what others do afterwards.
use Rattle.std.proofs.Common.{◌≡◌, ℕ, List, [], ◌∷◌, ◌++◌, length, refl, ap, sym, ◌∙◌, append-nil, inr}
use Rattle.event_log.specs.{declared.object.SeqObject.Ghosts, declared.event.Event.Event}
use Rattle.word_rule.specs.{declared.view.TraceStep.TraceStep, Cell.Caller, Holds.{Leaves, HasHeldEach}, LockRuns.{Extends, events_in}, OneHold.{leaving, silently, HasHeld}}
use Rattle.word_rule.proofs.RunLists.{events_append, extends_self, extends_before, extends_after}

module _ {O P C R : Type 0} where
  -- the caller has done nothing before, and then this hold
  abbrev held_behind : (caller : Caller O P C R) (before mid after : List (TraceStep (Event O P C R))) (looks : ℕ) (events : List (Event O P C R)) → Extends caller.owned before [] mid → HasHeld caller mid looks events after → HasHeld caller before looks events after
  held_behind caller before mid after looks events e h = record {
    got = h.got;
    acquires = h.acquires;
    looked = h.looked;
    done = h.done;
    last = h.last;
    releases = h.releases;
    extends = record { before = h.extends.before; extends = extends_after caller.owned before mid (silently caller.acting (h.got ++ h.done)) h.extends.before e h.extends.extends; is = h.extends.is };
  }

module _ {O P C R : Type 0} (meaning : Ghosts O P C R) where
  -- one hold more
  pub one_held : (caller : Caller O P C R) (before : List (TraceStep (Event O P C R))) (groups : List (List C)) (mid after : List (TraceStep (Event O P C R))) (looks : ℕ) (calls : List C) (events : List (Event O P C R)) → HasHeldEach meaning caller before groups mid
      → (h : HasHeld caller mid looks events after) → Leaves meaning caller.cell.limit (caller.cell.opening ++ events_in h.extends.before) calls events → HasHeldEach meaning caller before (groups ++ calls ∷ []) after
  one_held caller before [] mid after looks calls events e h leaves = (looks, after, events, held_behind caller before mid after looks events e h, leaves, extends_self caller.owned after)
  one_held caller before (g ∷ groups) mid after looks calls events t h leaves = (t.0, t.1, t.2, t.3, t.4, one_held caller t.1 groups mid after looks calls events t.5 h leaves)

  -- what others do afterwards changes nothing
  pub still_held : (caller : Caller O P C R) (before : List (TraceStep (Event O P C R))) (groups : List (List C)) (mid after : List (TraceStep (Event O P C R))) → HasHeldEach meaning caller before groups mid → Extends caller.owned mid [] after → HasHeldEach meaning caller before groups after
  still_held caller before [] mid after t e = extends_before caller.owned before [] mid after t e
  still_held caller before (g ∷ groups) mid after t e = (t.0, t.1, t.2, t.3, t.4, still_held caller t.1 groups mid after t.5 e)

  -- a hold that left nothing, in the full log that the caller saw then
  pub leaves_none : (caller : Caller O P C R) (seen : List (Event O P C R)) (before after : List (TraceStep (Event O P C R))) (looks : ℕ) (calls : List C) → (h : HasHeld caller before looks [] after) → seen ≡ caller.cell.opening ++ events_in after → length seen ≡ caller.cell.limit
      → Leaves meaning caller.cell.limit (caller.cell.opening ++ events_in h.extends.before) calls []
  leaves_none caller seen before after looks calls h is full =
      let front : List (TraceStep (Event O P C R)) = h.extends.before in
      let same : events_in after ≡ events_in front = ap events_in h.extends.is ∙ (events_append front (leaving caller.acting h.last [] ∷ []) ∙ append-nil (events_in front)) in
      inr (refl, ap length (ap (λ l. caller.cell.opening ++ l) (sym same) ∙ sym is) ∙ full)
