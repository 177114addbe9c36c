-- The answer of a whole call on a cell.
use Rattle.std.specs.Prelude.{◌≡◌, ◌≢◌, ℕ, true, List, [], ◌∷◌, ◌++◌, length, map}
use Rattle.arrayvec.specs.ArrayVec.{ArrayVec}
use Rattle.event_log.specs.{declared.object.SeqObject.Ghosts, declared.event.Steps.Steps, declared.event.Event.Event, Log.{Begins, Fulfils, of}}
use Rattle.word_rule.specs.Cell.{PassView, Lawful, Grows, OwnsAll}

-- the caller didn't get the object, and did nothing. A caller that owns every number is never answered so
pub record IsBusy {O P C R : Type 0} (before after : PassView O P C R) : Type 0 where
  pub caller : after.caller ≡ before.caller
  pub grows : Grows before.caller.owned before.seen after.seen
  pub another : OwnsAll before.caller → ⊥

-- the events of that CPU with these steps, in order
abbrev pub events_by : {O P C R : Type 0} → ℕ → List (Steps O P C R) → List (Event O P C R)
events_by cpu done = map (λ s. record { cpu = cpu; steps = s }) done

module _ {O P C R : Type 0} (meaning : Ghosts O P C R) where
  -- the calls were answered at the end of a lawful log that begins with all that the caller had seen
  pub record IsAnswered (before : PassView O P C R) (asked : List C) (steps : Steps O P C R) (after : PassView O P C R) : Type 0 where
    pub caller : after.caller ≡ before.caller
    pub valid : Lawful meaning before.caller.cell after.seen
    pub begins : Begins before.seen after.seen
    pub front : List (Event O P C R)
    pub last : after.seen ≡ front ++ events_by before.caller.acting (steps ∷ [])
    pub mine : of before.caller.acting after.seen ≡ of before.caller.acting before.seen ++ events_by before.caller.acting (steps ∷ [])
    pub others : (k : ℕ) → before.caller.owned k ≡ true → k ≢ before.caller.acting → of k after.seen ≡ of k before.seen
    pub fulfils : Fulfils meaning asked steps.list.items

  -- a full log was seen
  pub record IsRefused (before after : PassView O P C R) : Type 0 where
    pub caller : after.caller ≡ before.caller
    pub valid : Lawful meaning before.caller.cell after.seen
    pub grows : Grows before.caller.owned before.seen after.seen
    pub full : length after.seen ≡ before.caller.cell.limit

  -- the steps answer the first groups, one by one
  abbrev pub FulfilFirst : List (ArrayVec C) → List (Steps O P C R) → Type 0
  FulfilFirst groups [] = Unit {0}
  FulfilFirst [] (s ∷ done) = ⊥
  FulfilFirst (g ∷ groups) (s ∷ done) = Fulfils meaning g.items s.list.items × FulfilFirst groups done

  -- the groups that were done stand together at the end of a lawful log that begins with all that the caller had seen
  pub record IsHeldThrough (before : PassView O P C R) (groups : List (ArrayVec C)) (done : List (Steps O P C R)) (after : PassView O P C R) : Type 0 where
    pub caller : after.caller ≡ before.caller
    pub found : List (Event O P C R)
    pub found_valid : Lawful meaning before.caller.cell found
    pub grows : Grows before.caller.owned before.seen found
    pub added : after.seen ≡ found ++ events_by before.caller.acting done
    pub valid : Lawful meaning before.caller.cell after.seen
    pub fulfils : FulfilFirst groups done
