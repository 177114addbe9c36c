-- The steps of one hold: those by which a CPU gets the object, and those by which it gives it back.
use Rattle.std.specs.{Prelude.{◌≡◌, ℕ, ◌-◌, ◌^◌, ◌≤◌, min, Bool, true, false, List, [], ◌∷◌, ◌++◌, map, length}, List.filter}
use Rattle.event_log.specs.{declared.event.Event.Event, Log.Begins}
use Rattle.word_rule.specs.{declared.machine.step_done.StepDone.StepDone, declared.view.TraceStep.TraceStep, Cell.{Caller, HoldView}, LockRuns.{Extends, ExtendsUntil, HasRun, events_in}, StepKinds.{arrives, ends_hold, is_look}}
use Rattle.word_rule.specs.declared.machine.step_done.StepDone.TheVariants as steps

-- the steps by which a CPU gets the object
abbrev pub gets_object : StepDone → Bool
gets_object (steps.Look got) = got
gets_object (steps.Enter got) = got
gets_object _ = false

-- how many of the steps pass the test
abbrev pub how_many : (StepDone → Bool) → List StepDone → ℕ
how_many test done = length (filter test done)

-- a CPU gets the object by these steps: it arrives once, the last step gets the object and no other does, and no hold ends
pub record Acquires (done : List StepDone) : Type 0 where
  pub before : List StepDone
  pub last : StepDone
  pub is : done ≡ before ++ last ∷ []
  pub got : gets_object last ≡ true
  pub once : how_many gets_object done ≡ 1
  pub arrived : how_many arrives done ≡ 1
  pub unended : how_many ends_hold done ≡ 0

-- a CPU gives the object back by these steps: the last ends the hold and no other does, and it doesn't arrive or look
pub record Releases (before : List StepDone) (last : StepDone) : Type 0 where
  pub ended : ends_hold last ≡ true
  pub unended : how_many ends_hold before ≡ 0
  pub stays : how_many arrives (before ++ last ∷ []) ≡ 0
  pub blind : how_many is_look (before ++ last ∷ []) ≡ 0

-- so many looks, counted to 2^64 - 1
abbrev pub looks_in : List StepDone → ℕ
looks_in done = min (how_many is_look done) (2 ^ 64 - 1)

module _ {E : Type 0} where
  -- the CPU did this step, and left these events
  abbrev pub leaving : ℕ → StepDone → List E → TraceStep E
  leaving cpu s events = record { cpu = cpu; step = s; events = events }

  -- the CPU did these steps, and left no event
  abbrev pub silently : ℕ → List StepDone → List (TraceStep E)
  silently cpu done = map (λ s. leaving cpu s []) done

module _ {O P C R : Type 0} where
  -- the holder has seen this run, and its log begins with the log that the run left
  pub record IsUnderHold (hold : HoldView O P C R) (run : List (TraceStep (Event O P C R))) : Type 0 where
    pub log : List (Event O P C R)
    pub ran : HasRun hold.caller.cell log run
    pub added : Begins log hold.history.log

  -- the caller has got the object, with so many looks, and has done nothing else; the log that it found is what the run left
  pub record HasAcquired (caller : Caller O P C R) (before : List (TraceStep (Event O P C R))) (looks : ℕ) (found : List (Event O P C R)) (after : List (TraceStep (Event O P C R))) : Type 0 where
    pub done : List StepDone
    pub acquires : Acquires done
    pub looked : looks ≡ looks_in done
    pub left : found ≡ caller.cell.opening ++ events_in after
    pub extends : Extends caller.owned before (silently caller.acting done) after

  -- the holder has given the object back, which left what it had added to the log, and has done nothing else; its last step is
  -- the last that it has seen
  pub record HasReleased (hold : HoldView O P C R) (before after : List (TraceStep (Event O P C R))) : Type 0 where
    pub done : List StepDone
    pub last : StepDone
    pub releases : Releases done last
    pub events : List (Event O P C R)
    pub added : hold.history.log ≡ (hold.caller.cell.opening ++ events_in before) ++ events
    pub extends : ExtendsUntil hold.caller.owned before (silently hold.caller.acting done) (leaving hold.caller.acting last events) after

  -- the caller has had the object once, with so many looks, has left these events, and has done nothing else; its last step is
  -- the last that it has seen
  pub record HasHeld (caller : Caller O P C R) (before : List (TraceStep (Event O P C R))) (looks : ℕ) (events : List (Event O P C R)) (after : List (TraceStep (Event O P C R))) : Type 0 where
    pub got : List StepDone
    pub acquires : Acquires got
    pub looked : looks ≡ looks_in got
    pub done : List StepDone
    pub last : StepDone
    pub releases : Releases done last
    pub extends : ExtendsUntil caller.owned before (silently caller.acting (got ++ done)) (leaving caller.acting last events) after

  -- the caller has got the object with at most one look, and has done nothing else
  abbrev pub HasAcquiredAtOnce : Caller O P C R → List (TraceStep (Event O P C R)) → List (Event O P C R) → List (TraceStep (Event O P C R)) → Type 0
  HasAcquiredAtOnce caller before found after = (looks : ℕ) × (looks ≤ 1) × HasAcquired caller before looks found after

  -- the caller has had the object once, with at most one look, has left these events, and has done nothing else
  abbrev pub HasHeldAtOnce : Caller O P C R → List (TraceStep (Event O P C R)) → List (Event O P C R) → List (TraceStep (Event O P C R)) → Type 0
  HasHeldAtOnce caller before events after = (looks : ℕ) × (looks ≤ 1) × HasHeld caller before looks events after
