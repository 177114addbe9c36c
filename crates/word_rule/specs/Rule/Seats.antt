-- What a step, a join or a split makes of a seat.
use Rattle.std.specs.Prelude.{ℕ, zero, suc, ◌+◌, List, [], ◌∷◌, ◌++◌, map, min, Option, Some, None}
use Rattle.atomic_table.specs.Table.{Me}
use Rattle.event_log.specs.History.{History}
use Rattle.word_rule.specs.{declared.lock_kind.Stage.Stage, declared.lock_kind.Stage.TheVariants.Idle, declared.view.TraceStep.TraceStep, declared.view.CallerView.CallerView, declared.view.View.View, Cell.Cell, Rule.CellInvariant.SeatView}

-- a seat, with the slots that are out with it
abbrev pub Seat : Type 0 → Type 0 → Type 0 → Type 0 → Type 0
Seat O P C R = Me (Option (History O P C R)) (SeatView O P C R)

module _ {E : Type 0} where
  -- the caller has seen this log and this run, and has read no word since
  abbrev pub shown : List E → List (TraceStep E) → CallerView E → CallerView E
  shown log run c = record { cpu = c.cpu; owned = c.owned; stage = c.stage; seen = log; run = run; read = None }

  -- the caller stands there, and has read no word since
  abbrev pub at : Stage → CallerView E → CallerView E
  at p c = record { cpu = c.cpu; owned = c.owned; stage = p; seen = c.seen; run = c.run; read = None }

  -- the caller has read this word
  abbrev pub reading : ℕ → CallerView E → CallerView E
  reading w c = record { cpu = c.cpu; owned = c.owned; stage = c.stage; seen = c.seen; run = c.run; read = Some w }

  -- an idle caller
  abbrev pub idle : ℕ → List ℕ → List E → List (TraceStep E) → CallerView E
  idle cpu owned seen run = record { cpu = cpu; owned = owned; stage = Idle; seen = seen; run = run; read = None }

  -- n idle callers with the numbers from k on, before the first step
  abbrev pub idle_from : ℕ → ℕ → List E → List (CallerView E)
  idle_from k zero seen = []
  idle_from k (suc n) seen = idle k (k ∷ []) seen [] ∷ idle_from (k + 1) n seen

  abbrev pub behind_first : List (CallerView E) → List (CallerView E)
  behind_first [] = []
  behind_first (c ∷ cs) = cs

  -- the first caller, or one without a number
  abbrev pub first_or_none : List (CallerView E) → CallerView E
  first_or_none [] = idle 0 [] [] []
  first_or_none (c ∷ cs) = c

module _ {H E : Type 0} where
  -- the first caller has read this word
  abbrev pub noted : View H E → ℕ → View H E
  noted v w = record { reported = v.reported; main = reading w v.main; others = v.others }

  -- the first caller has seen this log and this run, and stands there
  abbrev pub moved_on : View H E → Stage → List E → List (TraceStep E) → View H E
  moved_on v p log run = record { reported = v.reported; main = shown log run (at p v.main); others = v.others }

  -- each caller of the seat has seen this log and this run, and the first stands there
  abbrev pub settled : View H E → Stage → List E → List (TraceStep E) → View H E
  settled v p log run = record { reported = v.reported; main = shown log run (at p v.main); others = map (shown log run) v.others }

  -- the seat takes in the caller of another
  abbrev pub taken_in : View H E → View H E → View H E
  taken_in v w = record { reported = v.reported; main = v.main; others = w.main ∷ [] }

  -- what a seat that was taken in is left with
  abbrev pub spent : View H E
  spent = record { reported = []; main = idle 0 [] [] []; others = [] }

  -- the seat without the first of the callers that it has taken in
  abbrev pub keeping : View H E → View H E
  keeping v = record { reported = v.reported; main = v.main; others = behind_first v.others }

  -- that caller alone
  abbrev pub letting : View H E → View H E
  letting v = record { reported = v.reported; main = first_or_none v.others; others = [] }

  -- the first two callers are one, which has seen this log and this run
  abbrev pub merged : View H E → List E → List (TraceStep E) → View H E
  merged v log run = let c = first_or_none v.others in record { reported = v.reported; main = idle (min v.main.cpu c.cpu) (v.main.owned ++ c.owned) log run; others = [] }

-- the first seat of a cell: it has a caller for each CPU
abbrev pub first_view : {O P C R : Type 0} → Cell O P C R → SeatView O P C R
first_view h = record { reported = h ∷ []; main = idle 0 [] [] []; others = idle_from 0 h.numbers h.opening }
