-- What many callers leave who do their scripts on new cells and join.
use Rattle.std.specs.{Prelude.{◌≡◌, ℕ, true, List, [], map, length, slice_get, Some}, List.AllByRecursion}
use Rattle.event_log.specs.{declared.object.SeqObject.Ghosts, declared.entry.Entry.Entry, declared.entry.Todo.Todo, declared.entry.Run.Run}
use Rattle.word_rule.specs.{Cell.{Cell, PassView, Grows, IsPassView, opening_pass}, Machine.SoundWorld.IsTodo}
use Rattle.guarded_cell.specs.Workers.{HasDone}

module _ {O P C R : Type 0} where
  -- the second caller is of the same cell, owns all numbers of the first, and has seen what it has
  pub record Joins (before after : PassView O P C R) : Type 0 where
    pub cell : after.caller.cell ≡ before.caller.cell
    pub owned : (k : ℕ) → before.caller.owned k ≡ true → after.caller.owned k ≡ true
    pub grows : Grows before.caller.owned before.seen after.seen

  -- each second caller has joined the first at its place
  abbrev pub EachJoins : List (PassView O P C R) → List (PassView O P C R) → Type 0
  EachJoins before after = (x : ℕ) (a b : PassView O P C R) → slice_get before x ≡ Some a → slice_get after x ≡ Some b → Joins a b

  -- the logs that the last passes have seen, and the transcripts
  abbrev pub run_left : List (PassView O P C R) → List (List (Entry O P C R)) → Run O P C R
  run_left joined transcripts = record { logs = map (λ j. j.seen) joined; transcripts = transcripts }

module _ {O P C R : Type 0} (meaning : Ghosts O P C R) (cells : List (Cell O P C R)) (joined : List (PassView O P C R)) where
  -- CPU k did its script on the new cells, and its passes were joined to the last ones
  pub record Worked (k : ℕ) (todos : List (Todo O P C R)) (entries : List (Entry O P C R)) : Type 0 where
    pub after : List (PassView O P C R)
    pub able : AllByRecursion (λ t. IsTodo (length cells) t) todos
    pub done : HasDone meaning (map (λ c. opening_pass c k) cells) todos entries after
    pub joins : EachJoins after joined

  -- each of n CPUs worked so, on cells of n CPUs that were new, and the last passes are of these cells
  pub record AllWorked (n : ℕ) (scripts : List (List (Todo O P C R))) (transcripts : List (List (Entry O P C R))) : Type 0 where
    pub cpus : length transcripts ≡ n
    pub long : length scripts ≡ n
    pub objects : length joined ≡ length cells
    pub empty : (x : ℕ) (c : Cell O P C R) → slice_get cells x ≡ Some c → c.opening ≡ []
    pub numbers : (x : ℕ) (c : Cell O P C R) → slice_get cells x ≡ Some c → c.numbers ≡ n
    pub views : (x : ℕ) (j : PassView O P C R) → slice_get joined x ≡ Some j → IsPassView meaning j
    pub of_cells : (x : ℕ) (c : Cell O P C R) (j : PassView O P C R) → slice_get cells x ≡ Some c → slice_get joined x ≡ Some j → j.caller.cell ≡ c
    pub each : (k : ℕ) (todos : List (Todo O P C R)) (entries : List (Entry O P C R)) → slice_get scripts k ≡ Some todos → slice_get transcripts k ≡ Some entries → Worked k todos entries

module _ {O P C R : Type 0} (meaning : Ghosts O P C R) where
  -- that holds of the cells, the last passes, the scripts and the transcripts, whenever each CPU worked so
  abbrev pub WheneverWorked : (List (Cell O P C R) → List (PassView O P C R) → List (List (Todo O P C R)) → List (List (Entry O P C R)) → Type 0) → Type 0
  WheneverWorked That = (cells : List (Cell O P C R)) (joined : List (PassView O P C R)) (n : ℕ) (scripts : List (List (Todo O P C R))) (transcripts : List (List (Entry O P C R)))
      → AllWorked meaning cells joined n scripts transcripts → That cells joined scripts transcripts
