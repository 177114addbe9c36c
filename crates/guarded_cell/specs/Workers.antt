-- What a caller with a pass of each of many cells makes of a script.
use Rattle.std.specs.{Prelude.{◌≡◌, ◌≢◌, ℕ, ◌<◌, ◌^◌, ◌++◌, List, map, length, slice_get, Some}, List.AllByRecursion}
use Rattle.arrayvec.specs.ArrayVec.{ArrayVec}
use Rattle.event_log.specs.{declared.object.SeqObject.Ghosts, declared.entry.Done.Done, declared.entry.Done.TheVariants.{Steps, NoRoom}, declared.entry.Entry.Entry, declared.entry.Todo.Todo, Entries.asked_of, Log.of}
use Rattle.word_rule.specs.{Cell.{Cell, PassView}, Answered.{IsAnswered, IsRefused, events_by}}
use Rattle.sound_run.specs.Sound.{Opened, Answers, NoneAfterFull, done_on}

-- each cell has a pass at its place
pub record ArePasses {T S : Type 0} (is_pass_of : T → S → Type 0) (cells : List T) (passes : List S) : Type 0 where
  pub count : length passes ≡ length cells
  pub each : (x : ℕ) (c : T) (p : S) → slice_get cells x ≡ Some c → slice_get passes x ≡ Some p → is_pass_of c p

module _ {O P C R : Type 0} where
  -- what the log of a cell is judged by
  abbrev pub opened_of_cell : Cell O P C R → Opened P
  opened_of_cell c = record { params = c.params; limit = c.limit }

module _ {O P C R : Type 0} (meaning : Ghosts O P C R) where
  -- the calls were answered at the end of the log that the caller sees, or a full log was seen
  abbrev pub Did : PassView O P C R → ArrayVec C → Done O P C R → PassView O P C R → Type 0
  Did before asked (Steps s) after = IsAnswered meaning before asked.items s after
  Did before asked NoRoom after = IsRefused meaning before after

  -- the entry is what became of the todo, by the pass of its object; the other passes stay
  pub record DidAt (before : List (PassView O P C R)) (todo : Todo O P C R) (e : Entry O P C R) (after : List (PassView O P C R)) : Type 0 where
    pub asked : asked_of e ≡ todo
    pub looks : e.looks < 2 ^ 64
    pub old : PassView O P C R
    pub new : PassView O P C R
    pub was : slice_get before todo.object ≡ Some old
    pub now : slice_get after todo.object ≡ Some new
    pub others : (y : ℕ) → y ≢ todo.object → slice_get after y ≡ slice_get before y
    pub caller : new.caller ≡ old.caller
    pub did : Did old e.asked e.done new

  -- the caller on object x has added the events of the entries there, in their order, and no others; each entry there
  -- answers what was asked, by the log that is seen now
  pub record DidOn (x : ℕ) (before : PassView O P C R) (entries : List (Entry O P C R)) (after : PassView O P C R) : Type 0 where
    pub caller : after.caller ≡ before.caller
    pub own : of before.caller.acting after.seen ≡ of before.caller.acting before.seen ++ events_by before.caller.acting (done_on x entries)
    pub answers : AllByRecursion (λ e. e.object ≡ x → Answers meaning (opened_of_cell before.caller.cell) after.seen e.asked e.done) entries

  -- the entries are what became of the todos, one after another
  pub record HasDone (before : List (PassView O P C R)) (todos : List (Todo O P C R)) (entries : List (Entry O P C R)) (after : List (PassView O P C R)) : Type 0 where
    pub count : length after ≡ length before
    pub asked : map asked_of entries ≡ todos
    pub looks : AllByRecursion (λ e. e.looks < 2 ^ 64) entries
    pub full : NoneAfterFull entries
    pub each : (x : ℕ) (p q : PassView O P C R) → slice_get before x ≡ Some p → slice_get after x ≡ Some q → DidOn x p entries q
