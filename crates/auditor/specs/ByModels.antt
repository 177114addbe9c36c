-- Sound runs by any model of which steps are right.
use Rattle.std.specs.{Prelude.{◌≡◌, ℕ, ◌≤◌, List, length, Some, slice_get}, List.AllByRecursion}
use Rattle.event_log.specs.{declared.event.Event.Event, declared.entry.Run.Run}
use Rattle.sound_run.specs.Sound.{transcript_of, done_on, steps_by, EntryIsSound, NoneAfterFull}
use Rattle.auditor.specs.{StepModels.{StepModel, LegalBy}, Terms.{Terms, opened_list}}

module _ {T O P C R : Type 0} (model : StepModel T O P C R) where
  -- the steps of the log are right, and it is within its limit
  pub record LogIsSoundBy (t : Terms P T) (log : List (Event O P C R)) : Type 0 where
    pub legal : LegalBy model t.state log
    pub within : length log ≤ t.limit

module _ {T O P C R : Type 0} (model : StepModel T O P C R) (objects : List (Terms P T)) (run : Run O P C R) where
  -- each log is sound, each CPU's done entries on an object are its events in the log, each entry answers what was
  -- asked, and after an entry without room none is done on its object
  pub record SoundBy : Type 0 where
    pub counted : length run.logs ≡ length objects
    pub logs : (x : ℕ) (t : Terms P T) (log : List (Event O P C R)) → slice_get objects x ≡ Some t → slice_get run.logs x ≡ Some log → LogIsSoundBy model t log
    pub taken : (cpu x : ℕ) (log : List (Event O P C R)) → slice_get run.logs x ≡ Some log → done_on x (transcript_of cpu run) ≡ steps_by cpu log
    pub entries : (cpu : ℕ) → AllByRecursion (λ e. EntryIsSound model.meaning (opened_list objects) run e) (transcript_of cpu run)
    pub full : (cpu : ℕ) → NoneAfterFull (transcript_of cpu run)
