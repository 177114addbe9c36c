-- What a record is to a model of its objects.
use Rattle.std.specs.{Prelude.{◌≡◌, ◌↔◌, ◌⊎◌, ℕ, ◌+◌, ◌<◌, ◌≤◌, Bool, true, false, List, ◌++◌, length, take, map, Some, slice_get}, List.AllByRecursion}
use Rattle.event_log.specs.Log.{steps_of}
use Rattle.sound_run.specs.Sound.{Opened, transcript_of, log_of, done_on, steps_by, EntryIsSound, NoneAfterFull}
use Rattle.custom_records.specs.{Custom.{CustomStep, CustomEvent, custom}, Ranges.CustomRecord, Settings.{CustomSettings, CustomHead}}
use Rattle.auditor.specs.{declared.fault.Fault.Fault, declared.fault.Verdict.Verdict, Faults.{IsTooLong, HadRoom, IsNotItsEvent, IsNotAsked, IsUnclaimed, IsBefore, place}}
use Rattle.auditor.specs.declared.fault.Fault.TheVariants as fault
use Rattle.auditor.specs.declared.fault.Verdict.TheVariants as verdict

-- whether the last of these steps of an object of those settings is right, if those before it were
abbrev pub Model : Type 0
Model = CustomSettings → List CustomStep → Bool

-- what the objects are judged by beside a model: the most events of each
abbrev pub opened : CustomHead → List (Opened (Unit {0}))
opened head = map (λ (o : CustomSettings). record { params = tt; limit = o.events }) head.objects

-- each of the first n steps is right
abbrev pub AreRight : (List CustomStep → Bool) → List CustomStep → ℕ → Type 0
AreRight right steps n = (k : ℕ) → k < n → right (take (k + 1) steps) ≡ true

-- so many steps are right from the first on, and the next one isn't, if there is one
pub record IsCount (right : List CustomStep → Bool) (steps : List CustomStep) (n : ℕ) : Type 0 where
  pub within : n ≤ length steps
  pub all : AreRight right steps n
  pub next : n < length steps → right (take (n + 1) steps) ≡ false

-- an earlier one of the steps refused
pub record IsBehindRefusing (steps : List CustomStep) (i : ℕ) : Type 0 where
  pub index : ℕ
  pub before : index < i
  pub step : CustomStep
  pub there : slice_get steps index ≡ Some step
  pub refuses : step.reply.refuses ≡ true

-- none of the event's steps stands behind one that refused
abbrev pub NoneBehindRefusing : CustomEvent → Type 0
NoneBehindRefusing e = (i : ℕ) → i < length e.steps.list.items → IsBehindRefusing e.steps.list.items i → ⊥

-- all steps are right, and none stands behind one that refused
pub record IsRunBy (right : List CustomStep → Bool) (log : List CustomEvent) : Type 0 where
  pub steps : AreRight right (steps_of log) (length (steps_of log))
  pub ends : AllByRecursion NoneBehindRefusing log

module _ (model : Model) (r : CustomRecord) where
  -- the log is a run of the model and within its limit
  pub record LogIsSoundBy (o : CustomSettings) (log : List CustomEvent) : Type 0 where
    pub legal : IsRunBy (model o) log
    pub within : length log ≤ o.events

  -- each log is sound, each CPU's done entries on an object are its events in the log, each entry answers what was
  -- asked, and after an entry without room none is done on its object
  pub record SoundBy : Type 0 where
    pub counted : length r.run.logs ≡ length r.head.objects
    pub logs : (x : ℕ) (o : CustomSettings) (log : List CustomEvent) → slice_get r.head.objects x ≡ Some o → slice_get r.run.logs x ≡ Some log → LogIsSoundBy o log
    pub taken : (cpu x : ℕ) (log : List CustomEvent) → slice_get r.run.logs x ≡ Some log → done_on x (transcript_of cpu r.run) ≡ steps_by cpu log
    pub entries : (cpu : ℕ) → AllByRecursion (λ e. EntryIsSound custom (opened r.head) r.run e) (transcript_of cpu r.run)
    pub full : (cpu : ℕ) → NoneAfterFull (transcript_of cpu r.run)

  -- step i of event e isn't right behind all earlier ones of the log, or stands behind one of its event that refused
  pub record HasWrongStepBy (x e i : ℕ) : Type 0 where
    pub object : CustomSettings
    pub there : slice_get r.head.objects x ≡ Some object
    pub event : CustomEvent
    pub at : slice_get (log_of x r.run) e ≡ Some event
    pub within : i < length event.steps.list.items
    pub wrong : (model object (steps_of (take e (log_of x r.run)) ++ take (i + 1) event.steps.list.items) ≡ false) ⊎ IsBehindRefusing event.steps.list.items i

  -- the fault is there; of all but wrong steps no model says anything
  abbrev pub IsFaultBy : Fault → Type 0
  IsFaultBy (fault.WrongStep x e i) = HasWrongStepBy x e i
  IsFaultBy (fault.TooLong x) = IsTooLong custom (opened r.head) r.run x
  IsFaultBy (fault.RoomWasLeft cpu n) = HadRoom custom (opened r.head) r.run cpu n
  IsFaultBy (fault.NotItsEvent cpu n) = IsNotItsEvent custom (opened r.head) r.run cpu n
  IsFaultBy (fault.NotAsked cpu n) = IsNotAsked custom (opened r.head) r.run cpu n
  IsFaultBy (fault.Unclaimed x e) = IsUnclaimed custom (opened r.head) r.run x e

  -- the fault is there, and none at an earlier place
  pub record IsFirstFaultBy (f : Fault) : Type 0 where
    pub there : IsFaultBy f
    pub first : (g : Fault) → IsBefore (place g) (place f) → IsFaultBy g → ⊥

  -- a sound record is called so, and an unsound one by its first fault
  pub record IsVerdictBy (v : Verdict) : Type 0 where
    pub sound : (v ≡ verdict.Sound) ↔ SoundBy
    pub fault : (f : Fault) → (v ≡ verdict.Unsound f) ↔ IsFirstFaultBy f

  -- there are as many counts as objects, and each is how many steps of its log the model calls right
  pub record AreCounts (counts : List ℕ) : Type 0 where
    pub counted : length counts ≡ length r.head.objects
    pub each : (x : ℕ) (o : CustomSettings) (n : ℕ) → slice_get r.head.objects x ≡ Some o → slice_get counts x ≡ Some n → IsCount (model o) (steps_of (log_of x r.run)) n

-- the verdict by every model that has these counts
abbrev pub IsVerdictByCounts : CustomRecord → List ℕ → Verdict → Type 0
IsVerdictByCounts r counts v = (model : Model) → AreCounts model r counts → IsVerdictBy model r v

-- place x is an object with a count, which is no more than the steps of its log
pub record IsCounted (r : CustomRecord) (counts : List ℕ) (x : ℕ) : Type 0 where
  pub object : x < length r.head.objects
  pub count : ℕ
  pub there : slice_get counts x ≡ Some count
  pub within : count ≤ length (steps_of (log_of x r.run))

-- the first place that is an object or has a count, but isn't an object with a count that can be
pub record IsMistold (r : CustomRecord) (counts : List ℕ) (x : ℕ) : Type 0 where
  pub some : (x < length r.head.objects) ⊎ (x < length counts)
  pub wrong : IsCounted r counts x → ⊥
  pub first : (y : ℕ) → y < x → IsCounted r counts y
