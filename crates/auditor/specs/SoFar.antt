-- What a judge knows of what it was handed so far.
use Rattle.std.specs.Prelude.{◌≡◌, ◌+◌, ◌<◌, ◌≤◌, List, [], ◌++◌, length, Some, slice_get}
use Rattle.event_log.specs.declared.entry.Run.{Run}
use Rattle.sound_run.specs.Sound.{transcript_of, log_of}
use Rattle.auditor.specs.{declared.fault.Fault.Fault, declared.fault.Verdict.Verdict, ByModels.SoundBy, Faults.IsFirstFaultBy, ReceivedRun.ReceivedRun, Passes.{IsRunOver, AreSoundBefore, AreRightTo}, StepModels.{StepModel, LegalBy}, Terms.Terms, Transcripts.AreRightBefore}
use Rattle.auditor.specs.declared.fault.Verdict.TheVariants as verdict

module _ {X : Type 0} where
  -- the second list begins with the first
  abbrev pub GoesOnFrom : List X → List X → Type 0
  GoesOnFrom a b = (rest : List X) × (b ≡ a ++ rest)

module _ {T O P C R : Type 0} where
  -- a log was begun, and isn't whole
  abbrev pub IsInLog : ReceivedRun T O P C R → Type 0
  IsInLog d = length d.opened ≡ length d.logs + 1

  -- neither a log nor a transcript was begun, and a log is still to come
  pub record IsBeforeLog (d : ReceivedRun T O P C R) : Type 0 where
    pub logs : length d.logs < d.objects
    pub opened : length d.opened ≡ length d.logs
    pub events : d.events ≡ []
    pub transcripts : d.transcripts ≡ []
    pub entries : d.entries ≡ []

  -- all logs are whole
  pub record HasLogs (d : ReceivedRun T O P C R) : Type 0 where
    pub logs : length d.logs ≡ d.objects
    pub opened : length d.opened ≡ d.objects
    pub events : d.events ≡ []

  -- all logs are whole, and a transcript is still to come
  pub record IsInTranscripts (d : ReceivedRun T O P C R) : Type 0 where
    pub logs : HasLogs d
    pub cpus : length d.transcripts < d.cpus

  -- a whole run that begins with what has received
  pub record IsWith (d : ReceivedRun T O P C R) (terms : List (Terms P T)) (run : Run O P C R) : Type 0 where
    pub whole : IsRunOver terms run
    pub cpus : length run.transcripts ≡ d.cpus
    pub objects : length run.logs ≡ d.objects
    pub opened : GoesOnFrom d.opened terms
    pub logs : GoesOnFrom d.logs run.logs
    pub log : IsInLog d → (length (log_of (length d.logs) run) ≡ d.count) × GoesOnFrom d.events (log_of (length d.logs) run)
    pub transcripts : GoesOnFrom d.transcripts run.transcripts
    pub entries : GoesOnFrom d.entries (transcript_of (length d.transcripts) run)

module _ {T O P C R : Type 0} (model : StepModel T O P C R) where
  -- the fault is the first of each run that begins with what has received
  abbrev pub IsFaultSoFar : ReceivedRun T O P C R → Fault → Type 0
  IsFaultSoFar d f = (terms : List (Terms P T)) (run : Run O P C R) → IsWith d terms run → IsFirstFaultBy model terms run f

  -- no log is too long, no step is wrong, and each entry is as it must be
  pub record IsRightSoFar (d : ReceivedRun T O P C R) : Type 0 where
    pub logs : (terms : List (Terms P T)) (run : Run O P C R) → IsWith d terms run → AreSoundBefore model terms run (length d.logs)
    pub short : (t : Terms P T) → IsInLog d → slice_get d.opened (length d.logs) ≡ Some t → d.count ≤ t.limit
    pub legal : (t : Terms P T) → IsInLog d → slice_get d.opened (length d.logs) ≡ Some t → LegalBy model t.state d.events
    pub transcripts : (terms : List (Terms P T)) (run : Run O P C R) → IsWith d terms run → AreRightTo model.meaning terms run (length d.transcripts)
    pub entries : AreRightBefore model.meaning d.opened d.logs (length d.transcripts) d.entries (length d.entries)

module _ {T O P C R : Type 0} (model : StepModel T O P C R) (terms : List (Terms P T)) (run : Run O P C R) where
  -- the run is sound, or this is its first fault
  abbrev pub IsFound : Verdict → Type 0
  IsFound verdict.Sound = SoundBy model terms run
  IsFound (verdict.Unsound f) = IsFirstFaultBy model terms run f
