-- The state of a judge, by what it has received.
use Rattle.std.specs.Prelude.{◌≡◌, ℕ, ◌<◌, ◌≤◌, List, length, Option, Some, None, slice_get}
use Rattle.event_log.specs.{declared.object.SeqObject.Ghosts, declared.event.Event.Event, declared.entry.Run.Run}
use Rattle.sound_run.specs.Sound.{done_on}
use Rattle.auditor.specs.{declared.fault.Fault.Fault, declared.kept_log.KeptLog.KeptLog, declared.replay.Replay.Replay, ReceivedRun.ReceivedRun, NextEvents.{IsAt, AreNextEvents}, Passes.IsEnd, SoFar.{IsInLog, IsWith, IsFaultSoFar, IsRightSoFar}, StepModels.{StepModel, replay_by}, Terms.{Terms, opened_list}}

module _ {T O P C R J W : Type 0} (model : StepModel T O P C R) (shows : J → T) (d : ReceivedRun T O P C R) where
  -- the log that is being read
  pub record IsReplay (r : Replay O J W P C R T) : Type 0 where
    pub opened : Terms P T
    pub object : slice_get d.opened (length d.logs) ≡ Some opened
    pub limit : r.limit ≡ opened.limit
    pub log : r.log ≡ d.events
    pub state : shows r.judge ≡ replay_by model opened.state d.events

  -- it is held where one is being read
  abbrev pub IsHeld : Option (Replay O J W P C R T) → Type 0
  IsHeld (Some r) = IsInLog d × IsReplay r
  IsHeld None = IsInLog d → ⊥

module _ {T O P C R W : Type 0} (meaning : Ghosts O P C R) (d : ReceivedRun T O P C R) where
  -- log x, whose events before the end are taken by earlier CPUs, and those of the next CPU before the place by its entries
  pub record IsKeptLog (x : ℕ) (l : KeptLog O W P C R) : Type 0 where
    pub opened : Terms P T
    pub object : slice_get d.opened x ≡ Some opened
    pub limit : l.limit ≡ opened.limit
    pub log : slice_get d.logs x ≡ Some l.log
    pub next_events : AreNextEvents d.cpus l.log l.next_events.first.items l.next_events.next.items
    pub place : length d.transcripts < d.cpus → IsAt (length d.transcripts) l.log (length (done_on x d.entries)) l.place
    pub end : (terms : List (Terms P T)) (run : Run O P C R) → IsWith d terms run → IsEnd meaning (opened_list terms) run (length d.transcripts) x l.end

  -- all whole logs
  pub record AreKeptLogs (logs : List (KeptLog O W P C R)) : Type 0 where
    pub count : length logs ≡ length d.logs
    pub each : (x : ℕ) (l : KeptLog O W P C R) → slice_get logs x ≡ Some l → IsKeptLog x l

module _ {T O P C R J W : Type 0} (model : StepModel T O P C R) (shows : J → T) (d : ReceivedRun T O P C R) where
  -- nothing was found wrong
  pub record IsRightWith (replay : Option (Replay O J W P C R T)) (kept : List (KeptLog O W P C R)) (space : ℕ) : Type 0 where
    pub right : IsRightSoFar model d
    pub cpus : (k : ℕ) (e : Event O P C R) → slice_get d.events k ≡ Some e → e.cpu < d.cpus
    pub held : IsHeld model shows d replay
    pub logs : AreKeptLogs model.meaning d kept
    pub room : d.objects ≤ space

  -- the first fault, or what later parts are compared with
  abbrev pub IsJudgeState : Option Fault → Option (Replay O J W P C R T) → List (KeptLog O W P C R) → ℕ → Type 0
  IsJudgeState (Some f) replay kept space = IsFaultSoFar model d f
  IsJudgeState None replay kept space = IsRightWith replay kept space
