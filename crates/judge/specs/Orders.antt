-- What is reported of a text whose entries were put in order.
use Rattle.std.specs.Prelude.{◌≡◌, ℕ, List, ◌++◌, length, map, drop, nat_lt, if◌then◌else◌}
use Rattle.kernel_object.specs.contracts.object.KernelObjectSeqObject.TheImpl.{ghosts as kernel}
use Rattle.auditor.specs.{Faults.IsFirstFault, declared.fault.Fault.Fault}
use Rattle.log_merge.specs.MergedRecords.{IsMerged, HasCycle}
use Rattle.sound_run.specs.declared.place.Place.{Place}
use Rattle.records.specs.{RecordFaults.{IsWhole, IsBadLine}, RecordRanges.Record, Runs.opened_of}
use Rattle.judge.specs.{Report.{report, fault_report}, declared.merge.Turn.Turn, declared.report.Report.Report}

-- what becomes of a text
pub data Outcome : Type 0 where
  order : List Place → Outcome
  cycle : List Place → Outcome
  unsound : Fault → Outcome
  bad_line : ℕ → Outcome
  out_of_memory : Outcome

-- the order of the record that the bytes spell; the cycle that excludes one; its first fault; the first line with which no
-- record goes on
abbrev pub IsOutcome : List ℕ → Outcome → Type 0
IsOutcome bytes (order places) = (r : Record) × IsWhole bytes r × IsMerged kernel (opened_of r.settings) r.run places
IsOutcome bytes (cycle places) = (r : Record) × IsWhole bytes r × HasCycle kernel (opened_of r.settings) r.run places
IsOutcome bytes (unsound f) = (r : Record) × IsWhole bytes r × IsFirstFault kernel (opened_of r.settings) r.run f
IsOutcome bytes (bad_line n) = IsBadLine bytes n
IsOutcome bytes out_of_memory = Unit {0}

-- places under a kind, or, if there is too little room, how much is needed
abbrev pub places_report : ℕ → ℕ → List Place → Report
places_report kind room places = report (if nat_lt room (length places) then 10 else kind) (length places) 0 0

-- what is reported of an outcome, where there is room for so many places
abbrev pub outcome_report : ℕ → Outcome → Report
outcome_report room (order places) = places_report 0 room places
outcome_report room (cycle places) = places_report 7 room places
outcome_report room (unsound f) = fault_report f
outcome_report room (bad_line n) = report 8 n 0 0
outcome_report room out_of_memory = report 9 0 0 0

-- a place in the numbers of C
abbrev pub turn_of : Place → Turn
turn_of place = record { cpu = place.cpu; entry = place.entry }

-- the places at the front of the room, if there is enough, and behind them what was there
abbrev pub room_with : List Place → List Turn → List Turn
room_with places room = if nat_lt (length room) (length places) then room else map turn_of places ++ drop (length places) room

-- the room after an outcome
abbrev pub room_after : Outcome → List Turn → List Turn
room_after (order places) room = room_with places room
room_after (cycle places) room = room_with places room
room_after (unsound f) room = room
room_after (bad_line n) room = room
room_after out_of_memory room = room

-- what is reported, and the room, are those of what becomes of the bytes
pub record IsOrderReported (bytes : List ℕ) (old new : List Turn) (t : Report) : Type 0 where
  pub outcome : Outcome
  pub right : IsOutcome bytes outcome
  pub same : t ≡ outcome_report (length old) outcome
  pub room : new ≡ room_after outcome old
