-- What is reported of a record of one's own whose entries were put in order.
use Rattle.std.specs.Prelude.{◌≡◌, ℕ, List, length}
use Rattle.auditor.specs.declared.fault.Fault.{Fault}
use Rattle.sound_run.specs.declared.place.Place.{Place}
use Rattle.judge.specs.{Merged.{IsMergedBy, HasCycleBy}, Models.{Model, AreCounts, IsFirstFaultBy, IsMistold}, Orders.{places_report, room_with}, OwnReport.AreFitting, Report.{report, fault_report}, declared.merge.Turn.Turn, declared.report.Report.Report}
use Rattle.custom_records.specs.{Ranges.CustomRecord, RecordFaults.{IsCustomText, IsBadCustomLine}}

-- what becomes of a text and counts
pub data OwnOrder : Type 0 where
  order : List Place → OwnOrder
  cycle : List Place → OwnOrder
  unsound : Fault → OwnOrder
  mistold : ℕ → OwnOrder
  bad_line : ℕ → OwnOrder
  out_of_memory : OwnOrder

-- that holds of the record that the bytes spell, whose counts fit it, by every model that has these counts
abbrev pub HoldsByEach : List ℕ → List ℕ → (Model → CustomRecord → Type 0) → Type 0
HoldsByEach bytes counts holds = (r : CustomRecord) × IsCustomText bytes r × AreFitting r counts × ((model : Model) → AreCounts model r counts → holds model r)

-- the order of the record that the bytes spell; the cycle that excludes one; its first fault; the first count that fits no model;
-- the first line with which no record goes on
abbrev pub IsOwnOrder : List ℕ → List ℕ → OwnOrder → Type 0
IsOwnOrder bytes counts (order places) = HoldsByEach bytes counts (λ model r. IsMergedBy model r places)
IsOwnOrder bytes counts (cycle places) = HoldsByEach bytes counts (λ model r. HasCycleBy model r places)
IsOwnOrder bytes counts (unsound f) = HoldsByEach bytes counts (λ model r. IsFirstFaultBy model r f)
IsOwnOrder bytes counts (mistold x) = (r : CustomRecord) × IsCustomText bytes r × IsMistold r counts x
IsOwnOrder bytes counts (bad_line n) = IsBadCustomLine bytes n
IsOwnOrder bytes counts out_of_memory = Unit {0}

-- what is reported of an outcome, where there is room for so many places
abbrev pub own_order_report : ℕ → OwnOrder → Report
own_order_report room (order places) = places_report 0 room places
own_order_report room (cycle places) = places_report 7 room places
own_order_report room (unsound f) = fault_report f
own_order_report room (mistold x) = report 11 x 0 0
own_order_report room (bad_line n) = report 8 n 0 0
own_order_report room out_of_memory = report 9 0 0 0

-- the room after an outcome
abbrev pub own_room_after : OwnOrder → List Turn → List Turn
own_room_after (order places) room = room_with places room
own_room_after (cycle places) room = room_with places room
own_room_after (unsound f) room = room
own_room_after (mistold x) room = room
own_room_after (bad_line n) room = room
own_room_after out_of_memory room = room

-- what is reported, and the room, are those of what becomes of the bytes and the counts
pub record IsOwnOrderReported (bytes counts : List ℕ) (old new : List Turn) (t : Report) : Type 0 where
  pub outcome : OwnOrder
  pub right : IsOwnOrder bytes counts outcome
  pub same : t ≡ own_order_report (length old) outcome
  pub room : new ≡ own_room_after outcome old
