-- What was handed over of a record 3.
use Rattle.custom_records.specs.{Custom.{CustomEvent, CustomEntry}, CustomForm.Head, Ranges.CustomRecord}
use Rattle.record_lines.specs.Received.{Received}

-- the parts that were handed over
abbrev pub CustomReceived : Type 0
CustomReceived = Received Head CustomEvent CustomEntry

-- the record of what the head says and of what is whole
abbrev pub received_custom : CustomReceived → CustomRecord
received_custom p = record { head = p.head.so_far; run = record { logs = p.logs; transcripts = p.transcripts } }
