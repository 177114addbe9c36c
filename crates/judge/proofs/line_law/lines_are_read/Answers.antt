use Rattle.std.proofs.Common.{arith}
use Rattle.custom_records.specs.LineReading.{any_head}
use Rattle.custom_records.proofs.LineLaws.{reads_object, reads_any_event}
use Rattle.judge.proofs.AnyLogs.{reads_any_log}
use Rattle.judge.proofs.line_law.lines_are_read.Goals as goal

pub returns-clause-object : goal.returns-clause-object
returns-clause-object c = reads_object

pub returns-clause-log : goal.returns-clause-log
returns-clause-log c = reads_any_log

pub returns-clause-event : goal.returns-clause-event
returns-clause-event c = reads_any_event any_head (omega arith)
