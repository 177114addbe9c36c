use Rattle.std.proofs.Common.{◌≡◌, Ok, Err, subst}
use Rattle.record_lines.specs.declared.text.fault.LinesFault.TheVariants.{OutOfMemory, Line}
use Rattle.records.specs.{RecordFaults.NamesBadLine, RecordStates.received_record}
use Rattle.judge.proofs.audit.verdict_of.Goals as goal

pub returns-in-Err-OutOfMemory : goal.returns-in-Err-OutOfMemory
returns-in-Err-OutOfMemory c = record { answer = Err OutOfMemory; right = tt; same = c.new.ensures }

pub returns-in-Err-Line : goal.returns-in-Err-Line
returns-in-Err-Line c =
    let is : c.in-Err-Line.field-0 ≡ Line c.in-Err-Line.line = cc in
    record { answer = Err (Line c.in-Err-Line.line); right = subst (NamesBadLine c.args.text.now) is c.in-Err-Line.ensures.fault; same = cc }

pub returns-in-Ok : goal.returns-in-Ok
returns-in-Ok c = record {
  answer = Ok c.verdict.result;
  right = (received_record c.in-Ok.read.1, c.in-Ok.ensures.found, record { sound = c.verdict.ensures.sound; fault = c.verdict.ensures.fault });
  same = c.of_verdict.ensures;
}
