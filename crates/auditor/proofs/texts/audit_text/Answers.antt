use Rattle.std.proofs.Common.{subst}
use Rattle.records.specs.{RecordRanges.Record, RecordStates.received_record}
use Rattle.auditor.specs.Audits.{IsVerdict}
use Rattle.auditor.proofs.TextFaults.{text_named, text_judged, text_read_out}
use Rattle.auditor.proofs.texts.audit_text.Goals as goal

pub returns-in_err-read-clause-fault : goal.returns-in_err-read-clause-fault
returns-in_err-read-clause-fault g c = text_named _ c.in_err-read.field-0.0 c.from_residual.result c.from_residual.ensures.1 c.in_err-read.ensures.fault

pub returns-in_err-read-clause-only : goal.returns-in_err-read-clause-only
returns-in_err-read-clause-only g c = λ form r fits e. text_judged r c.in_err-read.field-0.0 c.from_residual.result c.from_residual.ensures.1 (c.in_err-read.ensures.only form r fits e)

pub returns-in_err-read-clause-to_end : goal.returns-in_err-read-clause-to_end
returns-in_err-read-clause-to_end g c = λ no_memory no_failure. text_read_out _ _ c.in_err-read.field-0.0 c.from_residual.result c.from_residual.ensures.1 c.in_err-read.ensures.to_end no_memory no_failure

pub returns-clause-verdict : goal.returns-clause-verdict
returns-clause-verdict g c = record {
  bytes = c.in_ok-read.ensures.found.0;
  all = c.in_ok-read.ensures.found.1;
  of = received_record c.in_ok-read.read.1;
  spelled = c.in_ok-read.ensures.found.2;
  is = record { sound = c.verdict.ensures.sound; fault = c.verdict.ensures.fault };
}

pub returns-clause-only : goal.returns-clause-only
returns-clause-only g c = λ form r fits e.
    let is : IsVerdict (received_record c.in_ok-read.read.1) c.verdict.result = record { sound = c.verdict.ensures.sound; fault = c.verdict.ensures.fault } in
    subst (λ (s : Record). IsVerdict s c.verdict.result) (c.in_ok-read.ensures.only form r fits e) is
