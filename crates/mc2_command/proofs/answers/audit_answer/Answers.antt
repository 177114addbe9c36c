use Rattle.std.proofs.Common.{◌∙◌, sym, ap, subst}
use Rattle.auditor.specs.VerdictText.{CanBeReported, verdict_text}
use Rattle.records.specs.{RecordStates.received_record, Settings.Settings}
use Rattle.mc2_command.proofs.answers.audit_answer.Goals as goal

pub verdict_line-requires : goal.verdict_line-requires
verdict_line-requires g c = subst (λ (s : Settings). CanBeReported s c.verdict-verdict.result) (sym c.in_ok-read.ensures.settings) c.verdict-verdict.ensures.reported

pub returns-clause-answer : goal.returns-clause-answer
returns-clause-answer g c = record {
  of = received_record c.in_ok-read.read.1;
  read = c.in_ok-read.ensures.found;
  judged = record { sound = c.verdict-verdict.ensures.sound; fault = c.verdict-verdict.ensures.fault };
  is = c.in_ok-line.ensures ∙ ap (λ (s : Settings). verdict_text s c.verdict-verdict.result) c.in_ok-read.ensures.settings;
}
