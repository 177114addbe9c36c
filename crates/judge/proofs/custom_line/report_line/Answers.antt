use Rattle.std.proofs.Common.{None, sym, ap, ◌∙◌}
use Rattle.custom_records.specs.LineReading.{any_head, custom_object_at, custom_event_at}
use Rattle.record_lines.specs.Reading.{words}
use Rattle.judge.specs.OwnLines.{words_report}
use Rattle.judge.proofs.EventFronts.{no_object, no_log}
use Rattle.judge.proofs.custom_line.report_line.Goals as goal

pub returns-then-is_number_next : goal.returns-then-is_number_next
returns-then-is_number_next c =
    let ws = words c.args.line.now in
    let digit = sym c.is_number_next.ensures ∙ c.if-is_number_next.true in
    c.report_event_or_other.ensures
    ∙ (ap (λ o. words_report c.args.report.now o None (custom_event_at any_head ws)) (sym (no_object ws digit))
    ∙ ap (λ l. words_report c.args.report.now (custom_object_at ws) l (custom_event_at any_head ws)) (sym (no_log ws digit)))
