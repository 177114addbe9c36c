use Rattle.std.proofs.Common.{Err, ap, sym, ◌∙◌, subst}
use Rattle.record_lines.specs.{declared.streams.feeding.SourceFault.TheVariants.Reported, declared.text.fault.LinesFault.TheVariants.Line, Pieces.HasFed}
use Rattle.records.specs.{RecordFaults.IsBadLine, RecordStates.{RecordState, TakesLine}}
use Rattle.records.proofs.{RecordSources.{spells_one, end_refused, only_refused, bad_of_rest, out_behind}, RecordTexts.bad_is_none}
use Rattle.records.proofs.record.read_into.read_into.Goals as goal

pub returns-in_err-whole_parts-in-Ok-clause-fault : goal.returns-in_err-whole_parts-in-Ok-clause-fault
returns-in_err-whole_parts-in-Ok-clause-fault g c =
    let t = c.in-Ok.ensures.taken in
    let read = subst (λ (s : RecordState). HasFed TakesLine s t.0 c.feed_all.new.reader) (c.new-pieces.ensures.lines ∙ c.new.ensures) t.2.0 in
    end_refused _ t.0 c.in_err-whole_parts-in-Ok.field-0.0 c.from_residual.result c.from_residual.ensures.1 t.1 (c.in_err-whole_parts-in-Ok.ensures.fault t.0 read)

pub returns-in_err-whole_parts-in-Ok-clause-only : goal.returns-in_err-whole_parts-in-Ok-clause-only
returns-in_err-whole_parts-in-Ok-clause-only g c = λ form r fit e. only_refused _ _ _ c.from_residual.result form r c.from_residual.ensures.1 (returns-in_err-whole_parts-in-Ok-clause-fault g c) fit e

pub returns-in-Ok-clause-only : goal.returns-in-Ok-clause-only
returns-in-Ok-clause-only g c = λ form r fit e.
    let t = c.in-Ok.ensures.taken in
    let read = subst (λ (s : RecordState). HasFed TakesLine s t.0 c.feed_all.new.reader) (c.new-pieces.ensures.lines ∙ c.new.ensures) t.2.0 in
    spells_one _ _ form r (t.0, t.1, c.in_ok-whole_parts-in-Ok.ensures.found t.0 read) fit e

pub returns-in-Ok-feed_all-clause-fault : goal.returns-in-Ok-feed_all-clause-fault
returns-in-Ok-feed_all-clause-fault g c =
    let line = c.in-Err-Reported-Line in
    let bad = bad_of_rest _ _ c.new-pieces.result line.number (c.new-pieces.ensures.lines ∙ c.new.ensures) (c.feed_all.ensures.refused (Line line.number) (line.is ∙ ap Err (line.field-0-is ∙ ap Reported line.field-0-0-is))) in
    (bad.0, bad.1, subst (IsBadLine bad.0) (sym line.number-is) bad.2)

pub returns-in-Ok-feed_all-clause-only : goal.returns-in-Ok-feed_all-clause-only
returns-in-Ok-feed_all-clause-only g c = λ form r fit e. let bad = returns-in-Ok-feed_all-clause-fault g c in bad_is_none bad.0 _ form r bad.2 fit (bad.1 _ e)

pub returns-in-Ok-feed_all-clause-to_end : goal.returns-in-Ok-feed_all-clause-to_end
returns-in-Ok-feed_all-clause-to_end g c = λ _ _.
    let line = c.in-Err-Reported-Line in
    let refused = c.feed_all.ensures.refused (Line line.number) (line.is ∙ ap Err (line.field-0-is ∙ ap Reported line.field-0-0-is)) in
    out_behind _ _ _ refused.0 refused.1 c.in-Ok-feed_all.ensures.to_end
