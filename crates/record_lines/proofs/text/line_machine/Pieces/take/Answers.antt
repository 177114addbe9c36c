use Rattle.std.proofs.{Common.{◌≡◌, ◌++◌, ◌∙◌, ℕ, List, [], Err, ap, subst}, lemmas.List.append-nil}
use Rattle.record_lines.specs.declared.text.fault.LineFault.TheVariants.{Refused}
use Rattle.record_lines.proofs.LineMachine.{handed_on}
use Rattle.record_lines.proofs.text.line_machine.Pieces.take.Goals as goal

pub returns-in_err-put-clause-refused : goal.returns-in_err-put-clause-refused
returns-in_err-put-clause-refused g c = λ unended kept e.
    let refused : c.in_err-put.field-0.0 ≡ Refused = handed_on c.from_residual.result c.in_err-put.field-0.0 Refused c.from_residual.ensures.1 e in
    let bad = c.put.ensures.refused (c.in_err-put.was ∙ ap Err refused) [] in
    subst (λ (u : List ℕ). g.L.TakesLines.refuses (u ++ c.args.end.now) c.args.self.now.lines) (kept.whole c.if-self.false)
    (subst (λ (l : List ℕ). g.L.TakesLines.refuses l c.args.self.now.lines) (append-nil (c.args.self.now.pending.items ++ c.args.end.now)) bad)
