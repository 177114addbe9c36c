use Rattle.std.proofs.Common.{◌≡◌, ◌+◌, ◌++◌, ◌∷◌, ◌∙◌, ℕ, Err, sym, ap, subst}
use Rattle.record_lines.specs.{declared.text.fault.LinesFault.TheVariants.Line, LineMachine.RefusesText}
use Rattle.record_lines.proofs.LineMachine.{line_ended, end_refused}
use Rattle.record_lines.proofs.text.line_machine.Pieces.end_line.Goals as goal

pub returns-clause-ok : goal.returns-clause-ok
returns-clause-ok g c = λ start text h.
    line_ended g.L.TakesLines.takes start text c.args.self.now.lines c.args.self.now.number c.args.self.now.passing c.args.self.now.pending.items h c.args.end.now c.take.new.self.lines c.in-Some.next c.take.new.self.passing c.take.new.self.pending.items c.requires.end
    (c.in-Ok.ensures.ok h.unended h.kept) (c.in-Some.ensures.1 ∙ ap (λ n. n + 1) c.in-Ok.ensures.number) c.in-Ok.ensures.passing (c.in-Ok.ensures.pending h.unended h.kept)

pub returns-in-Err-clause-refused : goal.returns-in-Err-clause-refused
returns-in-Err-clause-refused g c = λ start text after n h e.
    let at : c.fault_at.result ≡ Line n = cc in
    let reported = c.fault_at.ensures n at in
    let bad = end_refused g.L.TakesLines.takes g.L.TakesLines.refuses g.L.TakesLines.fits start text c.args.self.now.lines c.args.self.now.number c.args.self.now.passing c.args.self.now.pending.items h c.args.end.now after c.requires.end (c.take.ensures.refused h.unended h.kept (c.in-Err.is ∙ ap Err reported.0)) in
    subst (λ (m : ℕ). RefusesText g.L.TakesLines.takes g.L.TakesLines.refuses (text ++ (c.args.end.now ++ 10 ∷ after)) start 1 m) (sym (reported.1 ∙ c.take.ensures.number)) bad
