use Rattle.std.proofs.Common.{rules, ◌≡◌, ◌++◌, ◌∷◌, ◌∙◌, ℕ, List, [], Err, inl, inr, refl, sym, ap, subst}
use Rattle.record_lines.specs.{declared.text.fault.LinesFault.TheVariants.Line, LineMachine.{HasTaken, RefusesText, RefusesRest}, Words.NoEnd}
use Rattle.record_lines.proofs.LineMachine.{handed_on, line_behind, more_kept, more_refused}
use Rattle.record_lines.proofs.text.line_machine.Pieces.feed.Goals as goal

pub loop-end-init : goal.loop-end-init
loop-end-init g c = record { no_end = c.requires; short = λ short. short; held = λ held. held; taken = λ start text h. (text, refl, h) }

pub returns-in_err-end_line-clause-refused : goal.returns-in_err-end_line-clause-refused
returns-in_err-end_line-clause-refused g c = λ start text n h e.
    let before = c.loop-end.invariant.taken start text h in
    let is : c.in_err-end_line.field-0.0 ≡ Line n = handed_on c.from_residual.result c.in_err-end_line.field-0.0 (Line n) c.from_residual.ensures.1 e in
    let bad = c.end_line.ensures.refused start before.0 c.in-Some.after.now n before.2 (c.in_err-end_line.was ∙ ap Err is) in
    inl (subst (λ (t : List ℕ). RefusesText g.L.TakesLines.takes g.L.TakesLines.refuses t start 1 n) (ap (λ r. before.0 ++ r) (sym c.in-Some.ensures.found.1) ∙ before.1) bad)

pub loop-end-preserved : goal.loop-end-preserved
loop-end-preserved g c = record {
  no_end = c.in_ok-end_line.ensures.no_end;
  short = λ short. c.in_ok-end_line.ensures.short (c.loop-end.invariant.short short);
  held = λ held. c.in_ok-end_line.ensures.held (c.loop-end.invariant.held held);
  taken = λ start text h.
      let before = c.loop-end.invariant.taken start text h in (
        before.0 ++ (c.in-Some.end.now ++ 10 ∷ []),
        line_behind before.0 c.loop-end.rest.now (text ++ c.args.piece.now) c.in-Some.end.now c.in-Some.after.now before.1 c.in-Some.ensures.found.1,
        c.in_ok-end_line.ensures.ok start before.0 before.2,
      );
}

pub returns-in-Ok-clause-ok : goal.returns-in-Ok-clause-ok
returns-in-Ok-clause-ok g c = λ start text h.
    let before = c.loop-end.invariant.taken start text h in
    let no_end : NoEnd c.loop-end.rest.now = search rules in
    subst (λ (t : List ℕ). HasTaken g.L.TakesLines.takes start t c.keep.new.self.lines c.keep.new.self.number c.keep.new.self.passing c.keep.new.self.pending.items) before.1
    (more_kept g.L.TakesLines.takes start before.0 c.loop-end.self.lines c.loop-end.self.number c.loop-end.self.passing c.loop-end.self.pending.items before.2 c.loop-end.rest.now c.keep.new.self.lines c.keep.new.self.number c.keep.new.self.passing c.keep.new.self.pending.items no_end c.keep.ensures.lines c.keep.ensures.number (c.in-Ok.ensures.ok before.2.unended before.2.kept))

pub returns-in-Err-clause-refused : goal.returns-in-Err-clause-refused
returns-in-Err-clause-refused g c = λ start text n h e.
    let before = c.loop-end.invariant.taken start text h in
    let no_end : NoEnd c.loop-end.rest.now = search rules in
    let at : c.fault_at.result ≡ Line n = cc in
    let reported = c.fault_at.ensures n at in
    let bad = more_refused g.L.TakesLines.takes g.L.TakesLines.refuses g.L.TakesLines.fits start before.0 c.loop-end.self.lines c.loop-end.self.number c.loop-end.self.passing c.loop-end.self.pending.items before.2 c.loop-end.rest.now no_end (c.keep.ensures.long before.2.unended before.2.kept (c.in-Err.is ∙ ap Err reported.0)) (c.keep.ensures.refused before.2.unended before.2.kept (c.in-Err.is ∙ ap Err reported.0)) in
    inr (subst (λ (t : List ℕ). RefusesRest g.L.TakesLines.takes g.L.TakesLines.refuses g.L.TakesLines.fits t start 1 n) before.1
    (subst (λ (m : ℕ). RefusesRest g.L.TakesLines.takes g.L.TakesLines.refuses g.L.TakesLines.fits (before.0 ++ c.loop-end.rest.now) start 1 m) (sym (reported.1 ∙ c.keep.ensures.number)) bad))

pub returns-in-Ok-clause-short : goal.returns-in-Ok-clause-short
returns-in-Ok-clause-short g c = λ short. c.in-Ok.ensures.short (c.loop-end.invariant.short short)

pub returns-in-Ok-clause-held : goal.returns-in-Ok-clause-held
returns-in-Ok-clause-held g c = λ held. c.in-Ok.ensures.held (c.loop-end.invariant.held held)
