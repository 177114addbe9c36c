use Rattle.std.proofs.Common.{◌≡◌, ◌++◌, ℕ, List, true, false, subst}
use Rattle.std.specs.Bool.{IsTrue}
use Rattle.record_lines.specs.LineMachine.{IsShort}
use Rattle.record_lines.proofs.LineMachine.{goes_on_passing, begins_passing, busy_with}
use Rattle.record_lines.proofs.text.line_machine.Pieces.keep.Goals as goal

pub returns-then-self-clause-ok : goal.returns-then-self-clause-ok
returns-then-self-clause-ok g c = λ unended kept. goes_on_passing g.L.TakesLines.takes c.args.self.now.lines unended c.args.self.now.passing c.args.self.now.pending.items kept c.args.bytes.now c.if-self.true

pub returns-then-begins_passing-clause-ok : goal.returns-then-begins_passing-clause-ok
returns-then-begins_passing-clause-ok g c = λ unended kept.
    let begins = c.begins_passing.ensures.begins c.if-begins_passing.true in
    begins_passing g.L.TakesLines.takes c.args.self.now.lines unended c.args.self.now.passing c.args.self.now.pending.items kept c.args.bytes.now c.if-self.false begins.0 begins.1

pub returns-clause-long : goal.returns-clause-long
returns-clause-long g c = λ unended kept e. subst (λ (u : List ℕ). IsShort g.L.TakesLines.fits (u ++ c.args.bytes.now) → ⊥) (kept.whole c.if-self.false) (c.put.ensures.long e)

pub returns-clause-refused : goal.returns-clause-refused
returns-clause-refused g c = λ unended kept e more.
    subst (λ (u : List ℕ). g.L.TakesLines.refuses ((u ++ c.args.bytes.now) ++ more) c.args.self.now.lines) (kept.whole c.if-self.false) (c.put.ensures.refused e more)

pub returns-clause-held : goal.returns-clause-held
returns-clause-held g c = λ held.
    c.put.ensures.held (busy_with g.L.TakesLines.takes c.args.self.now.lines c.args.self.now.pending.items c.args.bytes.now held (λ none idle.
    let both : false ≡ true = subst IsTrue c.if-begins_passing.false (c.begins_passing.ensures.exactly.1 (none, idle)) in absurd cc))
