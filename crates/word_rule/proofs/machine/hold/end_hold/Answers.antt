use Rattle.std.proofs.Common.{ap, ◌≡◌, ◌∙◌, subst, IfOk, List}
use Rattle.event_log.specs.{Log.answers, declared.event.Step.Step}
use Rattle.word_rule.proofs.Outcomes.{outcome_is}
use Rattle.word_rule.proofs.machine.hold.end_hold.Goals as goal

pub returns-clause-done : goal.returns-clause-done
returns-clause-done g c =
    let asked = ap (λ cs. answers g.O.SeqObject c.args.logged.now.state cs) c.as_slice.ensures.value ∙ ap (λ s. answers g.O.SeqObject s c.args.todo.now.calls.items) c.requires.kept.replayed in
    let replies : List (Step g.row.O.Denot g.row.O-Params.Denot g.row.O-Call.Denot g.row.O-Reply.Denot) → Type 0 = λ l. IfOk c.apply.result (λ s. s.list.items ≡ l) in
    outcome_is g.O.SeqObject _ c.args.logged.now.log c.args.todo.now.calls.items c.apply.result c.from.result c.from.ensures c.apply.ensures.room (subst replies asked c.apply.ensures.steps)
