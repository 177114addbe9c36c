use Rattle.std.proofs.Common.{Err, ap, ◌∙◌, subst}
use Rattle.record_lines.specs.Pieces.{HasFed}
use Rattle.scripts.specs.ScriptFaults.{ScriptState, TakesScriptLine}
use Rattle.scripts.proofs.{ScriptLines.scripts_fit, ScriptSources.{read_refused, end_refused}}
use Rattle.scripts.proofs.script.cpu_scripts.Scripts.read_from.Goals as goal

pub returns-in_err-feed_all-clause-fault : goal.returns-in_err-feed_all-clause-fault
returns-in_err-feed_all-clause-fault g c =
    read_refused c.args.settings.now _ _ c.new-pieces.result c.in_err-feed_all.field-0.0 c.from_residual-in_err-feed_all.result c.from_residual-in_err-feed_all.ensures.1 (c.new-pieces.ensures.lines ∙ c.in_ok-lists.ensures.lists)
    (λ f e. c.feed_all.ensures.refused f (c.in_err-feed_all.was ∙ ap Err e))

pub returns-in_err-whole_scripts-clause-fault : goal.returns-in_err-whole_scripts-clause-fault
returns-in_err-whole_scripts-clause-fault g c =
    let t = c.in_ok-feed_all.ensures.taken in
    let read = subst (λ (s : ScriptState). HasFed TakesScriptLine s t.0 c.feed_all.new.reader) (c.new-pieces.ensures.lines ∙ c.in_ok-lists.ensures.lists) t.2.0 in
    end_refused c.args.settings.now _ t.0 c.in_err-whole_scripts.field-0.0 c.from_residual-in_err-whole_scripts.result c.from_residual-in_err-whole_scripts.ensures.1 t.1
    (c.in_err-whole_scripts.ensures.fault c.args.settings.now t.0 read)

pub returns-clause-fit : goal.returns-clause-fit
returns-clause-fit g c =
    let t = c.in_ok-feed_all.ensures.taken in
    let read = subst (λ (s : ScriptState). HasFed TakesScriptLine s t.0 c.feed_all.new.reader) (c.new-pieces.ensures.lines ∙ c.in_ok-lists.ensures.lists) t.2.0 in
    scripts_fit c.args.settings.now t.0 _ (c.in_ok-whole_scripts.ensures.found c.args.settings.now t.0 read)
