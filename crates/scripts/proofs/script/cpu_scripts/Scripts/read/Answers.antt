use Rattle.std.proofs.Common.{[], Err, ap, ◌∙◌}
use Rattle.scripts.specs.ScriptFaults.{TakesScriptLine}
use Rattle.record_lines.proofs.LineMachine.{pending_no_end}
use Rattle.scripts.proofs.ScriptTexts.{has_read, text_is_bad, refusal_names, no_scripts, fit_by}
use Rattle.scripts.proofs.script.cpu_scripts.Scripts.read.Goals as goal

pub feed-requires : goal.feed-requires
feed-requires c = pending_no_end TakesScriptLine c.in_ok-lists.lists [] _ _ _ _ c.new-pieces.ensures.taken

pub returns-in_err-feed-clause-fault : goal.returns-in_err-feed-clause-fault
returns-in_err-feed-clause-fault c =
    refusal_names c.args.settings.now c.args.text.now c.in_err-feed.field-0.0 c.from_residual-in_err-feed.result c.from_residual-in_err-feed.ensures.1
    (λ m e. text_is_bad c.args.settings.now c.args.text.now c.in_ok-lists.lists m c.in_ok-lists.ensures.lists (c.feed.ensures.refused c.in_ok-lists.lists [] m c.new-pieces.ensures.taken (c.in_err-feed.was ∙ ap Err e)))

pub returns-in_err-feed-clause-no_scripts : goal.returns-in_err-feed-clause-no_scripts
returns-in_err-feed-clause-no_scripts c =
    no_scripts c.args.settings.now c.args.text.now c.from_residual-in_err-feed.result c.in_ok-lists.ensures.fit
    (refusal_names c.args.settings.now c.args.text.now c.in_err-feed.field-0.0 c.from_residual-in_err-feed.result c.from_residual-in_err-feed.ensures.1
    (λ m e. text_is_bad c.args.settings.now c.args.text.now c.in_ok-lists.lists m c.in_ok-lists.ensures.lists (c.feed.ensures.refused c.in_ok-lists.lists [] m c.new-pieces.ensures.taken (c.in_err-feed.was ∙ ap Err e))))

pub whole_scripts-requires : goal.whole_scripts-requires
whole_scripts-requires c = (c.args.settings.now, c.args.text.now, has_read c.args.settings.now c.args.text.now c.in_ok-lists.lists _ _ _ _ c.in_ok-lists.ensures.lists (c.in_ok-feed.ensures.ok c.in_ok-lists.lists [] c.new-pieces.ensures.taken))

pub returns-clause-found : goal.returns-clause-found
returns-clause-found c = c.whole_scripts.ensures.found c.args.settings.now c.args.text.now (has_read c.args.settings.now c.args.text.now c.in_ok-lists.lists _ _ _ _ c.in_ok-lists.ensures.lists (c.in_ok-feed.ensures.ok c.in_ok-lists.lists [] c.new-pieces.ensures.taken))

pub returns-clause-fit : goal.returns-clause-fit
returns-clause-fit c = fit_by c.args.settings.now c.args.text.now c.whole_scripts.result (c.whole_scripts.ensures.found c.args.settings.now c.args.text.now (has_read c.args.settings.now c.args.text.now c.in_ok-lists.lists _ _ _ _ c.in_ok-lists.ensures.lists (c.in_ok-feed.ensures.ok c.in_ok-lists.lists [] c.new-pieces.ensures.taken)))

pub returns-clause-fault : goal.returns-clause-fault
returns-clause-fault c = c.whole_scripts.ensures.fault c.args.settings.now c.args.text.now (has_read c.args.settings.now c.args.text.now c.in_ok-lists.lists _ _ _ _ c.in_ok-lists.ensures.lists (c.in_ok-feed.ensures.ok c.in_ok-lists.lists [] c.new-pieces.ensures.taken))

pub returns-clause-no_scripts : goal.returns-clause-no_scripts
returns-clause-no_scripts c =
    no_scripts c.args.settings.now c.args.text.now c.whole_scripts.result c.in_ok-lists.ensures.fit
    (c.whole_scripts.ensures.fault c.args.settings.now c.args.text.now (has_read c.args.settings.now c.args.text.now c.in_ok-lists.lists _ _ _ _ c.in_ok-lists.ensures.lists (c.in_ok-feed.ensures.ok c.in_ok-lists.lists [] c.new-pieces.ensures.taken)))
