use Rattle.std.proofs.Common.{sym, ap, ◌∙◌}
use Rattle.std.specs.Option.{option_map}
use Rattle.record_lines.proofs.Readings.{if_some}
use Rattle.scripts.proofs.RequestLaws.{request_takes, request_again}
use Rattle.scripts.proofs.script.request_line.request.Goals as goal

pub returns-clause-found : goal.returns-clause-found
returns-clause-found c = if_some _ c.read.result (λ r e. request_takes c.args.settings.now c.read.ensures.fit c.args.line.now _ (sym c.read.ensures.value ∙ ap (option_map _) e))

pub returns-clause-only : goal.returns-clause-only
returns-clause-only c = λ r asked. c.read.ensures.value ∙ request_again c.args.settings.now c.read.ensures.fit c.args.line.now r asked
