use Rattle.steps.proofs.FormTaken.{asked, must_help}
use Rattle.steps.proofs.words_law.forms_are_asked.Goals as goal

pub returns-clause-each : goal.returns-clause-each
returns-clause-each c = asked

pub returns-clause-help : goal.returns-clause-help
returns-clause-help c = must_help
