use Rattle.mc2_command.proofs.FormsTaken.{asks}
use Rattle.mc2_command.proofs.sim_laws.forms_are_asked.Goals as goal

pub returns : goal.returns
returns c = asks
