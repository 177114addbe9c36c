use Rattle.clap.specs.Words.{found_of, rows_of}
use Rattle.program.proofs.Refused.{always}
use Rattle.mc2_command.proofs.Files.{no_run}
use Rattle.mc2_command.proofs.arguments.run_asked.Goals as goal

pub returns-in_err-settings-clause-refused : goal.returns-in_err-settings-clause-refused
returns-in_err-settings-clause-refused c = always _ c.from_residual.result (no_run (rows_of (found_of c.args.found.now)) (λ s t h k. c.in_err-settings.ensures.refused s h))

pub returns-in_err-scripts-clause-refused : goal.returns-in_err-scripts-clause-refused
returns-in_err-scripts-clause-refused c = always _ c.from_residual-in_err-scripts.result (no_run (rows_of (found_of c.args.found.now)) (λ s t h k. c.in_err-scripts.ensures.refused t k))
