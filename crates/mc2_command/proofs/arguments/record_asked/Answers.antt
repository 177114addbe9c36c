use Rattle.clap.specs.Words.{found_of, rows_of}
use Rattle.program.proofs.Refused.{always}
use Rattle.mc2_command.proofs.Files.{no_record}
use Rattle.mc2_command.proofs.arguments.record_asked.Goals as goal

pub returns-in_err-record-clause-refused : goal.returns-in_err-record-clause-refused
returns-in_err-record-clause-refused c = always _ c.from_residual.result (no_record (rows_of (found_of c.args.found.now)) c.args.command.now c.requires.run c.requires.sim c.in_err-record.ensures.refused)
