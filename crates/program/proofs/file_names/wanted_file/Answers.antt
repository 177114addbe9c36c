use Rattle.std.proofs.Common.{Some}
use Rattle.program.proofs.Refused.{always}
use Rattle.program.proofs.file_names.wanted_file.Goals as goal

pub returns-in_err-name-clause-refused : goal.returns-in_err-name-clause-refused
returns-in_err-name-clause-refused c = always _ c.from_residual.result (λ name h. c.in_err-name.ensures.refused (Some name) h)
