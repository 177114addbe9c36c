use Rattle.std.proofs.Common.{inl, inr}
use Rattle.program.proofs.shell.start.Goals as goal

pub returns-in-Ok : goal.returns-in-Ok
returns-in-Ok g c = inl (_, _, c.command.ensures)

pub returns-in-Err : goal.returns-in-Err
returns-in-Err g c = inr (_, c.in-Err.ensures.refused, _, _, c.refuse.ensures)
