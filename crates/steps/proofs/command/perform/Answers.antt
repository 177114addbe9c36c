use Rattle.std.proofs.Common.{inl, refl}
use Rattle.program.proofs.Refused.{refused}
use Rattle.steps.proofs.command.perform.Goals as goal

pub returns-in_err-text-clause-refused : goal.returns-in_err-text-clause-refused
returns-in_err-text-clause-refused g c = refused _ c.from_residual.result _ c.from_residual.ensures.1 (inl (c.in_err-text.ensures.refused, refl))
