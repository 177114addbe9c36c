use Rattle.std.proofs.Common.{◌∙◌, ap, inr, refl, sym, subst}
use Rattle.log_merge.specs.CycleText.{cycle_text}
use Rattle.mc2_command.specs.Refused.{IsNoOrder}
use Rattle.mc2_command.specs.declared.fault.CommandFault.TheVariants as fault
use Rattle.mc2_command.proofs.answers.no_order.Goals as goal

pub returns-in-Ok : goal.returns-in-Ok
returns-in-Ok c =
    subst (λ cause. IsNoOrder c.args.settings.now cause (fault.Unsound c.in-Ok.text)) (sym c.in-Unsound.is) (inr (c.in-Ok.text, refl, c.in-Ok.ensures))

pub returns-in-Ok-cycle_text : goal.returns-in-Ok-cycle_text
returns-in-Ok-cycle_text c =
    subst (λ cause. IsNoOrder c.args.settings.now cause (fault.Cycle c.in-Ok-cycle_text.text)) (sym c.in-Cycle.is) (inr (c.in-Ok-cycle_text.text, refl, c.in-Ok-cycle_text.ensures ∙ ap cycle_text c.as_slice.ensures))
