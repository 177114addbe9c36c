use mathlib.Core.Logic.{⊎_elim}
use Rattle.std.proofs.Common.{◌∙◌, inr, sym}
use Rattle.mc2_command.proofs.Answered.{found_by, no_write, no_write_two}
use Rattle.mc2_command.proofs.commands.command.Goals as goal

pub returns-in-Err-clause-found : goal.returns-in-Err-clause-found
returns-in-Err-clause-found g c =
    let f = c.in-Err.fault in
    ⊎_elim
    (λ h one. inr (h.1, found_by (g.I.Inputs.held c.args.inputs.now) c.args.words.now f c.refuse.result c.refuse.ensures h.0 one))
    (λ h one. absurd (no_write f c.refuse.result c.refuse.ensures h.0 one))
    c.in-Err.ensures.refused

pub returns-in-Err-clause-refused : goal.returns-in-Err-clause-refused
returns-in-Err-clause-refused g c two =
    let f = c.in-Err.fault in
    ⊎_elim
    (λ h. (f, sym c.refuse.ensures ∙ two, h.0))
    (λ h. absurd (no_write_two f c.refuse.result c.refuse.ensures h.0 two))
    c.in-Err.ensures.refused
