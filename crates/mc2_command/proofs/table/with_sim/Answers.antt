use Rattle.std.proofs.{Common.{◌≡◌, ◌∙◌, ap, ap₂, codes, rules}, lemmas.Result.IfOk-weaker}
use Rattle.clap.specs.Words.{App, app_of, rule_of, with_rule, with_subcommand}
use Rattle.mc2_command.specs.Forms.{needed, option, place}
use Rattle.mc2_command.proofs.table.with_sim.Goals as goal

pub returns : goal.returns
returns c =
    let settings : rule_of c.required.result ≡ needed option = search rules in
    let scripts : rule_of c.required-2.result ≡ needed (place (codes "scripts")) = search rules in
    let schedule : rule_of c.required-3.result ≡ needed (place (codes "schedule")) = search rules in
    let first : app_of c.in_ok-arg.field-0 ≡ with_rule (app_of c.plain.result) (needed option) = c.in_ok-arg.ensures.shape (search rules) ∙ ap (with_rule (app_of c.plain.result)) settings in
    let two : app_of c.in_ok-arg-2.field-0 ≡ with_rule (with_rule (app_of c.plain.result) (needed option)) (needed (place (codes "scripts"))) = c.in_ok-arg-2.ensures.shape (search rules) ∙ ap₂ with_rule first scripts in
    let all : app_of c.in_ok-below.below ≡ with_rule (with_rule (with_rule (app_of c.plain.result) (needed option)) (needed (place (codes "scripts")))) (needed (place (codes "schedule"))) = c.in_ok-below.ensures.shape (search rules) ∙ ap₂ with_rule two schedule in
    let whole = all ∙ ap (λ (a : App). with_rule (with_rule (with_rule a (needed option)) (needed (place (codes "scripts")))) (needed (place (codes "schedule")))) c.plain.ensures.app in
    IfOk-weaker c.with_form.result _ _ (λ m h. h ∙ ap (λ (a : App). with_subcommand (app_of c.args.above) a.top) whole) c.with_form.ensures
