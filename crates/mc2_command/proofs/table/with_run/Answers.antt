use Rattle.std.proofs.{Common.{◌≡◌, ◌∙◌, ap, ap₂, codes, rules}, lemmas.Result.IfOk-weaker}
use Rattle.clap.specs.Words.{App, app_of, rule_of, with_rule, with_subcommand}
use Rattle.mc2_command.specs.Forms.{option, place}
use Rattle.mc2_command.proofs.table.with_run.Goals as goal

pub returns : goal.returns
returns c =
    let scripts : rule_of c.file_at.result ≡ place (codes "scripts") = search rules in
    let first : app_of c.in_ok-arg.field-0 ≡ with_rule (app_of c.plain.result) option = c.in_ok-arg.ensures.shape c.settings_option.ensures.local ∙ ap (with_rule (app_of c.plain.result)) c.settings_option.ensures.rule in
    let both : app_of c.in_ok-below.below ≡ with_rule (with_rule (app_of c.plain.result) option) (place (codes "scripts")) = c.in_ok-below.ensures.shape c.file_at.ensures.local ∙ ap₂ with_rule first scripts in
    let whole = both ∙ ap (λ (a : App). with_rule (with_rule a option) (place (codes "scripts"))) c.plain.ensures.app in
    IfOk-weaker c.with_form.result _ _ (λ m h. h ∙ ap (λ (a : App). with_subcommand (app_of c.args.above) a.top) whole) c.with_form.ensures
