use Rattle.std.proofs.{Common.{◌≡◌, ◌∙◌, [], true, ap₂, codes, rules}, lemmas.Result.IfOk-weaker}
use Rattle.clap.specs.{Simple.new_shape, Words.{app_of, with_rule}}
use Rattle.steps.proofs.form.form.Goals as goal

pub returns : goal.returns
returns c =
    let bare : app_of c.no_binary_name.result ≡ record { top = record (new_shape (codes "steps")) { has_version = true; no_binary_name = true }; subs = [] } = search rules in
    let one = c.in_ok-arg.ensures.shape c.settings.ensures.local ∙ ap₂ with_rule bare c.settings.ensures.rule in
    let two = c.in_ok-arg-2.ensures.shape c.file_at.ensures.local ∙ ap₂ with_rule one c.file_at.ensures.rule in
    IfOk-weaker c.arg-3.result _ _ (λ m h. h.shape c.file_at-2.ensures.local ∙ ap₂ with_rule two c.file_at-2.ensures.rule) c.arg-3.ensures
