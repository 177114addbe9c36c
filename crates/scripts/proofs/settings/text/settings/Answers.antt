use Rattle.std.proofs.Common.{[], ◌∙◌, sym, ap, subst, Ok}
use Rattle.toml.specs.View.{table_view, items_view}
use Rattle.record_lines.specs.Then.{ok_map}
use Rattle.scripts.specs.SettingsText.{settings_in, objects_from}
use Rattle.scripts.proofs.{SettingsTables.{refused, passed, settles_first, if_refused, if_passed}, SettingsFits.settings_fit}
use Rattle.records.specs.Settings.{SettingsFit}
use Rattle.scripts.proofs.settings.text.settings.Goals as goal

pub returns-in_err-cpus : goal.returns-in_err-cpus
unfolding settings_in
returns-in_err-cpus c =
    let failed = sym c.number_of.ensures.value ∙ c.in_err-cpus.was in
    refused c.from_residual.result c.in_err-cpus.field-0.0 (settings_in (table_view c.args.table.now)) c.from_residual.ensures.1 (rw failed)

pub returns-in_err-items_of : goal.returns-in_err-items_of
unfolding settings_in
returns-in_err-items_of c =
    let cpus = sym c.number_of.ensures.value ∙ c.in_ok-cpus.was in
    let failed = sym c.items_of.ensures.items ∙ ap (ok_map (λ v. items_view v.now)) c.in_err-items_of.was in
    refused c.from_residual-in_err-items_of.result c.in_err-items_of.field-0.0 (settings_in (table_view c.args.table.now)) c.from_residual-in_err-items_of.ensures.1 (rw (cpus, failed))

pub returns-in_err-objects : goal.returns-in_err-objects
unfolding settings_in
returns-in_err-objects c =
    let cpus = sym c.number_of.ensures.value ∙ c.in_ok-cpus.was in
    let items = sym c.items_of.ensures.items ∙ ap (ok_map (λ v. items_view v.now)) c.in_ok-items_of.was in
    let fault = rw c.in_err-objects.was at c.objects.ensures in
    passed c.from_residual-in_err-objects.result c.in_err-objects.field-0.0 (settings_in (table_view c.args.table.now)) c.from_residual-in_err-objects.ensures.1 (rw (cpus, items) (settles_first c.in_err-objects.field-0.0 (objects_from [] (items_view c.in_ok-items_of.field-0.now)) _ fault))

pub returns-in_err-refuse_others : goal.returns-in_err-refuse_others
unfolding settings_in
returns-in_err-refuse_others c =
    let cpus = sym c.number_of.ensures.value ∙ c.in_ok-cpus.was in
    let items = sym c.items_of.ensures.items ∙ ap (ok_map (λ v. items_view v.now)) c.in_ok-items_of.was in
    let objects = rw c.in_ok-objects.was at c.objects.ensures in
    let failed = if_refused _ tt _ _ _ (sym c.refuse_others.ensures ∙ c.in_err-refuse_others.was) in
    refused c.from_residual-in_err-refuse_others.result c.in_err-refuse_others.field-0.0 (settings_in (table_view c.args.table.now)) c.from_residual-in_err-refuse_others.ensures.1 (rw (cpus, items, objects) failed)

pub new-requires : goal.new-requires
unfolding settings_in
new-requires c =
    let cpus = sym c.number_of.ensures.value ∙ c.in_ok-cpus.was in
    let items = sym c.items_of.ensures.items ∙ ap (ok_map (λ v. items_view v.now)) c.in_ok-items_of.was in
    let objects = rw c.in_ok-objects.was at c.objects.ensures in
    let passes = if_passed _ tt _ _ _ (sym c.refuse_others.ensures ∙ c.in_ok-refuse_others.was) in
    let list = ap (λ os. record { cpus = c.in_ok-cpus.cpus; objects = os }) c.from_vec.ensures in
    subst SettingsFit (sym list) (settings_fit (table_view c.args.table.now) _ (rw (cpus, items, objects) passes))

pub returns : goal.returns
unfolding settings_in
returns c =
    let cpus = sym c.number_of.ensures.value ∙ c.in_ok-cpus.was in
    let items = sym c.items_of.ensures.items ∙ ap (ok_map (λ v. items_view v.now)) c.in_ok-items_of.was in
    let objects = rw c.in_ok-objects.was at c.objects.ensures in
    let passes = if_passed _ tt _ _ _ (sym c.refuse_others.ensures ∙ c.in_ok-refuse_others.was) in
    let list = ap (λ os. record { cpus = c.in_ok-cpus.cpus; objects = os }) c.from_vec.ensures in
    rw (cpus, items, objects) (passes ∙ ap Ok (sym (c.new.ensures ∙ list)))
