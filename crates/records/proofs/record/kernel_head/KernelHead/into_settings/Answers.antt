use Rattle.std.proofs.Common.{List, sym, ap, ◌∙◌, subst}
use Rattle.records.specs.{KernelForm.{HeadFits, settings_in}, Settings.{ObjectSettings, SettingsFit}}
use Rattle.records.proofs.Forms.{settings_in_written}
use Rattle.records.proofs.record.kernel_head.KernelHead.into_settings.Goals as goal

pub new-requires : goal.new-requires
new-requires c =
    let h = c.self.inside in
    let fit = subst HeadFits (sym c.self.view_is) c.requires in
    subst (λ (os : List ObjectSettings). SettingsFit (record { cpus = h.cpus; objects = os })) (sym c.from_vec.ensures) (settings_in_written h.form (record { cpus = h.cpus; objects = h.objects.items }) fit.settings)

pub returns : goal.returns
returns c = c.new.ensures ∙ (ap (λ (os : List ObjectSettings). record { cpus = c.self.inside.cpus; objects = os }) c.from_vec.ensures ∙ ap settings_in c.self.view_is)
