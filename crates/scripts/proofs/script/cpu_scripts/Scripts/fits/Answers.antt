use Rattle.std.proofs.{Common.{◌≡◌, ◌∙◌, sym, ap, length, nat_lt}, lemmas.List.length-map, lemmas.List.Folds.list_all-map}
use Rattle.std.specs.List.{list_all}
use Rattle.scripts.proofs.ScriptRanges.{scripts_fit, scripts_on}
use Rattle.scripts.proofs.script.cpu_scripts.Scripts.fits.Goals as goal

pub returns-then-lists-cpus : goal.returns-then-lists-cpus
returns-then-lists-cpus c =
    let n = length c.args.settings.now.objects in
    let on : c.are_on.result ≡ list_all (λ s. list_all (λ t. nat_lt t.object n) s) c.args.self.now =
    c.are_on.ensures ∙ (ap (λ os. list_all (λ l. list_all (λ t. nat_lt t.object (length os)) l.items) c.lists-then-lists-cpus.result.now) c.objects-objects.ensures.objects
    ∙ (sym (list_all-map (λ s. list_all (λ t. nat_lt t.object n) s) (λ l. l.items) c.lists-then-lists-cpus.result.now)
    ∙ ap (list_all (λ s. list_all (λ t. nat_lt t.object n) s)) c.lists-then-lists-cpus.ensures.lists)) in
    let count : length c.args.self.now ≡ c.args.settings.now.cpus = sym (ap length c.lists.ensures.lists) ∙ (length-map c.lists.result.now (λ l. l.items) ∙ (c.if-lists-cpus.true ∙ c.cpus.ensures.cpus)) in
    (λ yes. (count, scripts_fit n _ c.args.self.now c.lists.ensures.within.1 (sym on ∙ yes)), λ fit. on ∙ scripts_on n c.args.self.now fit.1)
