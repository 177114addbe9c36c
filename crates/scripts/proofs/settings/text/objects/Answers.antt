use Rattle.std.proofs.{Common.{◌≤◌, ◌+◌, ◌∷◌, [], ◌∙◌, sym, ap, length, length-append, drop, arith}, lemmas.List.drop_all}
use Rattle.toml.specs.View.{view, items_view}
use Rattle.scripts.specs.SettingsText.{object_from, objects_from}
use Rattle.scripts.proofs.SettingsTables.{item_there, objects_more, objects_none, objects_end, refused_map}
use Rattle.scripts.proofs.settings.text.objects.Goals as goal

pub returns-in_err-object : goal.returns-in_err-object
returns-in_err-object c =
    let here = item_there c.args.values.now c.loop-value.value-index c.value-item.result c.loop-value-test.true c.value-item.is in
    let failed = ap (λ os. object_from os (view c.value-item.result)) (sym c.as_slice.ensures.value) ∙ sym c.object.ensures ∙ c.in_err-object.was in
    refused_map (λ v. v.items) c.from_residual.result c.in_err-object.field-0.0 (objects_from [] (items_view c.args.values.now)) c.from_residual.ensures.1
    (c.loop-value.invariant.reads ∙ (ap (objects_from c.loop-value.objects.items) here ∙ objects_none c.loop-value.objects.items (view c.value-item.result) (items_view (drop (c.loop-value.value-index + 1) c.args.values.now)) c.in_err-object.field-0.0 failed))

pub loop-value-preserved : goal.loop-value-preserved
loop-value-preserved c =
    let here = item_there c.args.values.now c.loop-value.value-index c.value-item.result c.loop-value-test.true c.value-item.is in
    let read = ap (λ os. object_from os (view c.value-item.result)) (sym c.as_slice.ensures.value) ∙ sym c.object.ensures ∙ c.in_ok-object.was in
    record {
      count = omega (arith, ap length c.in-Ok.ensures.items, length-append c.loop-value.objects.items (c.in_ok-object.object ∷ []), c.loop-value.invariant.count);
      reads = c.loop-value.invariant.reads ∙ (ap (objects_from c.loop-value.objects.items) here
          ∙ (objects_more c.loop-value.objects.items (view c.value-item.result) (items_view (drop (c.loop-value.value-index + 1) c.args.values.now)) c.in_ok-object.object read
          ∙ ap (λ os. objects_from os (items_view (drop (c.loop-value.value-index + 1) c.args.values.now))) (sym c.in-Ok.ensures.items)));
    }

pub returns : goal.returns
returns c =
    let last : length c.args.values.now ≤ c.loop-value.value-index = omega (arith, c.loop-value-test.false) in
    c.loop-value.invariant.reads ∙ (ap (λ vs. objects_from c.loop-value.objects.items (items_view vs)) (drop_all c.loop-value.value-index c.args.values.now last) ∙ objects_end c.loop-value.objects.items)
