use Rattle.std.proofs.Common.{sym, ap, refl, ◌∙◌, bytes_eq}
use Rattle.std.specs.List.{list_any}
use Rattle.custom_records.specs.{Settings.CustomSettings, CustomForm.new_object_at}
use Rattle.custom_records.proofs.custom_head.new_object_line.Goals as goal

pub returns-then-is_taken : goal.returns-then-is_taken
unfolding new_object_at
returns-then-is_taken c =
    let taken = ap (λ n. list_any (λ (e : CustomSettings). bytes_eq e.name n) c.args.others.now) (sym (c.as_bytes.ensures.value ∙ (c.deref.ensures.0 ∙ ap (λ (o : CustomSettings). o.name) c.object.view_is))) ∙ (sym c.is_taken.ensures ∙ c.if-is_taken.true) in
    rw (sym c.object_line.ensures ∙ c.in_ok-object.was, taken) refl

pub returns-else-is_taken : goal.returns-else-is_taken
unfolding new_object_at
returns-else-is_taken c =
    let free = ap (λ n. list_any (λ (e : CustomSettings). bytes_eq e.name n) c.args.others.now) (sym (c.as_bytes.ensures.value ∙ (c.deref.ensures.0 ∙ ap (λ (o : CustomSettings). o.name) c.object.view_is))) ∙ (sym c.is_taken.ensures ∙ c.if-is_taken.false) in
    rw (sym c.object_line.ensures ∙ c.in_ok-object.was, free) refl
