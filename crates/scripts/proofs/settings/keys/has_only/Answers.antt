use Rattle.std.proofs.Common.{◌∙◌, ap, sym}
use Rattle.scripts.proofs.SettingsTables.{all_keys, each_key, key_then, key_fails}
use Rattle.scripts.proofs.settings.keys.has_only.Goals as goal

pub loop-name-init : goal.loop-name-init
loop-name-init c = each_key c.args.keys.now c.args.table.now.entries ∙ ap (all_keys c.args.keys.now) (sym (c.into_iter-name-iterator.ensures.into_iter_gives ∙ c.keys-name-items.ensures.rest))

pub returns-then-not-is_one_of : goal.returns-then-not-is_one_of
returns-then-not-is_one_of c = sym (c.loop-name.invariant ∙ key_fails c.args.keys.now c.loop-name.name-iterator c.next.new.self c.in-Some.name.now c.as_str.result.now c.in-Some.ensures.steps c.as_str.ensures.value (sym c.is_one_of.ensures ∙ c.if-not-is_one_of.true))

pub loop-name-preserved : goal.loop-name-preserved
loop-name-preserved c = c.loop-name.invariant ∙ key_then c.args.keys.now c.loop-name.name-iterator c.next.new.self c.in-Some.name.now c.as_str.result.now c.in-Some.ensures.steps c.as_str.ensures.value (sym c.is_one_of.ensures ∙ c.if-not-is_one_of.false)

pub returns : goal.returns
returns c = sym (c.loop-name.invariant ∙ ap (all_keys c.args.keys.now) c.in-None.ensures.steps.0)
