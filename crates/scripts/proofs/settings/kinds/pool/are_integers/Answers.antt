use Rattle.std.proofs.{Common.{rules, tests, ◌∙◌}, lemmas.Iterator.YieldsList-from_slice, lemmas.Iterator.Search.all_from_yields_List}
use Rattle.scripts.proofs.SettingsTables.{is_integer, integers_all}
use Rattle.scripts.proofs.settings.kinds.pool.are_integers.Goals as goal

pub returns : goal.returns
returns c = all_from_yields_List is_integer _ _ c.all.result c.all.ensures.ran (YieldsList-from_slice c.args.values.now cc) (λ x b q k. search (rules, tests)) ∙ integers_all c.args.values.now
