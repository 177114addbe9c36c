use Rattle.std.proofs.Common.{◌≡◌, length, take, drop}
use Rattle.toml.specs.View.{items_view}
use Rattle.page_pool.specs.declared.params.TheConstants.{OWNERS}
use Rattle.scripts.specs.KindKeys.Pool.{each_quota}
use Rattle.scripts.proofs.SettingsTables.{quotas_behind}
use Rattle.scripts.proofs.settings.kinds.pool.each_quota.Given as goal

abbrev pub invariant-loop-owner : goal.invariant-loop-owner
invariant-loop-owner l = record {
  count : length l.quotas ≡ OWNERS;
  reads : each_quota (items_view l.values) ≡ quotas_behind (take l.owner l.quotas) (items_view (drop l.owner l.values));
}
