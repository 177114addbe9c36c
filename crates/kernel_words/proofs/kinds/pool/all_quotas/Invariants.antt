use Rattle.std.proofs.Common.{◌≡◌, take, drop, replicate, length}
use Rattle.page_pool.specs.declared.params.TheConstants.{MOST_PAGES, OWNERS}
use Rattle.record_lines.specs.Reading.{left}
use Rattle.kernel_words.specs.{Kinds.Pool.all_quotas_at, Row.up_to}
use Rattle.kernel_words.proofs.Lookups.{behind}
use Rattle.kernel_words.proofs.kinds.pool.all_quotas.Given as goal

abbrev pub invariant-loop-place : goal.invariant-loop-place
invariant-loop-place l = record {
  count : length l.quotas ≡ OWNERS;
  reads : all_quotas_at (left l.fn.at) ≡ behind (take l.place l.quotas) (drop l.place (replicate OWNERS (up_to MOST_PAGES 0))) (left l.left);
}
