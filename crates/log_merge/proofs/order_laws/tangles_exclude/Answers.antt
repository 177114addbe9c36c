use Rattle.log_merge.proofs.{Exclusion.tangle_excludes, Rows.crossed_is_tangle}
use Rattle.log_merge.proofs.order_laws.tangles_exclude.Goals as goal

pub returns : goal.returns
returns g c = let row = crossed_is_tangle in λ run cycle list t o. tangle_excludes run cycle t list o
