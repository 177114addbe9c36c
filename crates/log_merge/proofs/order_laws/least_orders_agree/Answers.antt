use Rattle.log_merge.proofs.OneOrder.{orders_agree}
use Rattle.log_merge.proofs.order_laws.least_orders_agree.Goals as goal

pub returns : goal.returns
returns g c = λ run a b first second. orders_agree run a b first second
