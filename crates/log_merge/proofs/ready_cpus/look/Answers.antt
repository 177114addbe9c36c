use Rattle.log_merge.proofs.Placing.{not_next_of}
use Rattle.log_merge.proofs.ready_cpus.look.Goals as goal

pub returns-in-Comes-clause-right : goal.returns-in-Comes-clause-right
returns-in-Comes-clause-right g c = (λ flag. c.in-Comes.ensures, λ can. c.set.ensures.set)

pub returns-in_default-clause-right : goal.returns-in_default-clause-right
returns-in_default-clause-right g c = (
  λ flag. absurd (c.clear.ensures.cleared flag),
  λ can. absurd (not_next_of (g.S.RunShape.run c.args.shape.now) c.args.at.now c.args.placed.now c.args.cpu c.next_of.result c.next_of.ensures c.in_default.not-Comes can),
)
