use Rattle.word_rule.proofs.{EventOrder.{events_begin, events_end}, RunOrder.ends_in_order}
use Rattle.word_rule.proofs.order_law.events_in_order.Goals as goal

pub returns-clause-holds : goal.returns-clause-holds
returns-clause-holds g c = ends_in_order

pub returns-clause-events : goal.returns-clause-events
returns-clause-events g c = λ h log run script rest ran all fits. events_begin g.O.SeqObject h log run script rest ran all fits

pub returns-clause-all_events : goal.returns-clause-all_events
returns-clause-all_events g c = λ h log run script rest ran all room. events_end g.O.SeqObject h log run script rest ran all room
