use Rattle.word_rule.proofs.{Known.caller_known, Ticket.Served.{serves_next, shows_word}}
use Rattle.word_rule.proofs.lock_law.shows_run.Goals as goal

pub returns-clause-made : goal.returns-clause-made
returns-clause-made g c = λ h s r. r.made.erased

pub returns-clause-served : goal.returns-clause-served
returns-clause-served g c = λ h s r kind. serves_next g.O.SeqObject h.kind h s r kind

pub returns-clause-words : goal.returns-clause-words
returns-clause-words g c = λ h s r kind. shows_word g.O.SeqObject h s r kind

pub returns-clause-seen : goal.returns-clause-seen
returns-clause-seen g c = λ h s r j k v x there mine. let m = caller_known h r.state j k v x (r.each j v there) mine in m.extends
