use Rattle.word_rule.proofs.{Fairness.goes_round, ScriptsEnd.{scripts_lem, steps_lem}}
use Rattle.word_rule.proofs.machine.machine_laws.scripts_end.Goals as goal

pub returns-clause-steps : goal.returns-clause-steps
returns-clause-steps g c = λ w o schedule more rounds. steps_lem g.O.SeqObject w o schedule more rounds

pub returns-clause-ends : goal.returns-clause-ends
returns-clause-ends g c = λ w o schedule more rounds. scripts_lem g.O.SeqObject w o schedule more rounds

pub returns-clause-rounds : goal.returns-clause-rounds
returns-clause-rounds g c = λ cpus times. goes_round cpus times
