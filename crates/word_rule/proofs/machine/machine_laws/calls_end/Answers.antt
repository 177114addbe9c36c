use Rattle.word_rule.proofs.CallsEnd.{calls_lem, cell_lem, place_lem}
use Rattle.word_rule.proofs.machine.machine_laws.calls_end.Goals as goal

pub returns-clause-ends : goal.returns-clause-ends
returns-clause-ends g c = λ w o schedule more i x at rounds. calls_lem g.O.SeqObject w o schedule more i x at rounds

pub returns-clause-at_cell : goal.returns-clause-at_cell
returns-clause-at_cell g c = λ w o schedule more i x cell there at rounds. cell_lem g.O.SeqObject w o schedule more i x cell there at rounds

pub returns-clause-in_line : goal.returns-clause-in_line
returns-clause-in_line g c = λ w o schedule more i x place cell there at rounds. place_lem g.O.SeqObject w o schedule more i x place cell there at rounds
