use Rattle.std.proofs.Common.{◌<◌, length, arith}
use Rattle.record_lines.proofs.LineMachine.{first_in_front, first_in_back}
use Rattle.record_lines.proofs.text.line_machine.first_of.Goals as goal

pub returns-in-len1-up-clause-first : goal.returns-in-len1-up-clause-first
returns-in-len1-up-clause-first c = first_in_front c.args.front.now c.args.back.now c.in-len1-up.len_at_least

pub returns-in-len1-up-back-clause-first : goal.returns-in-len1-up-back-clause-first
returns-in-len1-up-back-clause-first c = let none : length c.args.front.now < 1 = omega arith in first_in_back c.args.front.now c.args.back.now none c.in-len1-up-back.len_at_least
