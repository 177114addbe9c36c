use Rattle.guarded_cell.proofs.RealTime.{came_before}
use Rattle.guarded_cell.proofs.real_time.returned_before_begun.Goals as goal

pub returns : goal.returns
returns g c = λ first first_after second second_after firsts seconds a b log h. came_before g.O.SeqObject first first_after firsts a
    second second_after seconds b log h
