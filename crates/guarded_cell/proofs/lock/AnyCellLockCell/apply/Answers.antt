use Rattle.guarded_cell.proofs.Stays.{stays}
use Rattle.guarded_cell.proofs.lock.AnyCellLockCell.apply.Goals as goal

pub returns-clause-hold : goal.returns-clause-hold
returns-clause-hold g c cell of = stays cell c.args.hold.now c.apply.new.self c.apply.ensures.table.0 c.apply.ensures.table.1 of
