use Rattle.guarded_cell.proofs.Stays.{stays}
use Rattle.guarded_cell.proofs.lock.AnyCellLockCell.apply_one.Goals as goal

pub returns-clause-hold : goal.returns-clause-hold
returns-clause-hold g c cell of = stays cell c.args.hold.now c.apply_one.new.self c.apply_one.ensures.table.0 c.apply_one.ensures.table.1 of
