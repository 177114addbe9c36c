use Rattle.misuse.proofs.queues.call_and_leave.Goals as goal

pub see-requires : goal.see-requires
see-requires g c = c.apply_one-done.ensures.hold c.args.cell.now c.requires
