use Rattle.cpu_worker.proofs.Reports.{room_for_entry}
use Rattle.cpu_worker.proofs.sums.Sums.add_on.Goals as goal

pub add-requires-clause-entries : goal.add-requires-clause-entries
add-requires-clause-entries c =
    let room = room_for_entry c.args.self.now c.args.place c.args.entries.now c.loop-entry.entry-index c.loop-entry-test.true c.requires.entries c.requires.noroom in
    rw c.loop-entry.invariant room.entries

pub add-requires-clause-noroom : goal.add-requires-clause-noroom
add-requires-clause-noroom c =
    let room = room_for_entry c.args.self.now c.args.place c.args.entries.now c.loop-entry.entry-index c.loop-entry-test.true c.requires.entries c.requires.noroom in
    rw c.loop-entry.invariant room.noroom
