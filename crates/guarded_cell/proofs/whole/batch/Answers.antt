use Rattle.guarded_cell.proofs.HeldCalls.{held_batch}
use Rattle.word_rule.proofs.WholeCalls.{did}
use Rattle.guarded_cell.proofs.whole.batch.Goals as goal

pub returns-clause-answered : goal.returns-clause-answered
returns-clause-answered g c =
    let h = c.acquire-hold in
    let a = c.apply-done in
    let r = c.release-pass in
    (did g.O.SeqObject (g.C.LockCell.pass_view c.args.pass) (g.C.LockCell.pass_view r.result) (g.C.LockCell.hold_view h.result.0) (g.C.LockCell.hold_view a.new.hold) (g.met.C.LockCell.hold_is_valid c.args.cell.now h.result.0 h.ensures.hold)
    h.ensures.caller h.ensures.grows a.ensures.caller r.ensures.caller r.ensures.seen (g.met.C.LockCell.pass_is_valid c.args.cell.now r.result r.ensures.pass) c.args.calls.now a.result a.ensures.asked a.ensures.room a.ensures.after a.ensures.full).0

pub returns-clause-refused : goal.returns-clause-refused
returns-clause-refused g c =
    let h = c.acquire-hold in
    let a = c.apply-done in
    let r = c.release-pass in
    (did g.O.SeqObject (g.C.LockCell.pass_view c.args.pass) (g.C.LockCell.pass_view r.result) (g.C.LockCell.hold_view h.result.0) (g.C.LockCell.hold_view a.new.hold) (g.met.C.LockCell.hold_is_valid c.args.cell.now h.result.0 h.ensures.hold)
    h.ensures.caller h.ensures.grows a.ensures.caller r.ensures.caller r.ensures.seen (g.met.C.LockCell.pass_is_valid c.args.cell.now r.result r.ensures.pass) c.args.calls.now a.result a.ensures.asked a.ensures.room a.ensures.after a.ensures.full).1

pub returns-clause-run : goal.returns-clause-run
returns-clause-run g c =
    let h = c.acquire-hold in
    let a = c.apply-done in
    let r = c.release-pass in
    held_batch g.O.SeqObject (g.C.LockCell.pass_view c.args.pass).caller (g.C.LockCell.pass_run c.args.pass) (g.C.LockCell.hold_run h.result.0) (g.C.LockCell.hold_run a.new.hold) (g.C.LockCell.pass_run r.result) h.result.1 (g.C.LockCell.hold_view h.result.0) (g.C.LockCell.hold_view a.new.hold)
    h.ensures.run h.ensures.caller a.ensures.caller a.ensures.run r.ensures.run a.result a.ensures.after a.ensures.full
