use Rattle.std.proofs.Common.{◌++◌, ap, ◌∙◌}
use Rattle.word_rule.specs.Answered.{events_by}
use Rattle.word_rule.proofs.OneHolds.{held_once}
use Rattle.guarded_cell.proofs.Additions.{held_through, full_after}
use Rattle.guarded_cell.proofs.whole.with_hold.Goals as goal

pub returns-clause-held : goal.returns-clause-held
returns-clause-held g c =
    let h = c.acquire-hold in
    let d = c.do_groups-outcome in
    let r = c.release-pass in
    held_through g.O.SeqObject (g.C.LockCell.pass_view c.args.pass) (g.C.LockCell.pass_view r.result) (g.C.LockCell.hold_view h.result.0) (g.C.LockCell.hold_view d.new.hold) d.new.done.items h.ensures.caller d.ensures.added r.ensures.seen
    c.args.groups.now (g.met.C.LockCell.hold_is_valid c.args.cell.now h.result.0 h.ensures.hold) h.ensures.grows d.ensures.fulfils r.ensures.caller (g.met.C.LockCell.pass_is_valid c.args.cell.now r.result r.ensures.pass)

pub returns-clause-full : goal.returns-clause-full
returns-clause-full g c =
    let h = c.acquire-hold in
    let d = c.do_groups-outcome in
    let r = c.release-pass in
    full_after g.O.SeqObject (g.C.LockCell.pass_view c.args.pass) (g.C.LockCell.pass_view r.result) (g.C.LockCell.hold_view h.result.0) (g.C.LockCell.hold_view d.new.hold) d.new.done.items h.ensures.caller d.ensures.added r.ensures.seen
    d.result (g.met.C.LockCell.hold_is_valid c.args.cell.now d.new.hold (d.ensures.hold c.args.cell.now h.ensures.hold)) d.ensures.full

pub returns-clause-run : goal.returns-clause-run
returns-clause-run g c =
    let h = c.acquire-hold in
    let d = c.do_groups-outcome in
    let r = c.release-pass in
    let p = g.C.LockCell.pass_view c.args.pass in
    let held = g.C.LockCell.hold_view h.result.0 in
    held_once p.caller (g.C.LockCell.pass_run c.args.pass) h.result.1 held (g.C.LockCell.hold_view d.new.hold) (g.C.LockCell.hold_run h.result.0) (g.C.LockCell.hold_run d.new.hold) (g.C.LockCell.pass_run r.result) (events_by p.caller.acting d.new.done.items) h.ensures.run h.ensures.caller d.ensures.added.caller d.ensures.run
    (d.ensures.added.log ∙ ap (λ k. held.history.log ++ events_by k.acting d.new.done.items) h.ensures.caller) r.ensures.run
