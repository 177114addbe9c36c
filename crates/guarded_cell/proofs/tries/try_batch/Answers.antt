use Rattle.std.proofs.{Common.{OnErr, subst}, lemmas.Result.IfOk-at_ok}
use Rattle.word_rule.specs.{Answered.{IsAnswered, IsRefused}, OneHold.HasHeld}
use Rattle.guarded_cell.specs.Held.{left_by_batch}
use Rattle.guarded_cell.proofs.HeldCalls.{held_batch}
use Rattle.word_rule.proofs.WholeCalls.{did}
use Rattle.guarded_cell.proofs.tries.try_batch.Goals as goal

pub returns-in-Ok-done-clause-answered : goal.returns-in-Ok-done-clause-answered
returns-in-Ok-done-clause-answered g c =
    let h = c.in-Ok in
    let a = c.apply-done in
    let r = c.release-pass in
    IfOk-at_ok (λ s. IsAnswered g.O.SeqObject (g.C.LockCell.pass_view c.args.pass) c.args.calls.now s (g.C.LockCell.pass_view r.result)) c.in-Ok-done.is
    (did g.O.SeqObject (g.C.LockCell.pass_view c.args.pass) (g.C.LockCell.pass_view r.result) (g.C.LockCell.hold_view h.hold) (g.C.LockCell.hold_view a.new.hold) (g.met.C.LockCell.hold_is_valid c.args.cell.now h.hold h.ensures.hold)
    h.ensures.caller h.ensures.grows a.ensures.caller r.ensures.caller r.ensures.seen (g.met.C.LockCell.pass_is_valid c.args.cell.now r.result r.ensures.pass) c.args.calls.now a.result a.ensures.asked a.ensures.room a.ensures.after a.ensures.full).0

pub returns-in-Err-done-clause-declined : goal.returns-in-Err-done-clause-declined
returns-in-Err-done-clause-declined g c =
    let h = c.in-Ok in
    let a = c.apply-done in
    let r = c.release-pass in
    subst (λ z. OnErr z (IsRefused g.O.SeqObject (g.C.LockCell.pass_view c.args.pass) (g.C.LockCell.pass_view r.result))) c.in-Err-done.is
    (did g.O.SeqObject (g.C.LockCell.pass_view c.args.pass) (g.C.LockCell.pass_view r.result) (g.C.LockCell.hold_view h.hold) (g.C.LockCell.hold_view a.new.hold) (g.met.C.LockCell.hold_is_valid c.args.cell.now h.hold h.ensures.hold)
    h.ensures.caller h.ensures.grows a.ensures.caller r.ensures.caller r.ensures.seen (g.met.C.LockCell.pass_is_valid c.args.cell.now r.result r.ensures.pass) c.args.calls.now a.result a.ensures.asked a.ensures.room a.ensures.after a.ensures.full).1

pub returns-in-Ok-done-clause-run : goal.returns-in-Ok-done-clause-run
returns-in-Ok-done-clause-run g c =
    let h = c.in-Ok in
    let a = c.apply-done in
    let r = c.release-pass in
    let p = (g.C.LockCell.pass_view c.args.pass).caller in
    let before = g.C.LockCell.pass_run c.args.pass in
    let looks = h.ensures.run.0 in (
      looks,
      h.ensures.run.1,
      subst (λ z. HasHeld p before looks (left_by_batch p.acting z) (g.C.LockCell.pass_run r.result)) c.in-Ok-done.is
          (held_batch g.O.SeqObject p before (g.C.LockCell.hold_run h.hold) (g.C.LockCell.hold_run a.new.hold) (g.C.LockCell.pass_run r.result) looks (g.C.LockCell.hold_view h.hold) (g.C.LockCell.hold_view a.new.hold) h.ensures.run.2 h.ensures.caller a.ensures.caller a.ensures.run r.ensures.run a.result a.ensures.after a.ensures.full),
    )

pub returns-in-Err-done-clause-declined_run : goal.returns-in-Err-done-clause-declined_run
returns-in-Err-done-clause-declined_run g c =
    let h = c.in-Ok in
    let a = c.apply-done in
    let r = c.release-pass in
    let p = (g.C.LockCell.pass_view c.args.pass).caller in
    let before = g.C.LockCell.pass_run c.args.pass in
    let looks = h.ensures.run.0 in (
      looks,
      h.ensures.run.1,
      subst (λ z. HasHeld p before looks (left_by_batch p.acting z) (g.C.LockCell.pass_run r.result)) c.in-Err-done.is
          (held_batch g.O.SeqObject p before (g.C.LockCell.hold_run h.hold) (g.C.LockCell.hold_run a.new.hold) (g.C.LockCell.pass_run r.result) looks (g.C.LockCell.hold_view h.hold) (g.C.LockCell.hold_view a.new.hold) h.ensures.run.2 h.ensures.caller a.ensures.caller a.ensures.run r.ensures.run a.result a.ensures.after a.ensures.full),
    )
