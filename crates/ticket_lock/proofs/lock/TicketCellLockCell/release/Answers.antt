use Rattle.std.proofs.Common.{refl, []}
use Rattle.word_rule.specs.{Passes.{view_of_hold, run_of_hold, state_of_pass, state_of_hold}, Rule.Callers.caller_of}
use Rattle.word_rule.proofs.{OneHolds.released_by, RunLists.extends_self}
use Rattle.word_rule.specs.declared.machine.step_done.StepDone.TheVariants as steps
use Rattle.ticket_lock.proofs.lock.TicketCellLockCell.release.Goals as goal

pub returns-clause-run : goal.returns-clause-run
returns-clause-run g c = let h = c.args.hold in let o = h.inside.outside in let s = c.serve.ensures.step in
    released_by g.O.SeqObject (view_of_hold h) (run_of_hold h) [] steps.Serve _ _ (state_of_hold h) (state_of_pass c.serve.result) record { ended = refl; unended = refl; stays = refl; blind = refl } h.holds.ran.left
    (refl, extends_self (caller_of o.key.value o.seat.me.0).owned (run_of_hold h)) refl s.1
