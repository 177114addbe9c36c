use denote.{Exit.yes, Param.Send.{param_send, arg_send, sendable}}
use Rattle.std.proofs.Common.{rules, ◌≡◌, Some, slice_get, length, take, ap, ◌∙◌, subst, arith}
use Rattle.shared_queue.proofs.{queue.ThreadQueue.TheSendSync.{the_send as queue_send}, call.QueueCall.TheSendSync.{the_send as call_send}, call.QueueReply.TheSendSync.{the_send as reply_send}}
use Rattle.shared_queue.specs.contracts.queue.ThreadQueueSeqObject.TheImpl.{ghosts}
use Rattle.word_rule.specs.{Cell.first_pass, Passes.view_of_pass}
use Rattle.word_rule.proofs.{Owners.own_both, Sends.pass_send}
use Rattle.guarded_cell.specs.Calls.{IsEnded}
use Rattle.meeting.proofs.Counts.{all_done, ended_count}
use Rattle.meeting.proofs.meet.meet.Goals as goal

pub two_callers-left-requires-send-C-Pass : goal.two_callers-left-requires-send-C-Pass
two_callers-left-requires-send-C-Pass g c κs within = param_send _ _ (arg_send _ yes _ (pass_send _ _ _ _ _ _ _ _ _ queue_send (search sendable) call_send reply_send))

pub two_callers-left-requires-clause-first : goal.two_callers-left-requires-clause-first
two_callers-left-requires-clause-first g c κs within =
    let zero : slice_get c.in-Ok.passes.items 0 ≡ Some c.unwrap-zero.result = search rules in
    (c.in-Ok.ensures.passes 0 c.unwrap-zero.result zero).0

pub two_callers-left-requires-clause-second : goal.two_callers-left-requires-clause-second
two_callers-left-requires-clause-second g c κs within =
    let one : slice_get c.in-Ok.passes.items 1 ≡ Some c.unwrap-one.result = search rules in
    (c.in-Ok.ensures.passes 1 c.unwrap-one.result one).0

pub two_callers-left-requires-clause-all : goal.two_callers-left-requires-clause-all
two_callers-left-requires-clause-all g c κs within =
    let zero : slice_get c.in-Ok.passes.items 0 ≡ Some c.unwrap-zero.result = search rules in
    let one : slice_get c.in-Ok.passes.items 1 ≡ Some c.unwrap-one.result = search rules in
    own_both c.args.queue (view_of_pass c.unwrap-zero.result) (view_of_pass c.unwrap-one.result)
    (c.in-Ok.ensures.passes 0 c.unwrap-zero.result zero).1 (c.in-Ok.ensures.passes 1 c.unwrap-one.result one).1

pub returns-clause-ended : goal.returns-clause-ended
returns-clause-ended g c =
    let zero : slice_get c.in-Ok.passes.items 0 ≡ Some c.unwrap-zero.result = search rules in
    let one : slice_get c.in-Ok.passes.items 1 ≡ Some c.unwrap-one.result = search rules in
    let left = c.two_callers-left.result in
    let firsts = take left.1 c.args.puts.now in
    let seconds = take left.2 c.args.takes.now in
    subst (λ p. IsEnded ghosts p firsts (first_pass c.args.kind 0 c.args.queue 2 1) seconds left.0) (c.in-Ok.ensures.passes 0 c.unwrap-zero.result zero).1
    (subst (λ p. IsEnded ghosts (view_of_pass c.unwrap-zero.result) firsts p seconds left.0) (c.in-Ok.ensures.passes 1 c.unwrap-one.result one).1 c.two_callers-left.ensures.ended)

pub returns-clause-counted : goal.returns-clause-counted
returns-clause-counted g c =
    let left = c.two_callers-left.result in
    let few = c.two_callers-left.ensures.counts in
    ended_count ghosts c.args.kind c.args.queue left.0 c.args.puts.now c.args.takes.now left.1 left.2 few.0 few.1 (returns-clause-ended g c)

pub returns-clause-room : goal.returns-clause-room
returns-clause-room g c room =
    let left = c.two_callers-left.result in
    let few = c.two_callers-left.ensures.counts in
    let total = returns-clause-counted g c in
    let first_few = few.0 in
    let second_few = few.1 in
    let limit : left.0.limit ≡ c.args.queue.limit = ap (λ h. h.limit) (IsEnded.replayed (returns-clause-ended g c)) in
    let past = length c.args.queue.log in
    let firsts = length c.args.puts.now in
    let seconds = length c.args.takes.now in (
      all_done past firsts seconds left.1 left.2 (length left.0.log) c.args.queue.limit total room few.0 few.1 (λ less. c.two_callers-left.ensures.first_full less ∙ limit),
      all_done past seconds firsts left.2 left.1 (length left.0.log) c.args.queue.limit (omega (arith, total)) (omega (arith, room)) few.1 few.0 (λ less. c.two_callers-left.ensures.second_full less ∙ limit),
    )
