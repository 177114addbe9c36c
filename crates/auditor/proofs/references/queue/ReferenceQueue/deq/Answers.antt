use Rattle.std.proofs.{Common.{◌≡◌, ◌<◌, ◌∷◌, length, get_or, sym, ap, subst, ◌∙◌, arith}, lemmas.List.get_or_read}
use Rattle.event_log.specs.Distinct.{without}
use Rattle.shared_queue.specs.{State.QueueState, Answer.front_answer, declared.call.QueueReply.TheVariants.Thread}
use Rattle.auditor.specs.Row.{row_of}
use Rattle.auditor.proofs.Rows.{length_walk, first_is}
use Rattle.auditor.proofs.references.queue.ReferenceQueue.deq.Goals as goal

pub returns : goal.returns
returns c =
    let q = c.self.inside in
    let table = q.waits.items in
    let n = q.next.items in
    let list = row_of n (length table) q.count in
    let h = c.self.invariant.0 in
    let first = c.index-first.result.now in
    let front : c.len.result ≡ length table = omega (arith, c.len.ensures, q.waits.ok.0) in
    let ef : first ≡ get_or n (length table) 0 = get_or_read n c.len.result first (omega (arith, front, h.next_long)) c.index-first.ensures 0 ∙ ap (λ k. get_or n k 0) front in
    let some : 0 < length list = omega (arith, length_walk n (get_or n (length table) 0) q.count, c.if-self-eq0.false) in
    let now : QueueState = c.args.self.now in
    let is : now.list ≡ first ∷ without first now.list = subst (λ (v : QueueState). v.list ≡ first ∷ without first v.list) c.self.view_is (first_is table n q.previous.items list first h some ef).1 in
    ap (λ (v : QueueState). (v, Thread first)) c.unlink.ensures ∙ sym (ap (front_answer now) is)
