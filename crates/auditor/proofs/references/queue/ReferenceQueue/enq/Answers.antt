use Rattle.std.proofs.{Common.{◌≡◌, ◌<◌, ℕ, ◌+◌, true, false, List, [], ◌∷◌, ◌++◌, length, get_or, set, sym, ap, ◌∙◌, arith}, lemmas.List.{get_or_read, length-set, length_push}}
use Rattle.event_log.specs.Distinct.{has}
use Rattle.shared_queue.specs.{State.QueueState, Answer.enq_answer, declared.call.QueueReply.QueueReply, declared.call.QueueReply.TheVariants.Ok}
use Rattle.auditor.specs.Row.{row_of}
use Rattle.auditor.proofs.{MarkedLists.marked_fewer, Rows.{length_walk, last_within, row_put, walked}, Unrefused.enq_ok}
use Rattle.auditor.proofs.references.queue.ReferenceQueue.enq.Goals as goal

pub index_mut-requires : goal.index_mut-requires
index_mut-requires c =
    let q = c.self.inside in
    let table = q.waits.items in
    let n = q.next.items in
    let p = q.previous.items in
    let list = row_of n (length table) q.count in
    let h = c.self.invariant.0 in
    let b = c.index-last.result.now in
    let back = c.len-back.result + 1 in
    let at_back : back ≡ length table + 1 = omega (arith, c.len-back.ensures, q.waits.ok.0) in
    let eb : b ≡ get_or p back 0 = get_or_read p back b (omega (arith, at_back, h.previous_long)) c.index-last.ensures 0 in
    omega (arith, last_within table n p list h b back at_back eb, h.next_long, q.next.ok.0)

pub overflow_add-self : goal.overflow_add-self
overflow_add-self c =
    let q = c.self.inside in
    let table = q.waits.items in
    let n = q.next.items in
    let list = row_of n (length table) q.count in
    let h = c.self.invariant.0 in
    let t : ℕ = c.args.thread in
    let lt : t < length table = omega (arith, c.len.ensures, q.waits.ok.0) in
    let unmarked : get_or table t false ≡ false = sym (get_or_read table t c.index.result.now lt c.index.ensures false) ∙ c.if-index.false in
    let size = length_walk n (get_or n (length table) 0) q.count in
    omega (arith, size, marked_fewer table list t lt unmarked h.marked, c.self.invariant.1)

pub invariant_of-self : goal.invariant_of-self
invariant_of-self c =
    let q = c.self.inside in
    let table = q.waits.items in
    let n = q.next.items in
    let p = q.previous.items in
    let list = row_of n (length table) q.count in
    let h = c.self.invariant.0 in
    let t : ℕ = c.args.thread in
    let b = c.index-last.result.now in
    let back = c.len-back.result + 1 in
    let at_back : back ≡ length table + 1 = omega (arith, c.len-back.ensures, q.waits.ok.0) in
    let eb : b ≡ get_or p back 0 = get_or_read p back b (omega (arith, at_back, h.previous_long)) c.index-last.ensures 0 in
    let lt : t < length table = omega (arith, c.len.ensures, q.waits.ok.0) in
    let absent : has t list ≡ false = sym (h.marked.marks t) ∙ (sym (get_or_read table t c.index.result.now lt c.index.ensures false) ∙ c.if-index.false) in
    let size = length_walk n (get_or n (length table) 0) q.count in
    let new = row_put table n p list h t b back at_back lt absent eb in
    let done = walked (set table t true) (set (set n b t) t back) (set (set p t b) back t) (list ++ t ∷ []) (q.count + 1) (omega (arith, size, length_push list t)) new in
    (done.1, omega (arith, length-set table t true, c.self.invariant.1))

pub returns : goal.returns
returns c =
    let q = c.self.inside in
    let table = q.waits.items in
    let n = q.next.items in
    let p = q.previous.items in
    let list = row_of n (length table) q.count in
    let h = c.self.invariant.0 in
    let t : ℕ = c.args.thread in
    let b = c.index-last.result.now in
    let back = c.len-back.result + 1 in
    let at_back : back ≡ length table + 1 = omega (arith, c.len-back.ensures, q.waits.ok.0) in
    let eb : b ≡ get_or p back 0 = get_or_read p back b (omega (arith, at_back, h.previous_long)) c.index-last.ensures 0 in
    let lt : t < length table = omega (arith, c.len.ensures, q.waits.ok.0) in
    let absent : has t list ≡ false = sym (h.marked.marks t) ∙ (sym (get_or_read table t c.index.result.now lt c.index.ensures false) ∙ c.if-index.false) in
    let size = length_walk n (get_or n (length table) 0) q.count in
    let new = row_put table n p list h t b back at_back lt absent eb in
    let done = walked (set table t true) (set (set n b t) t back) (set (set p t b) back t) (list ++ t ∷ []) (q.count + 1) (omega (arith, size, length_push list t)) new in
    let with_threads : ℕ → QueueState × QueueReply = λ k. (record { threads = k; list = row_of (set (set n b t) t back) (length (set table t true)) (q.count + 1) }, Ok) in
    let with_list : List ℕ → QueueState × QueueReply = λ l. (record { threads = length table; list = l }, Ok) in
    ap with_threads (length-set table t true)
    ∙ (ap with_list done.0
    ∙ (sym (enq_ok (record { threads = length table; list = list }) t lt absent)
    ∙ ap (λ v. enq_answer v t) c.self.view_is))
