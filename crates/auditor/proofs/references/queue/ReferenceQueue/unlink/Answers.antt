use Rattle.std.proofs.{Common.{◌≡◌, ℕ, ◌-◌, true, false, List, length, get_or, set, ap, ◌∙◌, arith}, lemmas.List.{get_or_read, length-set}}
use Rattle.event_log.specs.Distinct.{has, without}
use Rattle.shared_queue.specs.State.{QueueState}
use Rattle.auditor.specs.Row.{row_of}
use Rattle.auditor.proofs.Rows.{length_walk, cells_below, row_without, walked}
use Rattle.auditor.proofs.references.queue.ReferenceQueue.unlink.Goals as goal

pub index_mut-requires : goal.index_mut-requires
index_mut-requires c =
    let q = c.self.inside in
    let table = q.waits.items in
    let n = q.next.items in
    let p = q.previous.items in
    let list = row_of n (length table) q.count in
    let h = c.self.invariant.0 in
    let t : ℕ = c.args.thread in
    let present : has t list ≡ true = ap (λ (v : QueueState). has t v.list) c.self.view_is ∙ c.requires in
    let cells = cells_below table n p list h t present in
    let b = c.index-before.result.now in
    let eb : b ≡ get_or p t 0 = get_or_read p t b (omega (arith, cells.0, h.previous_long)) c.index-before.ensures 0 in
    omega (arith, eb, cells.1, h.next_long, q.next.ok.0)

pub index_mut-requires-2 : goal.index_mut-requires-2
index_mut-requires-2 c =
    let q = c.self.inside in
    let table = q.waits.items in
    let n = q.next.items in
    let p = q.previous.items in
    let list = row_of n (length table) q.count in
    let h = c.self.invariant.0 in
    let t : ℕ = c.args.thread in
    let present : has t list ≡ true = ap (λ (v : QueueState). has t v.list) c.self.view_is ∙ c.requires in
    let cells = cells_below table n p list h t present in
    let a = c.index-behind.result.now in
    let ea : a ≡ get_or n t 0 = get_or_read n t a (omega (arith, cells.0, h.next_long)) c.index-behind.ensures 0 in
    omega (arith, ea, cells.2, h.previous_long, q.previous.ok.0)

pub index_mut-requires-3 : goal.index_mut-requires-3
index_mut-requires-3 c =
    let q = c.self.inside in
    let table = q.waits.items in
    let n = q.next.items in
    let p = q.previous.items in
    let list = row_of n (length table) q.count in
    let h = c.self.invariant.0 in
    let t : ℕ = c.args.thread in
    let present : has t list ≡ true = ap (λ (v : QueueState). has t v.list) c.self.view_is ∙ c.requires in
    let cells = cells_below table n p list h t present in
    omega (arith, cells.0, q.waits.ok.0)

pub invariant_of-self : goal.invariant_of-self
invariant_of-self c =
    let q = c.self.inside in
    let table = q.waits.items in
    let n = q.next.items in
    let p = q.previous.items in
    let list = row_of n (length table) q.count in
    let h = c.self.invariant.0 in
    let t : ℕ = c.args.thread in
    let present : has t list ≡ true = ap (λ (v : QueueState). has t v.list) c.self.view_is ∙ c.requires in
    let cells = cells_below table n p list h t present in
    let b = c.index-before.result.now in
    let eb : b ≡ get_or p t 0 = get_or_read p t b (omega (arith, cells.0, h.previous_long)) c.index-before.ensures 0 in
    let a = c.index-behind.result.now in
    let ea : a ≡ get_or n t 0 = get_or_read n t a (omega (arith, cells.0, h.next_long)) c.index-behind.ensures 0 in
    let size = length_walk n (get_or n (length table) 0) q.count in
    let new = row_without table n p list h t b a present eb ea in
    let done = walked (set table t false) (set n b a) (set p a b) (without t list) (q.count - 1) (omega (arith, size, new.0)) new.1 in
    (done.1, omega (arith, length-set table t false, c.self.invariant.1))

pub returns : goal.returns
returns c =
    let q = c.self.inside in
    let table = q.waits.items in
    let n = q.next.items in
    let p = q.previous.items in
    let list = row_of n (length table) q.count in
    let h = c.self.invariant.0 in
    let t : ℕ = c.args.thread in
    let present : has t list ≡ true = ap (λ (v : QueueState). has t v.list) c.self.view_is ∙ c.requires in
    let cells = cells_below table n p list h t present in
    let b = c.index-before.result.now in
    let eb : b ≡ get_or p t 0 = get_or_read p t b (omega (arith, cells.0, h.previous_long)) c.index-before.ensures 0 in
    let a = c.index-behind.result.now in
    let ea : a ≡ get_or n t 0 = get_or_read n t a (omega (arith, cells.0, h.next_long)) c.index-behind.ensures 0 in
    let size = length_walk n (get_or n (length table) 0) q.count in
    let new = row_without table n p list h t b a present eb ea in
    let done = walked (set table t false) (set n b a) (set p a b) (without t list) (q.count - 1) (omega (arith, size, new.0)) new.1 in
    let with_threads : ℕ → QueueState = λ k. record { threads = k; list = row_of (set n b a) (length (set table t false)) (q.count - 1) } in
    let with_list : List ℕ → QueueState = λ l. record { threads = length table; list = l } in
    ap with_threads (length-set table t false)
    ∙ (ap with_list done.0
    ∙ ap (λ (v : QueueState). record v { list = without t v.list }) c.self.view_is)
