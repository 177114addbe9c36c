use Rattle.std.proofs.Common.{◌≡◌, ◌≤◌, [], map, replicate, vec_len}
use Rattle.std.specs.{List.All, Vec.vec_capacity, VecDeque.deque_capacity}
use Rattle.auditor.proofs.references.sched.empty_lists.Given as goal

-- the lists so far
abbrev pub invariant-loop : goal.invariant-loop
invariant-loop l =
    (map (λ q. q.items) l.lists.items ≡ replicate l.counter []) × All (λ q. l.room ≤ deque_capacity q) l.lists.items × (vec_len l.lists ≡ l.counter) × (l.count ≤ vec_capacity l.lists)
