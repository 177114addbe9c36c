use Rattle.std.proofs.{Common.{◌≡◌, ◌<◌, ℕ, true, false, [], ◌∷◌, ◌++◌, length, length-append, get_or, map, sym, ◌∙◌, arith}, lemmas.List.{get_or_read, length-set}}
use Rattle.std.specs.List.{concat}
use Rattle.event_log.proofs.Joined.{between}
use Rattle.auditor.proofs.MarkedLists.{marked_put, marked_permuted, marked_fewer}
use Rattle.auditor.proofs.references.sched.ReferenceSched.ready.Goals as goal

pub push_back_reserved-requires : goal.push_back_reserved-requires
push_back_reserved-requires c =
    let t : ℕ = c.args.thread in
    let s = c.self.inside in
    let asleep = concat (map (λ q. q.items) s.channels.items) in
    let at : t < length s.is_held.items = omega (arith, c.len.ensures, s.is_held.ok.0) in
    let absent : get_or s.is_held.items t false ≡ false = sym (get_or_read s.is_held.items t c.index.result.now at c.index.ensures false) ∙ c.if-index.false in
    let few = marked_fewer s.is_held.items (s.ready.items ++ asleep) t at absent c.self.invariant.0 in
    omega (arith, length-append s.ready.items asleep, few, c.self.invariant.1, s.ready.ok.0)

pub invariant_of-self : goal.invariant_of-self
invariant_of-self c =
    let t : ℕ = c.args.thread in
    let s = c.self.inside in
    let asleep = concat (map (λ q. q.items) s.channels.items) in
    let at : t < length s.is_held.items = omega (arith, c.len.ensures, s.is_held.ok.0) in
    let absent : get_or s.is_held.items t false ≡ false = sym (get_or_read s.is_held.items t c.index.result.now at c.index.ensures false) ∙ c.if-index.false in
    let marked = marked_permuted _ _ _ (between s.ready.items asleep (t ∷ [])) (marked_put s.is_held.items (s.ready.items ++ asleep) t at absent c.self.invariant.0) in
    let long = length-set s.is_held.items t true in
    rw c.push_back_reserved.ensures.items (marked, omega (arith, long, c.self.invariant.1, c.push_back_reserved.ensures.capacity), λ k d lt. omega (arith, long, c.self.invariant.2 k d lt), omega (arith, long, c.self.invariant.3))
