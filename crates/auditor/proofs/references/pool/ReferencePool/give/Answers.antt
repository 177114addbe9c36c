use Rattle.std.proofs.{Common.{◌≡◌, None, Some, length, sym, ap, ◌∙◌, arith}, lemmas.List.length-set}
use Rattle.page_pool.specs.{State.PoolState, Table.least_free}
use Rattle.page_pool.proofs.Least.{found_free}
use Rattle.auditor.proofs.{FreePages.{least_at, all_taken, taken_up_to, given_left}, CountedPages.counted_more}
use Rattle.auditor.proofs.references.pool.ReferencePool.give.Goals as goal

pub overflow_sub-self : goal.overflow_sub-self
overflow_sub-self c =
    let owners = c.self.inside.owners.items in
    let page = c.in-Some.page in
    let least : least_free owners ≡ Some page = ap (λ (s : PoolState). least_free s.owners) c.self.view_is ∙ (sym c.least_free.ensures ∙ c.in-Some.is) in
    let at = least_at owners page least in
    omega (arith, given_left owners page c.args.owner at.0 at.1, c.self.invariant.2)

pub invariant_of-self : goal.invariant_of-self
invariant_of-self c =
    let owners = c.self.inside.owners.items in
    let least : least_free owners ≡ None = ap (λ (s : PoolState). least_free s.owners) c.self.view_is ∙ (sym c.least_free.ensures ∙ c.in_default.is) in
    let end : c.len-self-inside.result ≡ length owners = omega (arith, c.len-self-inside.ensures, c.self.inside.owners.ok.0) in
    (λ p l. all_taken owners least p (omega (arith, l, end)), omega (arith, end), c.self.invariant.2, c.self.invariant.3, c.self.invariant.4)

pub invariant_of-self-then-is_over : goal.invariant_of-self-then-is_over
invariant_of-self-then-is_over c =
    let owners = c.self.inside.owners.items in
    let page = c.in-Some.page in
    let least : least_free owners ≡ Some page = ap (λ (s : PoolState). least_free s.owners) c.self.view_is ∙ (sym c.least_free.ensures ∙ c.in-Some.is) in
    let at = least_at owners page least in
    (at.2, omega (arith, at.0), c.self.invariant.2, c.self.invariant.3, c.self.invariant.4)

pub invariant_of-self-2 : goal.invariant_of-self-2
invariant_of-self-2 c =
    let owners = c.self.inside.owners.items in
    let page = c.in-Some.page in
    let least : least_free owners ≡ Some page = ap (λ (s : PoolState). least_free s.owners) c.self.view_is ∙ (sym c.least_free.ensures ∙ c.in-Some.is) in
    let at = least_at owners page least in
    let long = length-set owners page (Some c.args.owner) in
    (taken_up_to owners page c.args.owner at.0 at.2, omega (arith, long, at.0), omega (arith, given_left owners page c.args.owner at.0 at.1, c.self.invariant.2), omega (arith, long, c.self.invariant.3), counted_more c.self.inside.held owners page c.args.owner c.self.told.1 (omega arith) at.0 c.self.invariant.4 (found_free owners page least).1)
