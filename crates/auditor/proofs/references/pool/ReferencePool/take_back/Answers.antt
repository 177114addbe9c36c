use Rattle.std.proofs.{Common.{◌≡◌, ◌<◌, None, Some, length, get_or, sym, ◌∙◌, arith}, lemmas.List.get_or_read}
use Rattle.auditor.proofs.FreePages.{some_taken}
use Rattle.auditor.proofs.references.pool.ReferencePool.take_back.Goals as goal

pub overflow_add-self : goal.overflow_add-self
overflow_add-self c =
    let owners = c.self.inside.owners.items in
    let at : c.args.page < length owners = omega (arith, c.len.ensures, c.self.inside.owners.ok.0) in
    let taken : get_or owners c.args.page None ≡ Some c.in-Some.other = sym (get_or_read owners c.args.page c.index.result.now at c.index.ensures None) ∙ c.in-Some.is in
    omega (arith, some_taken owners c.args.page c.in-Some.other at taken, c.self.invariant.2, c.self.invariant.3)
