use Rattle.std.proofs.{Common.{◌≡◌, ◌<◌, true, None, is_none, length, get_or, sym, ap, ◌∙◌, arith}, lemmas.Bool.{not_from_true, not_from_false}, lemmas.List.get_or_read}
use Rattle.page_pool.specs.{State.PoolState, Table.least_free}
use Rattle.auditor.proofs.FreePages.{found_least, found_none}
use Rattle.auditor.proofs.references.pool.ReferencePool.least_free.Goals as goal

pub returns-then-is_none : goal.returns-then-is_none
returns-then-is_none c =
    let owners = c.self.inside.owners.items in
    let page = c.loop-page.page in
    let at : page < length owners = omega (arith, c.loop-page-test.true, c.len-page-end.ensures, c.self.inside.owners.ok.0) in
    let free : is_none (get_or owners page None) ≡ true = ap is_none (sym (get_or_read owners page c.index.result.now at c.index.ensures None)) ∙ not_from_false _ (c.is_none.ensures ∙ not_from_true _ c.if-is_none.true) in
    found_least owners page at c.loop-page.invariant free ∙ ap (λ (s : PoolState). least_free s.owners) c.self.view_is

pub returns : goal.returns
returns c =
    let owners = c.self.inside.owners.items in
    found_none owners c.loop-page.page (omega (arith, c.loop-page-test.false, c.len-page-end.ensures, c.self.inside.owners.ok.0)) c.loop-page.invariant ∙ ap (λ (s : PoolState). least_free s.owners) c.self.view_is
