use Rattle.std.proofs.Common.{length, get_or, sym, ap, ◌∙◌}
use Rattle.auditor.proofs.Rows.{length_walk}
use Rattle.auditor.proofs.references.queue.ReferenceQueue.count.Goals as goal

pub returns : goal.returns
returns c =
    let q = c.self.inside in
    sym (length_walk q.next.items (get_or q.next.items (length q.waits.items) 0) q.count) ∙ ap (λ v. length v.list) c.self.view_is
