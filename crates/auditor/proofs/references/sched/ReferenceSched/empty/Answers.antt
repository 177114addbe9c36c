use Rattle.std.proofs.Common.{◌≡◌, false, [], ◌++◌, map, replicate, sym, ap, ◌∙◌, subst, arith, rules}
use Rattle.std.specs.List.{concat}
use Rattle.event_log.proofs.Joined.{concat_none}
use Rattle.auditor.specs.Marks.{AreMarked}
use Rattle.auditor.proofs.MarkedLists.{marked_none}
use Rattle.auditor.proofs.references.sched.ReferenceSched.empty.Goals as goal

pub invariant_of-result : goal.invariant_of-result
invariant_of-result c =
    let ready = c.in_ok-ready.ready in
    let channels = c.in_ok-channels.channels in
    let is_held = c.in_ok-is_held.is_held in
    let none : ready.items ++ concat (map (λ q. q.items) channels.items) ≡ []
    = ap (λ l. l ++ concat (map (λ q. q.items) channels.items)) c.in_ok-ready.ensures.items ∙ (ap concat c.in_ok-channels.ensures.lists ∙ concat_none c.args.channel_count) in
    let unmarked : is_held.items ≡ replicate c.args.count false = c.in_ok-is_held.ensures.items_if_clones_equal (λ y h. search rules) in
    let marked = subst (λ l. AreMarked is_held.items l) (sym none) (subst (λ t. AreMarked t []) (sym unmarked) (marked_none c.args.count)) in
    (marked, omega (arith, c.in_ok-is_held.ensures.len, is_held.ok.0, c.in_ok-ready.ensures.exact), λ k d lt. omega (arith, c.in_ok-is_held.ensures.len, is_held.ok.0, c.in_ok-channels.ensures.room k d lt), omega (arith, c.in_ok-is_held.ensures.len, is_held.ok.0))
