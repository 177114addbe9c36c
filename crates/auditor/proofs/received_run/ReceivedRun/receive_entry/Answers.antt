use Rattle.std.proofs.Common.{[], ◌∷◌, length, ap, ◌∙◌, arith, length-append}
use Rattle.auditor.specs.{ReceivedRun.{ReceivedRun, entry_received}, Terms.terms_with}
use Rattle.auditor.proofs.received_run.ReceivedRun.receive_entry.Goals as goal

pub overflow_add-self : goal.overflow_add-self
overflow_add-self g c =
    let i = c.self.invariant in
    let a = ap (λ (d : ReceivedRun _ _ _ _ _). length d.entries) c.self.view_is in
    let b = ap (λ (d : ReceivedRun _ _ _ _ _). d.count) c.self.view_is in
    let lt = c.requires in
    omega (arith, a, b, i.2, lt)

pub invariant_of-self : goal.invariant_of-self
invariant_of-self g c =
    let i = c.self.invariant in
    let n = ap length c.with_one.ensures in
    let m = length-append c.self.inside.entries.items (c.args.entry.now ∷ []) in
    (i.0, i.1, omega (arith, n, m, i.2), i.3)

pub returns : goal.returns
returns g c =
    let i = c.self.inside in
    (λ j. record { cpus = i.cpus; objects = i.objects; count = i.count; opened = terms_with g.J.StepJudge.shows i.opened.items i.judges.items; logs = i.logs.items; events = i.events.items; transcripts = i.transcripts.items; entries = c.with_one.ensures j }) ∙ ap (λ (d : ReceivedRun _ _ _ _ _). entry_received d c.args.entry.now) c.self.view_is
