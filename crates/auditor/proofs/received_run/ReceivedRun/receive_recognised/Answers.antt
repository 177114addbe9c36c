use Rattle.std.proofs.Common.{[], ◌∷◌, length, ap, ◌∙◌, arith, length-append}
use Rattle.auditor.specs.{ReceivedRun.{ReceivedRun, entry_received}, Terms.terms_with}
use Rattle.auditor.proofs.Lives.{in_entry}
use Rattle.auditor.proofs.received_run.ReceivedRun.receive_recognised.Goals as goal

pub overflow_add-self : goal.overflow_add-self
overflow_add-self g c =
    let i = c.self.invariant in
    let a = ap (λ (d : ReceivedRun _ _ _ _ _). length d.entries) c.self.view_is in
    let b = ap (λ (d : ReceivedRun _ _ _ _ _). d.count) c.self.view_is in
    let lt = c.requires in
    omega (arith, a, b, i.2, lt)

pub invariant_of-self : goal.invariant_of-self
invariant_of-self g c =
    let i = c.self.invariant in
    let n = ap length c.named.ensures in
    let m = length-append c.self.inside.entries.items (g.entry ∷ []) in
    (i.0, i.1, omega (arith, n, m, i.2), i.3)

pub returns : goal.returns
returns g c =
    let i = c.self.inside in
    (λ j. record { cpus = i.cpus; objects = i.objects; count = i.count; opened = terms_with g.J.StepJudge.shows i.opened.items i.judges.items; logs = i.logs.items; events = i.events.items; transcripts = i.transcripts.items; entries = c.named.ensures j }) ∙ ap (λ (d : ReceivedRun _ _ _ _ _). entry_received d g.entry) c.self.view_is

pub named-requires : goal.named-requires
named-requires g c κs within = in_entry κs.1.0 g.row.O.lives g.row.O-Params.lives g.row.O-Call.lives g.row.O-Reply.lives within.0 within.1.0 within.1.1.0 within.1.1.1
