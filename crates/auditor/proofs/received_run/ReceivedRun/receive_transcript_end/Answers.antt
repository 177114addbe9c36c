use Rattle.std.proofs.Common.{[], ◌∷◌, length, ap, sym, ◌∙◌, arith, length-append}
use Rattle.auditor.specs.{ReceivedRun.{ReceivedRun, transcript_ended}, Terms.terms_with}
use Rattle.auditor.proofs.received_run.ReceivedRun.receive_transcript_end.Goals as goal

pub overflow_add-self : goal.overflow_add-self
overflow_add-self g c =
    let i = c.self.invariant in
    let a = ap (λ (d : ReceivedRun _ _ _ _ _). length d.transcripts) c.self.view_is in
    let b = ap (λ (d : ReceivedRun _ _ _ _ _). d.cpus) c.self.view_is in
    let lt = c.requires in
    omega (arith, a, b, i.1, lt)

pub invariant_of-self : goal.invariant_of-self
invariant_of-self g c =
    let i = c.self.invariant in
    let n = ap length c.with_list.ensures in
    let m = length-append c.self.inside.transcripts.items (c.self.inside.entries.items ∷ []) in
    (i.0, omega (arith, n, m, i.1), sym (ap length c.new.ensures), i.3)

pub returns : goal.returns
returns g c =
    let i = c.self.inside in
    (λ j. record { cpus = i.cpus; objects = i.objects; count = 0; opened = terms_with g.J.StepJudge.shows i.opened.items i.judges.items; logs = i.logs.items; events = i.events.items; transcripts = c.with_list.ensures j; entries = c.new.ensures j }) ∙ ap (λ (d : ReceivedRun _ _ _ _ _). transcript_ended d) c.self.view_is
