use Rattle.std.proofs.Common.{◌≡◌, [], ◌∷◌, ◌++◌, length, ap, ◌∙◌, arith, length-append}
use Rattle.auditor.specs.{ReceivedRun.{ReceivedRun, log_begun}, Terms.{terms_at, terms_with}}
use Rattle.auditor.proofs.JudgeTerms.{terms_more}
use Rattle.auditor.proofs.received_run.ReceivedRun.receive_log.Goals as goal

pub invariant_of-self : goal.invariant_of-self
invariant_of-self g c =
    let i = c.self.invariant in
    let n = ap length c.with_one.ensures in
    let m = length-append c.self.inside.opened.items (c.args.opened.now ∷ []) in
    let a = ap length c.joined.ensures in
    let b = length-append c.self.inside.judges.items c.args.judge.now.items in
    (i.0, i.1, i.2, omega (arith, n, m, a, b, i.3, c.requires))

pub returns : goal.returns
returns g c = λ j one.
    let i = c.self.inside in
    let opened : terms_with g.J.StepJudge.shows c.with_one.result.items c.joined.result.items ≡ terms_with g.J.StepJudge.shows i.opened.items i.judges.items ++ terms_at c.args.opened.now (g.J.StepJudge.shows j) ∷ [] =
    (λ k. terms_with g.J.StepJudge.shows (c.with_one.ensures k) ((c.joined.ensures ∙ ap (λ l. i.judges.items ++ l) one) k)) ∙ terms_more g.J.StepJudge.shows i.opened.items i.judges.items c.args.opened.now j c.self.invariant.3 in
    (λ k. record { cpus = i.cpus; objects = i.objects; count = c.args.count; opened = opened k; logs = i.logs.items; events = i.events.items; transcripts = i.transcripts.items; entries = i.entries.items }) ∙ ap (λ (d : ReceivedRun _ _ _ _ _). log_begun d (terms_at c.args.opened.now (g.J.StepJudge.shows j)) c.args.count) c.self.view_is
