use Rattle.std.proofs.Common.{length, ap, sym, ◌∙◌}
use Rattle.auditor.specs.{ReceivedRun.{ReceivedRun, log_ended}, Terms.terms_with}
use Rattle.auditor.proofs.received_run.ReceivedRun.receive_log_end.Goals as goal

pub invariant_of-self : goal.invariant_of-self
invariant_of-self g c = (sym (ap length c.new.ensures), c.self.invariant.1, c.self.invariant.2, c.self.invariant.3)

pub returns : goal.returns
returns g c =
    let i = c.self.inside in
    (λ j. record { cpus = i.cpus; objects = i.objects; count = 0; opened = terms_with g.J.StepJudge.shows i.opened.items i.judges.items; logs = c.with_list.ensures j; events = c.new.ensures j; transcripts = i.transcripts.items; entries = i.entries.items }) ∙ ap (λ (d : ReceivedRun _ _ _ _ _). log_ended d) c.self.view_is
