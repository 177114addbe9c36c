use Rattle.std.proofs.Common.{◌≡◌, subst}
use Rattle.std.specs.Prelude.{OnOk}
use Rattle.auditor.specs.ReceivedRun.{log_received}
use Rattle.auditor.proofs.JudgeTerms.{started}
use Rattle.auditor.proofs.judge.feed_object.Goals as goal

pub returns : goal.returns
returns g c = subst (λ t. OnOk c.feed_log.result (c.feed_log.new.judged ≡ log_received c.args.judged.now t c.args.log.now)) (started g.O.SeqObject c.args.opened.now (g.J.ReferenceObject.shows c.in_ok-object.object) c.in_ok-object.ensures) c.feed_log.ensures
