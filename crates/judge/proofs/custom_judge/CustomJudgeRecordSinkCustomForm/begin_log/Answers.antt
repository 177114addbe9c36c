use Rattle.std.proofs.Common.{get_or, true, sym, ap, subst}
use Rattle.custom_records.specs.{CustomForm.no_head, contracts.custom_form.CustomFormRecordForm.TheImpl.{ghosts as custom_form}, CustomReceived.CustomReceived}
use Rattle.record_lines.specs.Received.{InLogs, IsAtHead}
use Rattle.judge.specs.Judging.{custom_parts, Counted, CustomReceivedRun, HasReceivedCustom}
use Rattle.judge.proofs.ReceivedCustom.{before_log, log_opened}
use Rattle.judge.proofs.custom_judge.CustomJudgeRecordSinkCustomForm.begin_log.Goals as goal

pub begin_log-requires : goal.begin_log-requires
begin_log-requires c =
    let i = c.self.inside in
    let back = sym (ap (λ (v : Counted). v.parts) c.self.view_is) in
    before_log (get_or i.head.items 0 no_head) i.begun i.right.items i.limits.items i.log i.left i.without i.judged c.self.invariant (subst (InLogs custom_form) back c.requires.place) (subst (λ (p : CustomReceived). IsAtHead p p.events) back c.requires.head)

pub invariant_of-self-2 : goal.invariant_of-self-2
invariant_of-self-2 c =
    let i = c.self.inside in
    let back = sym (ap (λ (v : Counted). v.parts) c.self.view_is) in
    let more = log_opened (get_or i.head.items 0 no_head) i.begun i.right.items i.limits.items i.log i.left i.without i.judged c.self.invariant c.args.count c.index.result.now (subst (InLogs custom_form) back c.requires.place) (subst (λ (p : CustomReceived). IsAtHead p p.events) back c.requires.head) c.index.ensures in
    let fed = c.in_ok-begin_log.ensures.ok in
    subst (λ (z : CustomReceivedRun). HasReceivedCustom (custom_parts (get_or i.head.items 0 no_head) true z) i.right.items i.limits.items i.log i.left i.without z) (sym fed) more
