use Rattle.std.proofs.Common.{get_or, ◌<◌, ◌-◌, length, sym, ap, ◌∙◌, subst, arith}
use Rattle.custom_records.specs.{Ranges.EventFits, CustomForm.no_head, contracts.custom_form.CustomFormRecordForm.TheImpl.{ghosts as custom_form}, CustomReceived.CustomReceived}
use Rattle.record_lines.specs.Received.{InLogs}
use Rattle.judge.specs.Judging.{custom_parts, Counted, CustomReceivedRun, HasReceivedCustom}
use Rattle.judge.proofs.ReceivedCustom.{in_log, event_more}
use Rattle.judge.proofs.custom_judge.CustomJudgeRecordSinkCustomForm.event.Goals as goal

pub event-requires : goal.event-requires
event-requires c =
    let i = c.self.inside in
    let back = sym (ap (λ (v : Counted). v.parts) c.self.view_is) in
    let fits = subst (λ (p : CustomReceived). EventFits p.head.so_far c.args.event.now) back c.requires.fit in
    let cpu = fits.cpu in
    let all = c.self.invariant.cpus in (
      omega arith,
      (
        in_log (get_or i.head.items 0 no_head) i.begun i.right.items i.limits.items i.log i.left i.without i.judged c.self.invariant (subst (InLogs custom_form) back c.requires.place) (ap (λ (v : Counted). v.parts.begun) c.self.view_is ∙ c.requires.begun),
        (
          subst (λ (p : CustomReceived). length p.events < p.count) back c.requires.more,
          (omega (arith, cpu, all), (record { some = fits.steps.some; few = fits.steps.few }, c.requires.text)),
        ),
      ),
    )

pub invariant_of-self-2 : goal.invariant_of-self-2
invariant_of-self-2 c =
    let i = c.self.inside in
    let more = event_more (get_or i.head.items 0 no_head) i.begun i.right.items i.limits.items i.log i.left i.without i.judged c.self.invariant c.args.event.now c.saturating_sub-self-inside.result (c.saturating_sub-self-inside.ensures ∙ ap (λ n. i.left - n) c.len.ensures.value) in
    let fed = c.in_ok-event.ensures.ok in
    subst (λ (z : CustomReceivedRun). HasReceivedCustom (custom_parts (get_or i.head.items 0 no_head) i.begun z) i.right.items i.limits.items i.log c.saturating_sub-self-inside.result i.without z) (sym fed) more
