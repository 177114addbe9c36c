use Rattle.std.proofs.Common.{get_or, false, ℕ, List, ◌+◌, refl, sym, ap, ◌∙◌, subst}
use Rattle.std.specs.Prelude.{slice_index}
use Rattle.custom_records.specs.{CustomForm.no_head, contracts.custom_form.CustomFormRecordForm.TheImpl.{ghosts as custom_form}}
use Rattle.record_lines.specs.Received.{InLogs}
use Rattle.judge.specs.Judging.{custom_parts, Counted, CustomReceivedRun, IsNextWithout, HasReceivedCustom}
use Rattle.judge.proofs.ReceivedCustom.{in_log, log_more}
use Rattle.judge.proofs.custom_judge.CustomJudgeRecordSinkCustomForm.end_log.Goals as goal

pub end_log-requires-clause-log : goal.end_log-requires-clause-log
end_log-requires-clause-log c =
    let i = c.self.inside in
    let back = sym (ap (λ (v : Counted). v.parts) c.self.view_is) in
    in_log (get_or i.head.items 0 no_head) i.begun i.right.items i.limits.items i.log i.left i.without i.judged c.self.invariant (subst (InLogs custom_form) back c.requires.place) (ap (λ (v : Counted). v.parts.begun) c.self.view_is ∙ c.requires.begun)

pub invariant_of-self-2 : goal.invariant_of-self-2
invariant_of-self-2 c =
    let i = c.self.inside in
    let more = log_more (get_or i.head.items 0 no_head) i.begun i.right.items i.limits.items i.log i.left i.without i.judged c.self.invariant (i.log + 1) c.count_at-self-inside.result c.next_without-self-inside.result (ap (λ (v : Counted). v.parts.begun) c.self.view_is ∙ c.requires.begun) refl (c.count_at-self-inside.ensures ∙ ap (λ l. slice_index l (i.log + 1)) c.as_slice-2.ensures.value) (subst (λ (l : List ℕ). IsNextWithout l i.log i.left i.without c.next_without-self-inside.result) c.as_slice.ensures.value c.next_without-self-inside.ensures) in
    let fed = c.in_ok-end_log.ensures.ok in
    subst (λ (z : CustomReceivedRun). HasReceivedCustom (custom_parts (get_or i.head.items 0 no_head) false z) i.right.items i.limits.items (i.log + 1) c.count_at-self-inside.result c.next_without-self-inside.result z) (sym fed) more
