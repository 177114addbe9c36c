use Rattle.std.proofs.Common.{get_or, ◌<◌, length, sym, ap, ◌∙◌, subst, arith, refl}
use Rattle.auditor.specs.ReceivedRun.{done_entry}
use Rattle.custom_records.specs.{Ranges.StepsFit, Writing.custom_entry_of, CustomForm.no_head, contracts.custom_form.CustomFormRecordForm.TheImpl.{ghosts as custom_form}, CustomReceived.CustomReceived}
use Rattle.record_lines.specs.Received.{InTranscripts, with_entry}
use Rattle.judge.specs.Judging.{custom_parts, Counted}
use Rattle.judge.proofs.ReceivedCustom.{in_transcripts, entry_known, steps_fit}
use Rattle.judge.proofs.custom_judge.CustomJudgeRecordSinkCustomForm.recognises.Goals as goal

pub recognises-requires-clause-transcripts : goal.recognises-requires-clause-transcripts
recognises-requires-clause-transcripts c =
    let i = c.self.inside in
    in_transcripts (get_or i.head.items 0 no_head) i.begun i.right.items i.limits.items i.log i.left i.without i.judged c.self.invariant (subst (InTranscripts custom_form) (sym (ap (λ (v : Counted). v.parts) c.self.view_is)) c.requires.place)

pub recognises-requires-clause-count : goal.recognises-requires-clause-count
recognises-requires-clause-count c = subst (λ (p : CustomReceived). length p.entries < p.count) (sym (ap (λ (v : Counted). v.parts) c.self.view_is)) c.requires.more

pub recognises-requires-clause-object : goal.recognises-requires-clause-object
recognises-requires-clause-object c =
    let on = subst (λ (p : CustomReceived). c.args.object < length p.head.so_far.objects) (sym (ap (λ (v : Counted). v.parts) c.self.view_is)) c.requires.object in
    let all = c.self.invariant.objects in
    omega (arith, on, all)

pub invariant_of-self : goal.invariant_of-self
invariant_of-self c =
    let i = c.self.inside in
    entry_known (get_or i.head.items 0 no_head) i.begun i.right.items i.limits.items i.log i.left i.without i.judged c.self.invariant c.recognises.result c.recognises.new.self
    (λ yes. let k = c.recognises.ensures.known yes in (done_entry c.args.object c.args.looks k.0 k.1, k.3)) c.recognises.ensures.unknown

pub returns-clause-known : goal.returns-clause-known
returns-clause-known c = λ yes.
    let i = c.self.inside in
    let k = c.recognises.ensures.known cc in
    let e = custom_entry_of c.args.object c.args.looks k.0 k.1 in
    let back = ap (λ (v : Counted). v.parts) c.self.view_is in
    let logs = (subst (InTranscripts custom_form) (sym back) c.requires.place).logs in (
      e,
      (k.0, k.1, k.2, subst (λ (p : CustomReceived). StepsFit p.head.so_far k.1) back (steps_fit (get_or i.head.items 0 no_head).so_far i.judged.logs c.args.object k.1 logs k.4), refl),
      ap (custom_parts (get_or i.head.items 0 no_head) i.begun) k.3 ∙ ap (λ p. with_entry p e) back,
    )
