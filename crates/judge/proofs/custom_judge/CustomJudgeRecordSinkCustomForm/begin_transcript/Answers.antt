use Rattle.std.proofs.Common.{get_or, true, sym, ap, subst}
use Rattle.custom_records.specs.{CustomForm.no_head, contracts.custom_form.CustomFormRecordForm.TheImpl.{ghosts as custom_form}}
use Rattle.record_lines.specs.Received.{InTranscripts}
use Rattle.judge.specs.Judging.{custom_parts, Counted, CustomReceivedRun, HasReceivedCustom}
use Rattle.judge.proofs.ReceivedCustom.{in_transcripts, transcript_opened}
use Rattle.judge.proofs.custom_judge.CustomJudgeRecordSinkCustomForm.begin_transcript.Goals as goal

pub begin_transcript-requires : goal.begin_transcript-requires
begin_transcript-requires c =
    let i = c.self.inside in
    let back = sym (ap (λ (v : Counted). v.parts) c.self.view_is) in
    (in_transcripts (get_or i.head.items 0 no_head) i.begun i.right.items i.limits.items i.log i.left i.without i.judged c.self.invariant (subst (InTranscripts custom_form) back c.requires.place)).logs

pub invariant_of-self : goal.invariant_of-self
invariant_of-self c =
    let i = c.self.inside in
    let back = sym (ap (λ (v : Counted). v.parts) c.self.view_is) in
    subst (λ (z : CustomReceivedRun). HasReceivedCustom (custom_parts (get_or i.head.items 0 no_head) true z) i.right.items i.limits.items i.log i.left i.without z) (sym c.begin_transcript.ensures)
    (transcript_opened (get_or i.head.items 0 no_head) i.begun i.right.items i.limits.items i.log i.left i.without i.judged c.self.invariant c.args.count (subst (InTranscripts custom_form) back c.requires.place))
