use Rattle.std.proofs.Common.{get_or, false, sym, ap, subst}
use Rattle.custom_records.specs.{CustomForm.no_head, contracts.custom_form.CustomFormRecordForm.TheImpl.{ghosts as custom_form}}
use Rattle.record_lines.specs.Received.{InTranscripts}
use Rattle.judge.specs.Judging.{custom_parts, Counted, CustomReceivedRun, HasReceivedCustom}
use Rattle.judge.proofs.ReceivedCustom.{in_transcripts, transcript_more}
use Rattle.judge.proofs.custom_judge.CustomJudgeRecordSinkCustomForm.end_transcript.Goals as goal

pub end_transcript-requires : goal.end_transcript-requires
end_transcript-requires c =
    let i = c.self.inside in
    let back = sym (ap (λ (v : Counted). v.parts) c.self.view_is) in
    in_transcripts (get_or i.head.items 0 no_head) i.begun i.right.items i.limits.items i.log i.left i.without i.judged c.self.invariant (subst (InTranscripts custom_form) back c.requires.place)

pub invariant_of-self : goal.invariant_of-self
invariant_of-self c =
    let i = c.self.inside in
    let back = sym (ap (λ (v : Counted). v.parts) c.self.view_is) in
    subst (λ (z : CustomReceivedRun). HasReceivedCustom (custom_parts (get_or i.head.items 0 no_head) false z) i.right.items i.limits.items i.log i.left i.without z) (sym c.end_transcript.ensures)
    (transcript_more (get_or i.head.items 0 no_head) i.begun i.right.items i.limits.items i.log i.left i.without i.judged c.self.invariant (subst (InTranscripts custom_form) back c.requires.place))
