use Rattle.std.proofs.Common.{get_or, ◌<◌, length, sym, ap, subst, arith}
use Rattle.custom_records.specs.{Ranges.EntryFits, CustomForm.no_head, contracts.custom_form.CustomFormRecordForm.TheImpl.{ghosts as custom_form}, CustomReceived.CustomReceived}
use Rattle.record_lines.specs.Received.{InTranscripts}
use Rattle.judge.specs.Judging.{Counted}
use Rattle.judge.proofs.ReceivedCustom.{in_transcripts}
use Rattle.judge.proofs.custom_judge.CustomJudgeRecordSinkCustomForm.entry.Goals as goal

pub entry-requires : goal.entry-requires
entry-requires c =
    let i = c.self.inside in
    let back = sym (ap (λ (v : Counted). v.parts) c.self.view_is) in
    let fits = subst (λ (p : CustomReceived). EntryFits p.head.so_far c.args.entry.now) back c.requires.fit in
    let on = fits.object in
    let all = c.self.invariant.objects in (
      omega arith,
      (
        in_transcripts (get_or i.head.items 0 no_head) i.begun i.right.items i.limits.items i.log i.left i.without i.judged c.self.invariant (subst (InTranscripts custom_form) back c.requires.place),
        (subst (λ (p : CustomReceived). length p.entries < p.count) back c.requires.more, omega (arith, on, all)),
      ),
    )
