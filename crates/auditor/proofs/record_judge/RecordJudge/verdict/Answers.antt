use Rattle.std.proofs.Common.{get_or, ◌≡◌, List, Ok, sym, subst}
use Rattle.std.specs.Prelude.{◌↔◌}
use Rattle.sound_run.specs.Sound.{Sound}
use Rattle.kernel_object.specs.{declared.call.KParams.KParams, contracts.object.KernelObjectSeqObject.TheImpl.{ghosts as kernel}, declared.object.KernelObject.KernelObject}
use Rattle.record_lines.specs.Received.{IsWholeWith}
use Rattle.records.specs.{KernelForm.{no_head, settings_in}, RecordRanges.RecordFits, RecordStates.{KernelReceived, received_record}, Runs.opened_of}
use Rattle.auditor.specs.{declared.fault.Fault.Fault, ByModels.SoundBy, Faults.{IsFirstFault, IsFirstFaultBy}, ReceivedRun.run_of, StepModels.object_model, Terms.Terms}
use Rattle.auditor.proofs.{FaultNumbers.can_be_reported, ReceivedParts.whole_run, ObjectModels.sound_both}
use Rattle.auditor.specs.declared.fault.Verdict.TheVariants as verdict
use Rattle.auditor.proofs.record_judge.RecordJudge.verdict.Goals as goal

pub verdict-requires-clause-run : goal.verdict-requires-clause-run
verdict-requires-clause-run g c =
    let i = c.self.inside in
    let back = sym c.self.view_is in
    (whole_run (get_or i.head.items 0 no_head) i.begun i.opened.items i.log i.judged c.self.invariant (subst (λ (p : KernelReceived). IsWholeWith p.head p) back c.requires.whole) (subst (λ (p : KernelReceived). RecordFits (received_record p)) back c.requires.fit)).3

pub returns-clause-sound : goal.returns-clause-sound
returns-clause-sound g c =
    let i = c.self.inside in
    let back = sym c.self.view_is in
    let same = (whole_run (get_or i.head.items 0 no_head) i.begun i.opened.items i.log i.judged c.self.invariant (subst (λ (p : KernelReceived). IsWholeWith p.head p) back c.requires.whole) (subst (λ (p : KernelReceived). RecordFits (received_record p)) back c.requires.fit)).4 in
    subst (λ (p : KernelReceived). (c.verdict.result ≡ verdict.Sound) ↔ Sound kernel (opened_of (settings_in p.head)) (received_record p).run) c.self.view_is
    (sound_both kernel (opened_of (settings_in (get_or i.head.items 0 no_head))) (run_of i.judged) (subst (λ (os : List (Terms KParams KernelObject)). (c.verdict.result ≡ verdict.Sound) ↔ SoundBy (object_model kernel) os (run_of i.judged)) same c.verdict.ensures.sound))

pub returns-clause-fault : goal.returns-clause-fault
returns-clause-fault g c = λ f.
    let i = c.self.inside in
    let back = sym c.self.view_is in
    let same = (whole_run (get_or i.head.items 0 no_head) i.begun i.opened.items i.log i.judged c.self.invariant (subst (λ (p : KernelReceived). IsWholeWith p.head p) back c.requires.whole) (subst (λ (p : KernelReceived). RecordFits (received_record p)) back c.requires.fit)).4 in
    subst (λ (p : KernelReceived). (c.verdict.result ≡ verdict.Unsound f) ↔ IsFirstFault kernel (opened_of (settings_in p.head)) (received_record p).run f) c.self.view_is
    (subst (λ (os : List (Terms KParams KernelObject)). (c.verdict.result ≡ verdict.Unsound f) ↔ IsFirstFaultBy (object_model kernel) os (run_of i.judged) f) same (c.verdict.ensures.fault f))

pub returns-clause-reported : goal.returns-clause-reported
returns-clause-reported g c = can_be_reported (received_record c.args.self.now) c.requires.fit {E = Fault} (Ok c.verdict.result) (returns-clause-fault g c)
