use Rattle.std.proofs.Common.{get_or, List, Result, Ok, Err, sym, subst}
use Rattle.std.specs.Prelude.{IfOk, IfErr}
use Rattle.sound_run.specs.Sound.{Sound}
use Rattle.kernel_object.specs.{declared.call.KParams.KParams, contracts.object.KernelObjectSeqObject.TheImpl.{ghosts as kernel}, KernelTypes.KernelRun, declared.object.KernelObject.KernelObject}
use Rattle.record_lines.specs.Received.{IsWholeWith}
use Rattle.records.specs.{KernelForm.{no_head, settings_in}, RecordRanges.RecordFits, RecordStates.{KernelReceived, received_record}, Runs.opened_of}
use Rattle.auditor.specs.{declared.fault.Fault.Fault, ByModels.SoundBy, Faults.{IsFirstFault, IsFirstFaultBy}, ReceivedRun.run_of, VerdictText.IsNamed, StepModels.object_model, Terms.Terms}
use Rattle.auditor.proofs.{FaultNumbers.first_is_named, ReceivedParts.whole_run, ObjectModels.{sound_from, if_ok}}
use Rattle.auditor.proofs.record_judge.RecordJudge.into_run.Goals as goal

pub into_run-requires-clause-run : goal.into_run-requires-clause-run
into_run-requires-clause-run g c =
    let i = c.self.inside in
    let back = sym c.self.view_is in
    (whole_run (get_or i.head.items 0 no_head) i.begun i.opened.items i.log i.judged c.self.invariant (subst (λ (p : KernelReceived). IsWholeWith p.head p) back c.requires.whole) (subst (λ (p : KernelReceived). RecordFits (received_record p)) back c.requires.fit)).3

pub returns-clause-sound : goal.returns-clause-sound
returns-clause-sound g c =
    let i = c.self.inside in
    let back = sym c.self.view_is in
    let same = (whole_run (get_or i.head.items 0 no_head) i.begun i.opened.items i.log i.judged c.self.invariant (subst (λ (p : KernelReceived). IsWholeWith p.head p) back c.requires.whole) (subst (λ (p : KernelReceived). RecordFits (received_record p)) back c.requires.fit)).4 in
    subst (λ (p : KernelReceived). IfOk c.into_run.result (λ r. Sound kernel (opened_of (settings_in p.head)) (received_record p).run)) c.self.view_is
    (if_ok c.into_run.result (sound_from kernel (opened_of (settings_in (get_or i.head.items 0 no_head))) (run_of i.judged)) (subst (λ (os : List (Terms KParams KernelObject)). IfOk c.into_run.result (λ r. SoundBy (object_model kernel) os (run_of i.judged))) same c.into_run.ensures.sound))

pub returns-clause-fault : goal.returns-clause-fault
returns-clause-fault g c =
    let i = c.self.inside in
    let back = sym c.self.view_is in
    let same = (whole_run (get_or i.head.items 0 no_head) i.begun i.opened.items i.log i.judged c.self.invariant (subst (λ (p : KernelReceived). IsWholeWith p.head p) back c.requires.whole) (subst (λ (p : KernelReceived). RecordFits (received_record p)) back c.requires.fit)).4 in
    subst (λ (p : KernelReceived). IfErr c.into_run.result (IsFirstFault kernel (opened_of (settings_in p.head)) (received_record p).run)) c.self.view_is
    (subst (λ (os : List (Terms KParams KernelObject)). IfErr c.into_run.result (IsFirstFaultBy (object_model kernel) os (run_of i.judged))) same c.into_run.ensures.fault)

named : (p : KernelReceived) → RecordFits (received_record p) → (r : Result KernelRun Fault) → IfErr r (IsFirstFault kernel (opened_of (settings_in p.head)) (received_record p).run) → IfErr r (IsNamed (settings_in p.head))
named p fit (Ok run) h = tt
named p fit (Err f) h = first_is_named (received_record p) fit f h

pub returns-clause-reported : goal.returns-clause-reported
returns-clause-reported g c = named c.args.self c.requires.fit c.into_run.result (returns-clause-fault g c)
