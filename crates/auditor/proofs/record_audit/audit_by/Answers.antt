use Rattle.std.proofs.Common.{◌≡◌, List, sym, ap, ◌∙◌, subst}
use Rattle.std.specs.Prelude.{◌↔◌, IfOk}
use Rattle.sound_run.specs.Sound.{Opened}
use Rattle.kernel_object.specs.{declared.call.KParams.KParams, contracts.object.KernelObjectSeqObject.TheImpl.{ghosts as kernel}, KernelTypes.KernelRun}
use Rattle.records.specs.Runs.{opened_of}
use Rattle.auditor.specs.{Faults.IsFirstFault, Passes.IsRunOf, Transcripts.opened_by}
use Rattle.auditor.proofs.{FaultNumbers.can_be_reported, RecordRuns.{KernelTerms, record_run}}
use Rattle.auditor.specs.declared.fault.Verdict.TheVariants as verdict
use Rattle.auditor.proofs.record_audit.audit_by.Goals as goal

pub judge_run-requires : goal.judge_run-requires
judge_run-requires g c =
    let same = c.in_ok-opened_objects.ensures ∙ (ap (λ os. opened_of (record { cpus = 0; objects = os })) c.objects.ensures.objects ∙ ap opened_of c.settings.ensures.settings) in
    let run = record_run c.args.record.now c.in_ok-opened_objects.opened_objects.items c.run.ensures.fit same in
    subst (λ (z : List KernelTerms × KernelRun). IsRunOf kernel z.0 z.1) (λ j. (sym c.as_slice.ensures.value j, sym c.run.ensures.run j)) run

pub returns-clause-fault : goal.returns-clause-fault
returns-clause-fault g c =
    let objects = ap opened_by c.as_slice.ensures.value ∙ (c.in_ok-opened_objects.ensures ∙ (ap (λ os. opened_of (record { cpus = 0; objects = os })) c.objects.ensures.objects ∙ ap opened_of c.settings.ensures.settings)) in
    λ f. subst (λ (z : List (Opened KParams) × KernelRun). IfOk c.judge_run.result (λ v. (v ≡ verdict.Unsound f) ↔ IsFirstFault kernel z.0 z.1 f)) (λ j. (objects j, c.run.ensures.run j)) (c.judge_run.ensures.fault f)

pub returns-clause-reported : goal.returns-clause-reported
returns-clause-reported g c =
    let objects = ap opened_by c.as_slice.ensures.value ∙ (c.in_ok-opened_objects.ensures ∙ (ap (λ os. opened_of (record { cpus = 0; objects = os })) c.objects.ensures.objects ∙ ap opened_of c.settings.ensures.settings)) in
    can_be_reported c.args.record.now c.run.ensures.fit c.judge_run.result (λ f. subst (λ (z : List (Opened KParams) × KernelRun). IfOk c.judge_run.result (λ v. (v ≡ verdict.Unsound f) ↔ IsFirstFault kernel z.0 z.1 f)) (λ j. (objects j, c.run.ensures.run j)) (c.judge_run.ensures.fault f))
