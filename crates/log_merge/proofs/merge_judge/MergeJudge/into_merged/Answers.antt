use Rattle.std.proofs.Common.{◌≡◌, refl, sym, ap, ◌∙◌, subst}
use Rattle.sound_run.specs.Sound.{Sound}
use Rattle.kernel_object.specs.{contracts.object.KernelObjectSeqObject.TheImpl.{ghosts as kernel}, KernelTypes.KernelRun}
use Rattle.records.specs.{KernelForm.settings_in, RecordStates.{KernelReceived, received_record}, Runs.opened_of}
use Rattle.auditor.specs.Faults.{IsFirstFault}
use Rattle.log_merge.specs.{declared.run_merge.Merging.Merging, Merging.{IsCycleFound, IsMerging}, Nexts.IsWhole, Prefixes.IsMatched}
use Rattle.log_merge.proofs.{Exclusion.tangle_excludes, SoundRecords.none_first, Matched.matched_of_sound, WholeRuns.{whole_of_fits, few_entries}}
use Rattle.log_merge.specs.declared.run_merge.Merging.TheVariants as merging
use Rattle.log_merge.proofs.merge_judge.MergeJudge.into_merged.Goals as goal

pub merge_run-requires-clause-whole : goal.merge_run-requires-clause-whole
merge_run-requires-clause-whole g c =
    let p = c.args.self in
    let same : c.new-run.result ≡ (received_record p).run = c.new-run.ensures ∙ (c.in-Ok.ensures.run ∙ ap (λ (q : KernelReceived). (received_record q).run) c.self.view_is) in
    subst (λ (r : KernelRun). IsWhole r) (sym same) (whole_of_fits (settings_in p.head) (received_record p).run c.requires.fit.1)

pub merge_run-requires-clause-matched : goal.merge_run-requires-clause-matched
merge_run-requires-clause-matched g c =
    let p = c.args.self in
    let same : c.new-run.result ≡ (received_record p).run = c.new-run.ensures ∙ (c.in-Ok.ensures.run ∙ ap (λ (q : KernelReceived). (received_record q).run) c.self.view_is) in
    let sound : Sound kernel (opened_of (settings_in p.head)) (received_record p).run = subst (λ (q : KernelReceived). Sound kernel (opened_of (settings_in q.head)) (received_record q).run) c.self.view_is c.in-Ok.ensures.sound in
    subst (λ (r : KernelRun). IsMatched r) (sym same) (matched_of_sound kernel (opened_of (settings_in p.head)) (received_record p).run sound)

pub returns-clause-cycle : goal.returns-clause-cycle
returns-clause-cycle g c = λ cycle e.
    let p = c.args.self in
    let run = (received_record p).run in
    let same : c.new-run.result ≡ run = c.new-run.ensures ∙ (c.in-Ok.ensures.run ∙ ap (λ (q : KernelReceived). (received_record q).run) c.self.view_is) in
    let sound : Sound kernel (opened_of (settings_in p.head)) run = subst (λ (q : KernelReceived). Sound kernel (opened_of (settings_in q.head)) (received_record q).run) c.self.view_is c.in-Ok.ensures.sound in
    let is : c.in-Cycle.cycle ≡ cycle = cc in
    let found : IsMerging run (merging.Cycle c.in-Cycle.cycle) = subst (λ (z : KernelRun × Merging). IsMerging z.0 z.1) (λ j. (same j, c.in-Cycle.is j)) c.in_ok-merging.ensures in
    let waiting = subst (IsCycleFound run) is found in
    record { sound = sound; waiting = waiting; none = λ places order. tangle_excludes run cycle waiting.tangle places order }

pub returns-clause-few : goal.returns-clause-few
returns-clause-few g c = λ cycle e.
    let p = c.args.self in
    few_entries (settings_in p.head) (received_record p).run c.requires.fit.1 cycle (returns-clause-cycle g c cycle e).waiting.tangle.cyclic

pub returns-clause-given : goal.returns-clause-given
returns-clause-given g c = λ sound order. absurd ((returns-clause-cycle g c c.in-Cycle.cycle refl).none order.places order.order)

pub returns-in-Err-clause-given : goal.returns-in-Err-clause-given
returns-in-Err-clause-given g c = λ sound order.
    let p = c.args.self in
    let first = subst (λ (q : KernelReceived). IsFirstFault kernel (opened_of (settings_in q.head)) (received_record q).run c.in-Err.fault) c.self.view_is c.in-Err.ensures.fault in
    absurd (none_first (settings_in p.head) (received_record p).run sound c.in-Err.fault first)
