use Rattle.std.proofs.Common.{◌≡◌, refl, sym, ap, ◌∙◌, subst}
use Rattle.kernel_object.specs.KernelTypes.{KernelRun}
use Rattle.auditor.specs.VerdictText.{CanBeReported}
use Rattle.records.specs.Runs.{opened_of}
use Rattle.log_merge.specs.{declared.run_merge.Merging.Merging, Merging.{IsCycleFound, IsMerging}}
use Rattle.log_merge.proofs.{Exclusion.tangle_excludes, Matched.matched_of_sound, WholeRuns.{whole_of_fits, few_entries}}
use Rattle.auditor.specs.declared.fault.Verdict.TheVariants as verdict
use Rattle.log_merge.specs.declared.run_merge.Merging.TheVariants as merging
use Rattle.log_merge.proofs.record_merge.merge.Goals as goal

pub merge_run-requires-clause-whole : goal.merge_run-requires-clause-whole
merge_run-requires-clause-whole c = rw c.run.ensures.run (whole_of_fits c.args.record.now.settings c.args.record.now.run c.run.ensures.fit.1)

pub merge_run-requires-clause-matched : goal.merge_run-requires-clause-matched
merge_run-requires-clause-matched c = rw c.run.ensures.run (matched_of_sound _ (opened_of c.args.record.now.settings) c.args.record.now.run ((c.in_ok-verdict.ensures.sound).0 c.in-Sound.is))

pub returns-in-Unsound-clause-unsound : goal.returns-in-Unsound-clause-unsound
returns-in-Unsound-clause-unsound c = λ f e.
    let same : c.in-Unsound.fault ≡ f = cc in
    (c.in_ok-verdict.ensures.fault f).0 (c.in-Unsound.is ∙ ap verdict.Unsound same)

pub returns-in-Unsound-clause-reported : goal.returns-in-Unsound-clause-reported
returns-in-Unsound-clause-reported c = λ f e.
    let same : c.in-Unsound.fault ≡ f = cc in
    subst (CanBeReported c.args.record.now.settings) (c.in-Unsound.is ∙ ap verdict.Unsound same) c.in_ok-verdict.ensures.reported

pub returns-in-Cycle-clause-cycle : goal.returns-in-Cycle-clause-cycle
returns-in-Cycle-clause-cycle c = λ cycle e.
    let run = c.args.record.now.run in
    let same : c.in-Cycle.cycle ≡ cycle = cc in
    let found : IsMerging run (merging.Cycle c.in-Cycle.cycle) = subst (λ (z : KernelRun × Merging). IsMerging z.0 z.1) (λ j. (c.run.ensures.run j, c.in-Cycle.is j)) c.in_ok-merging-in-Sound.ensures in
    let waiting = subst (IsCycleFound run) same found in
    record { sound = (c.in_ok-verdict.ensures.sound).0 c.in-Sound.is; waiting = waiting; none = λ places order. tangle_excludes run cycle waiting.tangle places order }

pub returns-in-Cycle-clause-few : goal.returns-in-Cycle-clause-few
returns-in-Cycle-clause-few c = λ cycle e.
    let run = c.args.record.now.run in
    let same : c.in-Cycle.cycle ≡ cycle = cc in
    let found : IsMerging run (merging.Cycle c.in-Cycle.cycle) = subst (λ (z : KernelRun × Merging). IsMerging z.0 z.1) (λ j. (c.run.ensures.run j, c.in-Cycle.is j)) c.in_ok-merging-in-Sound.ensures in
    few_entries c.args.record.now.settings run c.run.ensures.fit.1 cycle (subst (IsCycleFound run) same found).tangle.cyclic

pub returns-in-Unsound-clause-given : goal.returns-in-Unsound-clause-given
returns-in-Unsound-clause-given c = λ sound order.
    let judged = (c.in_ok-verdict.ensures.sound).1 sound in
    absurd (let two : verdict.Unsound c.in-Unsound.fault ≡ verdict.Sound = sym c.in-Unsound.is ∙ judged in cc)

pub returns-in-Cycle-clause-given : goal.returns-in-Cycle-clause-given
returns-in-Cycle-clause-given c = λ sound order. absurd ((returns-in-Cycle-clause-cycle c c.in-Cycle.cycle refl).none order.places order.order)
