use Rattle.std.proofs.Common.{◌≡◌, Err, refl, sym, ap, ◌∙◌, subst}
use Rattle.custom_records.specs.{Custom.CustomRun, CustomReceived.received_custom}
use Rattle.log_merge.specs.{Merging.{IsCycleFound, IsMerging}, declared.run_merge.Merging.Merging, Nexts.IsWhole, Prefixes.IsMatched}
use Rattle.auditor.specs.{ByModels.{SoundBy as CountedSound}, Faults.{IsFirstFaultBy as CountedFirst}}
use Rattle.log_merge.proofs.{Exclusion.tangle_excludes, Matched.matched_by_model}
use Rattle.judge.specs.{declared.custom_judge.Mistold.Mistold, Judging.{custom_terms, Counted}, Models.{IsMistold, IsFirstFaultBy}}
use Rattle.judge.proofs.{CountedLogs.by_count, MergedCustom.{custom_whole, sound_by, fault_by, none_first, none_mistold}}
use Rattle.log_merge.specs.declared.run_merge.Merging.TheVariants as merging
use Rattle.judge.specs.declared.custom_merge_judge.CustomMergeFault.TheVariants as fault
use Rattle.judge.proofs.custom_merge_judge.CustomMergeJudge.into_merged.Goals as goal

pub returns-in-Err-clause-mistold : goal.returns-in-Err-clause-mistold
returns-in-Err-clause-mistold c = λ x.
    let m : Mistold = record { object = x } in
    let at = c.in-Err.ensures.mistold x in (
      (λ e. let same : c.in-Err.mistold ≡ m = cc in subst (λ (v : Counted). IsMistold (received_custom v.parts) v.counts x) c.self.view_is (at.0 (ap Err same))),
      (λ h. let e = at.1 (subst (λ (v : Counted). IsMistold (received_custom v.parts) v.counts x) (sym c.self.view_is) h) in let same : c.in-Err.mistold ≡ m = cc in ap (λ (n : Mistold). Err (fault.Mistold n)) same),
    )

pub returns-in-Err-clause-given : goal.returns-in-Err-clause-given
returns-in-Err-clause-given c = λ model are sound order.
    let x = c.in-Err.mistold.object in
    let here = subst (λ (v : Counted). IsMistold (received_custom v.parts) v.counts x) c.self.view_is ((c.in-Err.ensures.mistold x).0 refl) in
    let r = received_custom c.args.self.parts in
    absurd (none_mistold r c.args.self.counts c.requires.fit x here model are)

-- the first fault as counted
pub returns-in-Err-into_run-clause-unsound : goal.returns-in-Err-into_run-clause-unsound
returns-in-Err-into_run-clause-unsound c = λ f e model are.
    let first = subst (λ (v : Counted). CountedFirst by_count (custom_terms v.counts v.parts.head.so_far.objects) (received_custom v.parts).run c.in-Err-into_run.fault) c.self.view_is c.in-Err-into_run.ensures.fault in
    let r = received_custom c.args.self.parts in
    let same : c.in-Err-into_run.fault ≡ f = cc in
    subst (IsFirstFaultBy model r) same (fault_by r c.args.self.counts c.requires.fit c.in-Err-into_run.fault first model are)

pub returns-in-Err-into_run-clause-given : goal.returns-in-Err-into_run-clause-given
returns-in-Err-into_run-clause-given c = λ model are sound order.
    let first = subst (λ (v : Counted). CountedFirst by_count (custom_terms v.counts v.parts.head.so_far.objects) (received_custom v.parts).run c.in-Err-into_run.fault) c.self.view_is c.in-Err-into_run.ensures.fault in
    let r = received_custom c.args.self.parts in
    absurd (none_first r c.args.self.counts c.requires.fit c.in-Err-into_run.fault first model are sound)

pub merge_run-requires-clause-whole : goal.merge_run-requires-clause-whole
merge_run-requires-clause-whole c =
    let r = received_custom c.args.self.parts in
    let same : c.new-run.result ≡ r.run = c.new-run.ensures ∙ (c.in-Ok.ensures.run ∙ ap (λ (v : Counted). (received_custom v.parts).run) c.self.view_is) in
    subst (λ (run : CustomRun). IsWhole run) (sym same) (custom_whole r c.requires.fit)

pub merge_run-requires-clause-matched : goal.merge_run-requires-clause-matched
merge_run-requires-clause-matched c =
    let r = received_custom c.args.self.parts in
    let same : c.new-run.result ≡ r.run = c.new-run.ensures ∙ (c.in-Ok.ensures.run ∙ ap (λ (v : Counted). (received_custom v.parts).run) c.self.view_is) in
    let sound = subst (λ (v : Counted). CountedSound by_count (custom_terms v.counts v.parts.head.so_far.objects) (received_custom v.parts).run) c.self.view_is c.in-Ok.ensures.sound in
    subst (λ (run : CustomRun). IsMatched run) (sym same) (matched_by_model by_count (custom_terms c.args.self.counts c.args.self.parts.head.so_far.objects) r.run sound)

pub returns-in-Order-clause-order : goal.returns-in-Order-clause-order
returns-in-Order-clause-order c = λ model are.
    let r = received_custom c.args.self.parts in
    let same : c.new-run.result ≡ r.run = c.new-run.ensures ∙ (c.in-Ok.ensures.run ∙ ap (λ (v : Counted). (received_custom v.parts).run) c.self.view_is) in
    let sound = subst (λ (v : Counted). CountedSound by_count (custom_terms v.counts v.parts.head.so_far.objects) (received_custom v.parts).run) c.self.view_is c.in-Ok.ensures.sound in
    let found : IsMerging r.run (merging.Order c.in-Order.places) = subst (λ (z : CustomRun × Merging). IsMerging z.0 z.1) (λ j. (same j, c.in-Order.is j)) c.in_ok-merging.ensures in
    record { sound = sound_by r c.args.self.counts c.requires.fit sound model are; ordered = found }

pub returns-clause-cycle : goal.returns-clause-cycle
returns-clause-cycle c = λ cycle e model are.
    let r = received_custom c.args.self.parts in
    let same : c.new-run.result ≡ r.run = c.new-run.ensures ∙ (c.in-Ok.ensures.run ∙ ap (λ (v : Counted). (received_custom v.parts).run) c.self.view_is) in
    let sound = subst (λ (v : Counted). CountedSound by_count (custom_terms v.counts v.parts.head.so_far.objects) (received_custom v.parts).run) c.self.view_is c.in-Ok.ensures.sound in
    let is : c.in-Cycle.cycle ≡ cycle = cc in
    let found : IsMerging r.run (merging.Cycle c.in-Cycle.cycle) = subst (λ (z : CustomRun × Merging). IsMerging z.0 z.1) (λ j. (same j, c.in-Cycle.is j)) c.in_ok-merging.ensures in
    let waiting = subst (IsCycleFound r.run) is found in
    record { sound = sound_by r c.args.self.counts c.requires.fit sound model are; waiting = waiting; none = λ places order. tangle_excludes r.run cycle waiting.tangle places order }

pub returns-clause-given : goal.returns-clause-given
returns-clause-given c = λ model are sound order. absurd ((returns-clause-cycle c c.in-Cycle.cycle refl model are).none order.places order.order)
