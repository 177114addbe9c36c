use Rattle.std.proofs.Common.{◌∙◌, ℕ, Err, ap, sym, subst}
use Rattle.scripts.specs.{ScheduleReading.HasReadSteps, ScheduleText.{IsSchedule, IsFirstBadWord}}
use Rattle.scripts.proofs.StepReading.{source_names, end_names}
use Rattle.scripts.proofs.schedule.source.steps_from.Goals as goal

pub returns-in-Err-clause-fault : goal.returns-in-Err-clause-fault
returns-in-Err-clause-fault g c = source_names c.args.cpus _ _ c.new-reader.result c.in-Err.fault c.new-reader.ensures.cpus (λ f e. c.feed_all.ensures.refused f (c.in-Err.is ∙ ap Err e))

pub returns-in-Ok-finish-clause-found : goal.returns-in-Ok-finish-clause-found
returns-in-Ok-finish-clause-found g c =
    let t = c.in-Ok.ensures.taken in
    let r = c.feed_all.new.reader in
    let read = subst (λ (n : ℕ). HasReadSteps n t.0 r.steps.items r.word.items) (sym t.2.same) t.2.read in
    (t.0, t.1, subst (λ (n : ℕ). IsSchedule n t.0 c.in-Ok-finish.steps.items) (t.2.same ∙ c.new-reader.ensures.cpus) (c.in-Ok-finish.ensures.found t.0 read))

pub returns-in-Err-finish-clause-fault : goal.returns-in-Err-finish-clause-fault
returns-in-Err-finish-clause-fault g c =
    let t = c.in-Ok.ensures.taken in
    let r = c.feed_all.new.reader in
    let read = subst (λ (n : ℕ). HasReadSteps n t.0 r.steps.items r.word.items) (sym t.2.same) t.2.read in
    end_names c.args.cpus _ t.0 c.in-Err-finish.fault t.1
    (λ m e. subst (λ (n : ℕ). IsFirstBadWord n t.0 m) (t.2.same ∙ c.new-reader.ensures.cpus) (c.finish.ensures.first_bad t.0 m read (c.in-Err-finish.is ∙ ap Err e)))
