use Rattle.std.proofs.{Common.{◌≡◌, ◌≤◌, ◌∙◌, List, [], ℕ, Err, IfOk, ap, sym, subst}, lemmas.List.append-nil}
use Rattle.sound_run.specs.declared.limits.TheConstants.{MOST_CPUS}
use Rattle.scripts.specs.{declared.schedule.ScheduleFault.TheVariants.Word, ScheduleReading.HasReadSteps, ScheduleText.{IsSchedule, IsFirstBadWord}}
use Rattle.scripts.proofs.Schedules.{bad_is_not_good}
use Rattle.scripts.proofs.schedule.read_steps.Goals as goal

pub feed-requires : goal.feed-requires
feed-requires c = subst (λ (n : ℕ). (1 ≤ n) × (n ≤ MOST_CPUS)) (sym c.new-reader.ensures.cpus) c.requires

pub finish-requires : goal.finish-requires
finish-requires c = subst (λ (n : ℕ). (1 ≤ n) × (n ≤ MOST_CPUS)) (sym (c.feed.ensures.cpus ∙ c.new-reader.ensures.cpus)) c.requires

pub returns-in-Ok-clause-found : goal.returns-in-Ok-clause-found
returns-in-Ok-clause-found c =
    let text : List ℕ = c.args.text.now in
    let r = c.new-reader.result in
    let none = subst (λ (n : ℕ). HasReadSteps n [] r.steps.items r.word.items) (sym c.new-reader.ensures.cpus) c.new-reader.ensures.none in
    let read = subst (λ (n : ℕ). HasReadSteps n text c.feed.new.self.steps.items c.feed.new.self.word.items) (sym c.feed.ensures.cpus) (c.in-Ok.ensures.ok [] none) in
    subst (λ (n : ℕ). IfOk c.finish.result (λ s. IsSchedule n text s.items)) (c.feed.ensures.cpus ∙ c.new-reader.ensures.cpus) (c.finish.ensures.found text read)

pub returns-in-Ok-clause-first_bad : goal.returns-in-Ok-clause-first_bad
returns-in-Ok-clause-first_bad c = λ m e.
    let text : List ℕ = c.args.text.now in
    let r = c.new-reader.result in
    let none = subst (λ (n : ℕ). HasReadSteps n [] r.steps.items r.word.items) (sym c.new-reader.ensures.cpus) c.new-reader.ensures.none in
    let read = subst (λ (n : ℕ). HasReadSteps n text c.feed.new.self.steps.items c.feed.new.self.word.items) (sym c.feed.ensures.cpus) (c.in-Ok.ensures.ok [] none) in
    subst (λ (n : ℕ). IsFirstBadWord n text m) (c.feed.ensures.cpus ∙ c.new-reader.ensures.cpus) (c.finish.ensures.first_bad text m read e)

pub returns-in-Ok-clause-no_schedule : goal.returns-in-Ok-clause-no_schedule
returns-in-Ok-clause-no_schedule c = λ n steps e. bad_is_not_good c.args.cpus c.args.text.now n steps (returns-in-Ok-clause-first_bad c n e)

pub returns-in-Err-clause-first_bad : goal.returns-in-Err-clause-first_bad
returns-in-Err-clause-first_bad c = λ m e.
    let same : c.in-Err.fault ≡ Word m = cc in
    let text : List ℕ = c.args.text.now in
    let r = c.new-reader.result in
    let none = subst (λ (n : ℕ). HasReadSteps n [] r.steps.items r.word.items) (sym c.new-reader.ensures.cpus) c.new-reader.ensures.none in
    subst (λ (n : ℕ). IsFirstBadWord n text m) c.new-reader.ensures.cpus
    (subst (λ (t : List ℕ). IsFirstBadWord r.cpus t m) (append-nil text) (c.feed.ensures.refused [] [] m none (c.in-Err.is ∙ ap Err same)))

pub returns-in-Err-clause-no_schedule : goal.returns-in-Err-clause-no_schedule
returns-in-Err-clause-no_schedule c = λ n steps e. bad_is_not_good c.args.cpus c.args.text.now n steps (returns-in-Err-clause-first_bad c n e)
