use Rattle.std.proofs.Common.{◌≡◌, ◌∙◌, Err, ap, sym, subst}
use Rattle.scripts.specs.{declared.schedule.ScheduleFault.TheVariants.Word, ScheduleText.IsSchedule}
use Rattle.scripts.proofs.StepReading.{text_ended, bad_end}
use Rattle.scripts.proofs.schedule.step_reader.StepReader.finish.Goals as goal

pub returns-in-Ok-clause-found : goal.returns-in-Ok-clause-found
returns-in-Ok-clause-found c = λ text read.
    let r = c.args.self in
    subst (IsSchedule r.cpus text) (ap (λ v. v.items) (sym c.into_steps.ensures)) (text_ended r.cpus text r.steps.items r.word.items read c.end_word.new.self.steps.items c.in-Ok.ensures.ok)

pub returns-in-Err-clause-first_bad : goal.returns-in-Err-clause-first_bad
returns-in-Err-clause-first_bad c = λ text n read e.
    let r = c.args.self in
    let same : c.in-Err.fault ≡ Word n = cc in
    let is = c.in-Err.is ∙ ap Err same in
    bad_end r.cpus text r.steps.items r.word.items read n (c.end_word.ensures.some n is) (c.end_word.ensures.number n is) (c.end_word.ensures.bad n is)
