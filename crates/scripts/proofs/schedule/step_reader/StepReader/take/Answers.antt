use Rattle.std.proofs.Common.{◌≡◌, ◌++◌, ◌∷◌, ◌∙◌, List, [], ℕ, true, false, sym, subst}
use Rattle.scripts.specs.{ScheduleReading.HasReadSteps, ScheduleText.is_gap}
use Rattle.scripts.proofs.StepReading.{byte_put, word_ended, bad_word, bad_byte}
use Rattle.record_lines.proofs.Consuming.{on_both}
use Rattle.scripts.proofs.schedule.step_reader.StepReader.take.Goals as goal

pub returns-then-is_between-clause-ok : goal.returns-then-is_between-clause-ok
returns-then-is_between-clause-ok c = λ text read.
    let r = c.args.self.now in
    let gap : is_gap c.args.byte ≡ true = sym c.is_between.ensures ∙ c.if-is_between.true in
    on_both c.end_word.result c.end_word.ensures.ok c.end_word.ensures.empty (λ ends empty.
    subst (HasReadSteps r.cpus (text ++ c.args.byte ∷ []) c.end_word.new.self.steps.items) (sym empty)
    (word_ended r.cpus text r.steps.items r.word.items read c.args.byte c.end_word.new.self.steps.items gap ends))

pub returns-then-is_between-clause-refused : goal.returns-then-is_between-clause-refused
returns-then-is_between-clause-refused c = λ text more n read e.
    let r = c.args.self.now in
    let gap : is_gap c.args.byte ≡ true = sym c.is_between.ensures ∙ c.if-is_between.true in
    bad_word r.cpus text r.steps.items r.word.items read c.args.byte more n gap (c.end_word.ensures.some n e) (c.end_word.ensures.number n e) (c.end_word.ensures.bad n e)

pub returns-else-is_between-clause-ok : goal.returns-else-is_between-clause-ok
returns-else-is_between-clause-ok c = λ text read.
    let r = c.args.self.now in
    let no_gap : is_gap c.args.byte ≡ false = sym c.is_between.ensures ∙ c.if-is_between.false in
    on_both c.put.result c.put.ensures.word c.put.ensures.room (λ word room.
    subst (λ (s : List ℕ). HasReadSteps r.cpus (text ++ c.args.byte ∷ []) s c.put.new.self.word.items) (sym c.put.ensures.steps)
    (byte_put r.cpus text r.steps.items r.word.items read c.args.byte c.put.new.self.word.items no_gap room word))

pub returns-else-is_between-clause-refused : goal.returns-else-is_between-clause-refused
returns-else-is_between-clause-refused c = λ text more n read e.
    let r = c.args.self.now in
    let no_gap : is_gap c.args.byte ≡ false = sym c.is_between.ensures ∙ c.if-is_between.false in
    bad_byte r.cpus text r.steps.items r.word.items read c.args.byte more n c.requires.1 no_gap (c.put.ensures.number n e) (c.put.ensures.long n e)
