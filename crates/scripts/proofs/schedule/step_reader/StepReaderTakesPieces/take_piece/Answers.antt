use Rattle.std.proofs.Common.{◌++◌, ◌∙◌, ℕ, sym, subst}
use Rattle.scripts.specs.ScheduleReading.{HasReadSteps}
use Rattle.record_lines.proofs.Consuming.{on_ok}
use Rattle.scripts.proofs.schedule.step_reader.StepReaderTakesPieces.take_piece.Goals as goal

pub returns-clause-ok : goal.returns-clause-ok
returns-clause-ok c = λ first text h.
    let old = c.args.self.now in
    let new = c.feed.new.self in
    on_ok c.feed.result (c.feed.ensures.ok text (subst (λ (n : ℕ). HasReadSteps n text old.steps.items old.word.items) (sym h.same) h.read))
    (λ read. record { some = h.some; few = h.few; same = c.feed.ensures.cpus ∙ h.same; read = subst (λ (n : ℕ). HasReadSteps n (text ++ c.args.piece.now) new.steps.items new.word.items) h.same read })
