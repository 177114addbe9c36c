use Rattle.std.proofs.Common.{◌≡◌, ◌++◌, List, ℕ, take}
use Rattle.scripts.specs.ScheduleReading.{HasReadSteps}
use Rattle.scripts.proofs.schedule.step_reader.StepReader.feed.Given as goal

abbrev pub invariant-loop-byte : goal.invariant-loop-byte
invariant-loop-byte l = record {
  cpus : l.self.cpus ≡ l.fn.self.cpus;
  read : (text : List ℕ) → HasReadSteps l.fn.self.cpus text l.fn.self.steps.items l.fn.self.word.items → HasReadSteps l.self.cpus (text ++ take l.byte-index l.piece) l.self.steps.items l.self.word.items;
}
