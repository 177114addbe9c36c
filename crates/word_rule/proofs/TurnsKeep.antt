-- Each turn of a lock leaves a lock, and a line that has changed as the step says.
use Rattle.word_rule.specs.Locks.{IsLock}
use Rattle.word_rule.proofs.{LockLaws.{line_fits, turn_keeps}, Orders.Keeps}

pub locks_keep : Keeps IsLock
locks_keep = record { turned = λ n l i h below. turn_keeps n l h i below; few = λ n l h. line_fits n l h }
