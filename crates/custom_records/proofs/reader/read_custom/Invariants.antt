use Rattle.std.proofs.Common.{◌+◌, ◌≤◌, length}
use Rattle.custom_records.specs.contracts.custom_form.CustomFormRecordForm.TheImpl.{ghosts as custom_form}
use Rattle.record_lines.specs.{FormStates.{nothing_read, TakesLine}, LineMachine.TakesText}
use Rattle.custom_records.proofs.reader.read_custom.Given as goal

-- whole lines were taken, and the line number is no greater than the number of bytes behind us
abbrev pub invariant-loop-rest : goal.invariant-loop-rest
invariant-loop-rest g l = TakesText (TakesLine custom_form) l.text (nothing_read custom_form) 1 l.rest l.state l.number × (l.number + length l.rest ≤ length l.text + 1)

abbrev pub decreases-loop-rest : goal.decreases-loop-rest
decreases-loop-rest g l = length l.rest
