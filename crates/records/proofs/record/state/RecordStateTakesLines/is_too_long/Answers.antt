use Rattle.std.proofs.{Common.{◌∷◌, ◌<◌, subst, arith}, lemmas.Bool.ltb-true}
use Rattle.record_lines.specs.FormStates.{FitsAt}
use Rattle.records.specs.{contracts.record.kernel_form.KernelFormRecordForm.TheImpl.{ghosts as kernel_form}, RecordStates.RecordState}
use Rattle.records.proofs.RecordTexts.{long_refused}
use Rattle.records.proofs.record.state.RecordStateTakesLines.is_too_long.Goals as goal

pub returns-clause-refused : goal.returns-clause-refused
returns-clause-refused g c = λ over rest enough.
    let fits = subst (λ (s : RecordState). FitsAt kernel_form s.awaits s) c.self.view_is c.within_limits.ensures in
    let long : 1024 < c.args.count = ltb-true 1024 c.args.count over in
    long_refused c.args.self.now (c.args.first ∷ rest) fits (omega (arith, enough, long))
