use Rattle.std.proofs.Common.{◌≡◌, true, false, subst}
use Rattle.record_lines.specs.FormStates.{FitsAt}
use Rattle.records.specs.{contracts.record.kernel_form.KernelFormRecordForm.TheImpl.{ghosts as kernel_form}, RecordStates.RecordState}
use Rattle.records.proofs.RecordTexts.{never_idle}
use Rattle.records.proofs.record.state.RecordStateTakesLines.passes.Goals as goal

pub returns-clause-exactly : goal.returns-clause-exactly
returns-clause-exactly g c =
    let fits = subst (λ (s : RecordState). FitsAt kernel_form s.awaits s) c.self.view_is c.within_limits.ensures in
    (λ yes. let both : false ≡ true = yes in absurd cc, λ idle. absurd (never_idle c.args.self.now fits c.args.first idle))
