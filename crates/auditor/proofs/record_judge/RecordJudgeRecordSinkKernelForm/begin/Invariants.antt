use Rattle.std.proofs.Common.{[], ◌∷◌}
use Rattle.auditor.proofs.record_judge.RecordJudgeRecordSinkKernelForm.begin.Given as goal

abbrev pub ghost-named : goal.ghost-named
ghost-named g a = a.about.now ∷ []
