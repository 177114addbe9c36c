use Rattle.std.proofs.Common.{[], ◌∷◌}
use Rattle.judge.proofs.custom_judge.CustomJudgeRecordSinkCustomForm.begin.Given as goal

abbrev pub ghost-named : goal.ghost-named
ghost-named a = a.about.now ∷ []
