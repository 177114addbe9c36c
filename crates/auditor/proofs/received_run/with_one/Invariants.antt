use Rattle.std.specs.Prelude.{[], ◌∷◌, ◌++◌}
use Rattle.auditor.proofs.received_run.with_one.Given as goal

abbrev pub ghost-named : goal.ghost-named
ghost-named g a = a.before.now.items ++ a.about.now ∷ []
