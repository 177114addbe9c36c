use Rattle.std.specs.Prelude.{[], ◌∷◌, ◌++◌}
use Rattle.auditor.proofs.received_run.ReceivedRun.receive_recognised.Given as goal

abbrev pub ghost-named : goal.ghost-named
ghost-named g a = a.past.now.items ++ g.entry ∷ []
