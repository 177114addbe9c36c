use Rattle.auditor.proofs.received_run.named.Given as goal

abbrev pub ghost-named : goal.ghost-named
ghost-named g a = g.next
