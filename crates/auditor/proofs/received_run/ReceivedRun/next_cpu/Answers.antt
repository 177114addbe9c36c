use Rattle.std.proofs.Common.{length, ap, arith}
use Rattle.auditor.specs.ReceivedRun.{ReceivedRun}
use Rattle.auditor.proofs.received_run.ReceivedRun.next_cpu.Goals as goal

pub overflow_add-result : goal.overflow_add-result
overflow_add-result g c =
    let i = c.self.invariant in
    let a = ap (λ (d : ReceivedRun _ _ _ _ _). length d.transcripts) c.self.view_is in
    let b = ap (λ (d : ReceivedRun _ _ _ _ _). d.cpus) c.self.view_is in
    let lt = c.requires in
    omega (arith, a, b, i.1, lt)

pub returns : goal.returns
returns g c =
    let i = c.self.invariant in
    let a = ap (λ (d : ReceivedRun _ _ _ _ _). length d.transcripts) c.self.view_is in
    omega (arith, a, i.1)
