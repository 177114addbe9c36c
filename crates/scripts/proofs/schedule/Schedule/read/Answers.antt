use Rattle.std.proofs.Common.{arith}
use Rattle.scripts.proofs.Schedules.{few_cpus}
use Rattle.scripts.proofs.schedule.Schedule.read.Goals as goal

pub read_steps-requires : goal.read_steps-requires
read_steps-requires c = (omega (arith, c.cpus.ensures.cpus, c.cpus.ensures.fit.cpus.0), omega (arith, c.cpus.ensures.cpus, c.cpus.ensures.fit.cpus.1))

pub invariant_of-result : goal.invariant_of-result
invariant_of-result c =
    let read = c.in_ok-steps.ensures.found in
    (read.few, few_cpus c.cpus.result _ c.in_ok-steps.steps.items (omega (arith, c.cpus.ensures.cpus, c.cpus.ensures.fit.cpus.1)) read.each)
