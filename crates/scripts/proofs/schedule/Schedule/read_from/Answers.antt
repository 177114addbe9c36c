use Rattle.std.proofs.Common.{arith}
use Rattle.scripts.proofs.Schedules.{few_cpus}
use Rattle.scripts.proofs.schedule.Schedule.read_from.Goals as goal

pub steps_from-requires : goal.steps_from-requires
steps_from-requires g c = (omega (arith, c.cpus.ensures.cpus, c.cpus.ensures.fit.cpus.0), omega (arith, c.cpus.ensures.cpus, c.cpus.ensures.fit.cpus.1))

pub invariant_of-result : goal.invariant_of-result
invariant_of-result g c =
    let spelled = c.in_ok-steps.ensures.found.2 in
    (spelled.few, few_cpus c.cpus.result _ c.in_ok-steps.steps.items (omega (arith, c.cpus.ensures.cpus, c.cpus.ensures.fit.cpus.1)) spelled.each)
