use Rattle.std.proofs.Common.{sym, ◌∙◌}
use Rattle.custom_kernel.proofs.Counting.{counting_right, counting_wrong, counting_stays}
use Rattle.custom_kernel.proofs.count.KernelCount.step.Goals as goal

pub invariant_of-self-then-step : goal.invariant_of-self-then-step
invariant_of-self-then-step c =
    counting_right _ c.self.inside.model c.self.inside.goes_on c.self.invariant c.args.step.now c.with_one.result.items c.with_one.ensures c.step.new.self
    c.if-not-self.false (sym c.step.ensures.right ∙ c.if-step.true) c.step.ensures.next

pub invariant_of-self-else-step : goal.invariant_of-self-else-step
invariant_of-self-else-step c =
    counting_wrong _ c.self.inside.model c.self.inside.goes_on c.self.invariant c.args.step.now c.with_one.result.items c.with_one.ensures c.step.new.self
    c.if-not-self.false (sym c.step.ensures.right ∙ c.if-step.false)

pub invariant_of-self : goal.invariant_of-self
invariant_of-self c =
    counting_stays _ c.self.inside.model c.self.inside.goes_on c.self.invariant c.args.step.now c.with_one.result.items c.with_one.ensures c.self.inside.model c.if-not-self.true
