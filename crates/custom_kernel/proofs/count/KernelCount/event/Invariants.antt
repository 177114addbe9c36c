use Rattle.std.proofs.Common.{◌≡◌, ◌++◌, take}
use Rattle.custom_kernel.proofs.count.KernelCount.event.Given as goal

abbrev pub invariant-loop-step : goal.invariant-loop-step
invariant-loop-step l = record {
  params : l.self.params ≡ l.fn.self.params;
  steps : l.self.steps ≡ l.fn.self.steps ++ take l.step-index l.fn.event.steps.list.items;
}
