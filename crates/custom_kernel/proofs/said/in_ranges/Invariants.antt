use Rattle.std.proofs.Common.{◌≡◌, take, drop}
use Rattle.custom_kernel.specs.KernelModel.{are_in_ranges}
use Rattle.custom_kernel.proofs.said.in_ranges.Given as goal

abbrev pub invariant-loop-i : goal.invariant-loop-i
invariant-loop-i l = record {
  given : l.given.items ≡ take l.i l.numbers;
  fit : are_in_ranges l.fn.fields l.fn.numbers ≡ are_in_ranges (drop l.i l.fields) (drop l.i l.numbers);
}
