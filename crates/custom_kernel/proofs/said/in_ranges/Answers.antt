use Rattle.std.proofs.Common.{refl, arith}
use Rattle.custom_kernel.proofs.Fields.{in_ranges_count}
use Rattle.custom_kernel.proofs.said.in_ranges.Goals as goal

pub returns-then-numbers-fields : goal.returns-then-numbers-fields
returns-then-numbers-fields c = rw (in_ranges_count c.args.fields.now c.args.numbers.now (λ e. omega (arith, c.if-numbers-fields.true, e))) refl
