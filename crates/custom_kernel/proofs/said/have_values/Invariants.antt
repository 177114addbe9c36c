use Rattle.std.proofs.Common.{◌≡◌, map, drop, bytes_eq}
use Rattle.custom_kernel.proofs.said.have_values.Given as goal

abbrev pub invariant-loop-i : goal.invariant-loop-i
invariant-loop-i l = bytes_eq (map (λ f. f.value) l.fn.fields) l.fn.numbers ≡ bytes_eq (map (λ f. f.value) (drop l.i l.fields)) (drop l.i l.numbers)
