use Rattle.std.proofs.Common.{◌≡◌, ◌≤◌, length, take, vec_capacity}
use Rattle.records.proofs.copies.copy_all.Given as goal

abbrev pub invariant-loop-value : goal.invariant-loop-value
invariant-loop-value g l = record {
  copies : l.copies.items ≡ take l.value-index l.values;
  room : length l.values ≤ vec_capacity l.copies;
}
