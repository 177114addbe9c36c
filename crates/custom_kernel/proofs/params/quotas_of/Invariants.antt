use Rattle.std.proofs.Common.{◌≡◌, length, take, drop, nat_le}
use Rattle.std.specs.List.{list_all}
use Rattle.custom_kernel.proofs.params.quotas_of.Given as goal

abbrev pub invariant-loop-owner : goal.invariant-loop-owner
invariant-loop-owner l = record {
  count : length l.quotas ≡ 16;
  taken : take l.owner l.quotas ≡ take l.owner l.numbers;
  fit : list_all (λ q. nat_le q 4096) l.fn.numbers ≡ list_all (λ q. nat_le q 4096) (drop l.owner l.numbers);
}
