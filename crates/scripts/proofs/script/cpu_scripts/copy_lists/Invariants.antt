use Rattle.std.proofs.Common.{◌≡◌, ◌≤◌, length, map, take, vec_capacity}
use Rattle.scripts.proofs.script.cpu_scripts.copy_lists.Given as goal

abbrev pub invariant-loop-list : goal.invariant-loop-list
invariant-loop-list l = record {
  copies : map (λ c. c.items) l.copies.items ≡ map (λ c. c.items) (take l.list-index l.lists);
  room : length l.lists ≤ vec_capacity l.copies;
}
