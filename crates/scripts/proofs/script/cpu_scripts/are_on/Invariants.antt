use Rattle.std.proofs.Common.{◌≡◌, nat_lt, take, true}
use Rattle.std.specs.List.{list_all}
use Rattle.scripts.proofs.script.cpu_scripts.are_on.Given as goal

abbrev pub invariant-loop-list : goal.invariant-loop-list
invariant-loop-list l = list_all (λ s. list_all (λ t. nat_lt t.object l.objects) s.items) (take l.list-index l.lists) ≡ true
