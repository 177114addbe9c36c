use Rattle.std.proofs.Common.{◌≡◌, ◌++◌, ◌≤◌, ◌+◌, length, map, vec_capacity}
use Rattle.std.specs.{List.AllByRecursion, Vec.Iter.into_iter_items}
use Rattle.kernel_object.specs.contracts.object.KernelObjectSeqObject.TheImpl.{ghosts as kernel}
use Rattle.word_rule.specs.Machine.SoundWorld.{IsTodo}
use Rattle.guarded_cell.specs.Workers.{ArePasses, HasDone}
use Rattle.records.specs.declared.record.TheConstants.{MOST_ENTRIES}
use Rattle.cpu_worker.proofs.worker.do_script.Given as goal

abbrev pub invariant-loop-todo : goal.invariant-loop-todo
invariant-loop-todo g l = record {
  split : l.yielded ++ into_iter_items l.todo-iterator ≡ l.fn.todos.items;
  able : AllByRecursion (λ t. IsTodo (length l.cells) t) (into_iter_items l.todo-iterator);
  passes : ArePasses g.C.LockCell.is_pass_of l.cells l.passes.items;
  done : HasDone kernel (map g.C.LockCell.pass_view l.fn.passes.items) l.yielded l.transcript.items (map g.C.LockCell.pass_view l.passes.items);
  room : length l.transcript.items + length (into_iter_items l.todo-iterator) ≤ vec_capacity l.transcript;
  count : l.index ≡ length l.yielded;
  few : length l.fn.todos.items ≤ MOST_ENTRIES;
}
