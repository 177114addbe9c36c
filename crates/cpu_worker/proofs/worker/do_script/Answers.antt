use Rattle.std.proofs.{Common.{◌≡◌, ℕ, List, ◌∷◌, [], ◌++◌, ◌+◌, length, map, refl, sym, ap, subst, ◌∙◌, append_assoc, arith, length-append}, lemmas.List.{append-nil, nil_from_length, length-map}}
use Rattle.std.specs.Vec.Iter.{into_iter_items}
use Rattle.event_log.specs.{declared.entry.Done.TheVariants.NoRoom, Entries.asked_of}
use Rattle.kernel_object.specs.{contracts.object.KernelObjectSeqObject.TheImpl.{ghosts as kernel}, KernelTypes.{KernelTodo, KernelEntry}}
use Rattle.word_rule.specs.Machine.SoundWorld.{IsTodo}
use Rattle.word_rule.proofs.SoundRuns.{room_left}
use Rattle.guarded_cell.specs.Workers.{DidAt, HasDone}
use Rattle.guarded_cell.proofs.Workers.{nothing, entry_more, views_of}
use Rattle.cpu_worker.proofs.Places.{last_read, last_changed}
use Rattle.cpu_worker.proofs.worker.do_script.Given as given
use Rattle.cpu_worker.proofs.worker.do_script.Goals as goal

pub loop-todo-init : goal.loop-todo-init
loop-todo-init g c =
    let r = c.requires in
    let gives : into_iter_items c.into_iter-todo-iterator.result ≡ c.args.todos.items = c.into_iter-todo-iterator.ensures.into_iter_gives.0 in
    record {
      split = gives;
      able = rw gives r.able;
      passes = r.passes;
      done = rw r.empty (nothing kernel (map g.C.LockCell.pass_view c.args.passes.items));
      room = rw (gives, r.empty) (omega (arith, (let h = r.room in h)));
      count = refl;
      few = r.few;
    }

-- the next entry stands behind those that were done
place : (yielded : List KernelTodo) (entries : List KernelEntry) (k : ℕ) → k ≡ length yielded → map asked_of entries ≡ yielded → k ≡ length entries
place yielded entries k count asked = count ∙ (ap length (sym asked) ∙ length-map entries asked_of)

-- an entry before it is done
abbrev undone : KernelTodo → KernelEntry
undone t = record { object = t.object; asked = t.calls; done = NoRoom; looks = 0 }

pub index_mut-requires : goal.index_mut-requires
index_mut-requires g c =
    let i = c.loop-todo.invariant in
    let xs = c.loop-todo.transcript.items in
    let last = place c.loop-todo.yielded xs c.loop-todo.index i.count i.done.asked in
    let long = ap length c.push_reserved.ensures.items ∙ length-append xs (undone c.in-Some.todo ∷ []) in
    let len = c.push_reserved.new.self.ok.0 in
    omega (arith, last, long, len)

-- it is there
there : (g : given.Over) (c : goal.After-index_mut g) → c.index_mut.result.now ≡ undone c.in-Some.todo
there g c =
    let i = c.loop-todo.invariant in
    let xs = c.loop-todo.transcript.items in
    last_read xs c.push_reserved.new.self.items (undone c.in-Some.todo) c.index_mut.result.now c.loop-todo.index c.push_reserved.ensures.items
    (place c.loop-todo.yielded xs c.loop-todo.index i.count i.done.asked) c.index_mut.ensures.value

pub do_at-requires : goal.do_at-requires
do_at-requires g c =
    let i = c.loop-todo.invariant in
    let next : into_iter_items c.loop-todo.todo-iterator ≡ c.in-Some.todo ∷ into_iter_items c.next.new.self = c.in-Some.ensures.steps.0 in
    let able = rw next at i.able in
    record { passes = i.passes; able = subst (λ e. IsTodo (length c.args.cells.now) (asked_of e)) (sym (there g c)) able.0 }

pub overflow_add-index : goal.overflow_add-index
overflow_add-index g c =
    let i = c.loop-todo.invariant in
    let next : into_iter_items c.loop-todo.todo-iterator ≡ c.in-Some.todo ∷ into_iter_items c.next.new.self = c.in-Some.ensures.steps.0 in
    let total = ap length (sym i.split) ∙ length-append c.loop-todo.yielded (into_iter_items c.loop-todo.todo-iterator) in
    let few = i.few in let count = i.count in let one = ap length next in
    omega (arith, total, few, count)

pub loop-todo-preserved : goal.loop-todo-preserved
loop-todo-preserved g c =
    let i = c.loop-todo.invariant in
    let next : into_iter_items c.loop-todo.todo-iterator ≡ c.in-Some.todo ∷ into_iter_items c.next.new.self = c.in-Some.ensures.steps.0 in
    let able = rw next at i.able in
    let split = rw next at i.split in
    let room = rw next at i.room in
    let d = c.do_at in
    let p = c.push_reserved.ensures in
    let xs = c.loop-todo.transcript.items in
    let e = d.new.entry in
    let view = g.C.LockCell.pass_view in
    let before = map view c.args.passes.items in
    let mid = map view c.loop-todo.passes.items in
    let after = map view d.new.passes.items in
    let law = views_of kernel g.C.LockCell.is_pass_of view g.met.C.LockCell.pass_is_valid c.args.cells.now in
    let wide : length after ≡ length mid = length-map d.new.passes.items view ∙ (d.ensures.passes.count ∙ (sym i.passes.count ∙ sym (length-map c.loop-todo.passes.items view))) in
    let did = subst (λ a. DidAt kernel mid (asked_of a) e after) (there g c.before.before.before) d.ensures.did in
    let more = entry_more kernel before mid after c.loop-todo.yielded xs c.in-Some.todo e (law c.loop-todo.passes.items i.passes) (law d.new.passes.items d.ensures.passes) wide i.done did in
    let entries = last_changed xs c.push_reserved.new.self.items (undone c.in-Some.todo) e c.loop-todo.index p.items (place c.loop-todo.yielded xs c.loop-todo.index i.count i.done.asked) in
    record {
      split = append_assoc c.loop-todo.yielded (c.in-Some.todo ∷ []) (into_iter_items c.next.new.self) ∙ split;
      able = able.1;
      passes = d.ensures.passes;
      done = subst (λ l. HasDone kernel before (c.loop-todo.yielded ++ c.in-Some.todo ∷ []) l after) (sym entries) more;
      room = room_left (length xs) (length (into_iter_items c.next.new.self)) _ _ _ (ap length entries ∙ length-append xs (e ∷ [])) p.capacity room;
      count = ap (λ n. n + 1) i.count ∙ sym (length-append c.loop-todo.yielded (c.in-Some.todo ∷ []));
      few = i.few;
    }

pub returns : goal.returns
returns g c =
    let i = c.loop-todo.invariant in
    let none : into_iter_items c.loop-todo.todo-iterator ≡ [] = nil_from_length _ (sym c.loop-todo.todo-iterator.rest.ok.0 ∙ c.in-None.ensures.steps.0) in
    let all : c.loop-todo.yielded ≡ c.args.todos.items = sym (append-nil c.loop-todo.yielded) ∙ (rw none at i.split) in
    record { passes = i.passes; done = subst (λ l. HasDone kernel (map g.C.LockCell.pass_view c.args.passes.items) l c.loop-todo.transcript.items (map g.C.LockCell.pass_view c.loop-todo.passes.items)) all i.done }
