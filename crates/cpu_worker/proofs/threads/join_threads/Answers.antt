use Rattle.std.proofs.{Common.{◌≡◌, ◌∷◌, [], ◌++◌, length, sym, ap, subst, ◌∙◌, append_assoc, length-append}, lemmas.List.{append-nil, nil_from_length}}
use Rattle.std.specs.{List.AllZip, Vec.Iter.into_iter_items}
use Rattle.word_rule.proofs.{Openings.zip_push, SoundRuns.room_left}
use Rattle.guarded_cell.specs.Kinds.{IsPassOf}
use Rattle.word_rule.specs.Passes.{view_of_pass}
use Rattle.cpu_worker.specs.Work.{IsDone}
use Rattle.cpu_worker.proofs.threads.join_threads.Goals as goal

pub loop-handle-preserved : goal.loop-handle-preserved
loop-handle-preserved g c =
    let i = c.loop-handle.invariant in
    let p = c.push_reserved.ensures in
    let next : into_iter_items c.loop-handle.handle-iterator ≡ c.in-Some.handle ∷ into_iter_items c.next.new.self = c.in-Some.ensures.steps.0 in
    record {
      split = append_assoc c.loop-handle.yielded (c.in-Some.handle ∷ []) (into_iter_items c.next.new.self) ∙ (rw next at i.split);
      joined = subst (λ l. AllZip (λ h r. IsDone IsPassOf view_of_pass h.promise.cells.value.items h.promise.job.value.passes.items h.promise.job.value.todos.items r.0.items r.1.items) (c.loop-handle.yielded ++ c.in-Some.handle ∷ []) l) (sym p.items)
          (zip_push (λ h r. IsDone IsPassOf view_of_pass h.promise.cells.value.items h.promise.job.value.passes.items h.promise.job.value.todos.items r.0.items r.1.items) c.loop-handle.yielded c.loop-handle.finished.items c.in-Some.handle c.join.result i.joined c.join.ensures);
      room = room_left (length c.loop-handle.finished.items) (length (into_iter_items c.next.new.self)) _ _ _ (ap length p.items ∙ length-append c.loop-handle.finished.items (c.join.result ∷ [])) p.capacity (rw next at i.room);
    }

pub returns : goal.returns
returns g c =
    let i = c.loop-handle.invariant in
    let none : into_iter_items c.loop-handle.handle-iterator ≡ [] = nil_from_length _ (sym c.loop-handle.handle-iterator.rest.ok.0 ∙ c.in-None.ensures.steps.0) in
    let all : c.loop-handle.yielded ≡ c.args.handles.items = sym (append-nil c.loop-handle.yielded) ∙ (rw none at i.split) in
    subst (λ l. AllZip (λ h r. IsDone IsPassOf view_of_pass h.promise.cells.value.items h.promise.job.value.passes.items h.promise.job.value.todos.items r.0.items r.1.items) l c.loop-handle.finished.items) all i.joined
