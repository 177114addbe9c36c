use Rattle.std.proofs.{Common.{rules, ◌≡◌, suc, ◌∷◌, [], ◌++◌, length, map, refl, sym, ap, ◌∙◌, append_assoc, arith, length-append}, lemmas.List.{append-nil, nil_from_length}}
use Rattle.std.specs.{Option.option_to_list, Vec.Iter.into_iter_items}
use Rattle.word_rule.proofs.SoundRuns.{room_left}
use Rattle.cpu_worker.proofs.ending.close_all.Goals as goal

pub close-requires-clause-pass : goal.close-requires-clause-pass
close-requires-clause-pass g c =
    let i = c.loop-cell.invariant in
    let next : into_iter_items c.loop-cell.cell-iterator ≡ c.in-Some.cell ∷ into_iter_items c.next.new.self = c.in-Some.ensures.steps.0 in
    let took : into_iter_items c.loop-cell.passes ≡ c.unwrap-pass.result ∷ into_iter_items c.next-in-loop-cell.new.self = c.next-in-loop-cell.ensures.items ∙ ap (λ o. option_to_list o ++ into_iter_items c.next-in-loop-cell.new.self) c.unwrap-pass.ensures in
    let left = rw (next, took) at i.left in
    left.each 0 c.in-Some.cell c.unwrap-pass.result refl refl

pub loop-cell-preserved : goal.loop-cell-preserved
loop-cell-preserved g c =
    let i = c.loop-cell.invariant in
    let view = g.C.LockCell.pass_view in
    let p = c.push_reserved.ensures in
    let next : into_iter_items c.loop-cell.cell-iterator ≡ c.in-Some.cell ∷ into_iter_items c.next.new.self = c.in-Some.ensures.steps.0 in
    let took : into_iter_items c.loop-cell.passes ≡ c.unwrap-pass.result ∷ into_iter_items c.next-in-loop-cell.new.self = c.next-in-loop-cell.ensures.items ∙ ap (λ o. option_to_list o ++ into_iter_items c.next-in-loop-cell.new.self) c.unwrap-pass.ensures in
    let left = rw (next, took) at i.left in
    let whole = rw took at i.whole in
    let stored = rw took at i.stored in
    let seen : c.from_vec.result ≡ (view c.unwrap-pass.result).seen = c.from_vec.ensures ∙ (c.into_log-log.ensures.value (rw c.close.ensures.log stored.0) ∙ ap (λ h. h.log) c.close.ensures.log) in
    let rest = map (λ p. (view p).seen) (into_iter_items c.next-in-loop-cell.new.self) in
    let count = left.count in
    record {
      left = record { count = omega (arith, count); each = λ x d q e f. left.each (suc x) d q e f };
      whole = whole.1;
      stored = stored.1;
      all = ap (λ l. l ++ rest) (p.items ∙ ap (λ z. c.loop-cell.logs.items ++ z ∷ []) seen) ∙ (append_assoc c.loop-cell.logs.items ((view c.unwrap-pass.result).seen ∷ []) rest ∙ (rw took at i.all));
      room = room_left (length c.loop-cell.logs.items) (length (into_iter_items c.next.new.self)) _ _ _ (ap length p.items ∙ length-append c.loop-cell.logs.items (c.from_vec.result ∷ [])) p.capacity (rw next at i.room);
    }

pub returns : goal.returns
returns g c =
    let i = c.loop-cell.invariant in
    let none : into_iter_items c.loop-cell.cell-iterator ≡ [] = nil_from_length _ (sym c.loop-cell.cell-iterator.rest.ok.0 ∙ c.in-None.ensures.steps.0) in
    let gives : into_iter_items c.into_iter-passes.result ≡ c.args.passes.items = search rules in
    let count = i.left.count in
    let zero = ap length none in
    let left : into_iter_items c.loop-cell.passes ≡ [] = nil_from_length _ (omega (arith, count, zero)) in
    sym (append-nil c.loop-cell.logs.items) ∙ ((rw left at i.all) ∙ ap (map (λ p. (g.C.LockCell.pass_view p).seen)) gives)
