use Rattle.std.proofs.{Common.{◌≡◌, ◌∷◌, [], ◌++◌, ◌+◌, length, map, refl, sym, ap, subst, ◌∙◌, append_assoc, arith, length-append, slice_get}, lemmas.List.{append-nil, nil_from_length, length-map}}
use Rattle.std.specs.Vec.Iter.{into_iter_items}
use Rattle.event_log.proofs.Lists.{get_behind}
use Rattle.guarded_cell.specs.Runs.{EachJoins}
use Rattle.guarded_cell.proofs.Joins.{each_self, each_then, each_snoc}
use Rattle.cpu_worker.proofs.ending.join_rows.Goals as goal

pub loop-pass-init : goal.loop-pass-init
loop-pass-init g c =
    let gives : into_iter_items c.into_iter-pass-iterator.result ≡ c.args.row.items = c.into_iter-pass-iterator.ensures.into_iter_gives.0 in
    record {
      split = gives;
      given = c.requires.row;
      merged = c.requires.merged;
      first = each_self g.C.LockCell.pass_view c.args.merged.items;
      second = λ x a b e f. absurd (cc);
      at = refl;
    }

pub join_at-requires : goal.join_at-requires
join_at-requires g c =
    let i = c.loop-pass.invariant in
    let next : into_iter_items c.loop-pass.pass-iterator ≡ c.in-Some.pass ∷ into_iter_items c.next.new.self = c.in-Some.ensures.steps.0 in
    let split : c.loop-pass.yielded ++ c.in-Some.pass ∷ into_iter_items c.next.new.self ≡ c.args.row.items = rw next at i.split in
    let total = ap length (sym split) ∙ length-append c.loop-pass.yielded (c.in-Some.pass ∷ into_iter_items c.next.new.self) in
    let count = i.given.count in
    let at = i.at in
    let there = ap (λ k. slice_get c.args.row.items k) at ∙ (ap (λ l. slice_get l (length c.loop-pass.yielded)) (sym split) ∙ get_behind c.loop-pass.yielded (into_iter_items c.next.new.self) c.in-Some.pass) in
    record { there = omega (arith, total, count, at); merged = i.merged; pass = λ d e. i.given.each c.loop-pass.x d c.in-Some.pass e there }

pub loop-pass-preserved : goal.loop-pass-preserved
loop-pass-preserved g c =
    let i = c.loop-pass.invariant in
    let view = g.C.LockCell.pass_view in
    let next : into_iter_items c.loop-pass.pass-iterator ≡ c.in-Some.pass ∷ into_iter_items c.next.new.self = c.in-Some.ensures.steps.0 in
    let split = rw next at i.split in
    let j = c.join_at in
    let mid = map view c.loop-pass.merged.items in
    let after = map view j.new.merged.items in
    let wide : length mid ≡ length after = length-map c.loop-pass.merged.items view ∙ (i.merged.count ∙ (sym j.ensures.merged.count ∙ sym (length-map j.new.merged.items view))) in
    record {
      split = append_assoc c.loop-pass.yielded (c.in-Some.pass ∷ []) (into_iter_items c.next.new.self) ∙ split;
      given = i.given;
      merged = j.ensures.merged;
      first = each_then (map view c.args.merged.items) mid after wide i.first j.ensures.first;
      second = each_snoc view c.loop-pass.yielded c.in-Some.pass c.loop-pass.x after i.at (each_then (map view c.loop-pass.yielded) mid after wide i.second j.ensures.first) j.ensures.second;
      at = ap (λ n. n + 1) i.at ∙ sym (length-append c.loop-pass.yielded (c.in-Some.pass ∷ []));
    }

pub returns-clause-second : goal.returns-clause-second
returns-clause-second g c =
    let i = c.loop-pass.invariant in
    let none : into_iter_items c.loop-pass.pass-iterator ≡ [] = nil_from_length _ (sym c.loop-pass.pass-iterator.rest.ok.0 ∙ c.in-None.ensures.steps.0) in
    let all : c.loop-pass.yielded ≡ c.args.row.items = sym (append-nil c.loop-pass.yielded) ∙ (rw none at i.split) in
    subst (λ l. EachJoins (map g.C.LockCell.pass_view l) (map g.C.LockCell.pass_view c.loop-pass.merged.items)) all i.second
