use Rattle.std.proofs.{Common.{◌≡◌, ◌∷◌, [], ◌+◌, ◌<◌, ◌≤◌, length, refl, sym, ap, subst, ◌∙◌, append_assoc, arith, length-append, slice_get, Some, vec_len, vec_capacity, Vec, Global}, lemmas.List.{append-nil, nil_from_length}}
use Rattle.std.specs.Vec.Iter.{into_iter_items}
use Rattle.event_log.proofs.{Each.each_at, Lists.some_at}
use Rattle.sound_run.proofs.Slices.{read_get}
use Rattle.cpu_worker.proofs.Deals.{none_dealt, one_dealt, row_there}
use Rattle.cpu_worker.proofs.run_preparation.deal.Given as given
use Rattle.cpu_worker.proofs.run_preparation.deal.Goals as goal

pub loop-x-init : goal.loop-x-init
loop-x-init g c = record { split = c.into_iter-x-iterator.ensures.into_iter_gives.0; at = refl; dealt = none_dealt c.args.rows.now.items }

pub index_mut-requires : goal.index_mut-requires
index_mut-requires g c =
    let i = c.loop-x.invariant in
    let next : into_iter_items c.loop-x.x-iterator ≡ c.in-Some.x ∷ into_iter_items c.next.new.self = c.in-Some.ensures.steps.0 in
    let count : length c.args.elements.items ≡ vec_len c.loop-x.rows = sym c.args.elements.ok.0 ∙ (c.requires.count ∙ (c.args.rows.now.ok.0 ∙ (sym i.dealt.count ∙ sym c.loop-x.rows.ok.0))) in
    row_there c.loop-x.yielded (into_iter_items c.next.new.self) c.args.elements.items c.in-Some.x (vec_len c.loop-x.rows) c.loop-x.k (rw next at i.split) i.at count

-- the row is there
there : (g : given.Over) (c : goal.After-index_mut g) → slice_get c.loop-x.rows.items c.loop-x.k ≡ Some c.index_mut.result.now
there g c =
    let i = c.loop-x.invariant in
    let next : into_iter_items c.loop-x.x-iterator ≡ c.in-Some.x ∷ into_iter_items c.next.new.self = c.in-Some.ensures.steps.0 in
    let count : length c.args.elements.items ≡ length c.loop-x.rows.items = sym c.args.elements.ok.0 ∙ (c.requires.count ∙ (c.args.rows.now.ok.0 ∙ sym i.dealt.count)) in
    let within = row_there c.loop-x.yielded (into_iter_items c.next.new.self) c.args.elements.items c.in-Some.x (length c.loop-x.rows.items) c.loop-x.k (rw next at i.split) i.at count in
    read_get c.loop-x.rows.items c.loop-x.k c.index_mut.result.now within c.index_mut.ensures.value

pub push_reserved-requires : goal.push_reserved-requires
push_reserved-requires g c =
    let i = c.loop-x.invariant in
    let row = c.index_mut.result.now in
    let next : into_iter_items c.loop-x.x-iterator ≡ c.in-Some.x ∷ into_iter_items c.next.new.self = c.in-Some.ensures.steps.0 in
    let count : length c.args.elements.items ≡ length c.args.rows.now.items = sym c.args.elements.ok.0 ∙ (c.requires.count ∙ c.args.rows.now.ok.0) in
    let within = row_there c.loop-x.yielded (into_iter_items c.next.new.self) c.args.elements.items c.in-Some.x (length c.args.rows.now.items) c.loop-x.k (rw next at i.split) i.at count in
    let old = some_at c.args.rows.now.items c.loop-x.k within in
    let past : length c.loop-x.yielded ≤ c.loop-x.k = let at = i.at in omega (arith, at) in
    let same : row ≡ old.0 = i.dealt.others c.loop-x.k old.0 row past old.1 (there g c) in
    let room : length old.0.items < vec_capacity old.0 = each_at (λ (r : Vec g.row.T.Denot Global). length r.items < vec_capacity r) c.args.rows.now.items c.loop-x.k old.0 c.requires.room old.1 in
    let fits : length row.items < vec_capacity row = subst (λ (r : Vec g.row.T.Denot Global). length r.items < vec_capacity r) (sym same) room in
    let len = row.ok.0 in
    omega (arith, fits, len)

pub loop-x-preserved : goal.loop-x-preserved
loop-x-preserved g c =
    let i = c.loop-x.invariant in
    let p = c.push_reserved.ensures in
    let next : into_iter_items c.loop-x.x-iterator ≡ c.in-Some.x ∷ into_iter_items c.next.new.self = c.in-Some.ensures.steps.0 in
    record {
      split = append_assoc c.loop-x.yielded (c.in-Some.x ∷ []) (into_iter_items c.next.new.self) ∙ (rw next at i.split);
      at = ap (λ n. n + 1) i.at ∙ sym (length-append c.loop-x.yielded (c.in-Some.x ∷ []));
      dealt = one_dealt c.args.rows.now.items c.loop-x.rows.items c.loop-x.yielded c.loop-x.k c.index_mut.result.now c.push_reserved.new.self c.in-Some.x i.at (there g c.before.before) (p.items, p.capacity) i.dealt;
    }

pub returns-clause-count : goal.returns-clause-count
returns-clause-count g c = c.loop-x.rows.ok.0 ∙ (c.loop-x.invariant.dealt.count ∙ sym c.args.rows.now.ok.0)

pub returns-clause-dealt : goal.returns-clause-dealt
returns-clause-dealt g c k old new x e f h =
    let i = c.loop-x.invariant in
    let none : into_iter_items c.loop-x.x-iterator ≡ [] = nil_from_length _ (sym c.loop-x.x-iterator.rest.ok.0 ∙ c.in-None.ensures.steps.0) in
    let all : c.loop-x.yielded ≡ c.args.elements.items = sym (append-nil c.loop-x.yielded) ∙ (rw none at i.split) in
    i.dealt.dealt k old new x e f (ap (λ l. slice_get l k) all ∙ h)
