use Rattle.std.proofs.{Common.{◌≡◌, ◌∷◌, [], ◌++◌, ◌+◌, ◌<◌, ℕ, List, length, map, take, sym, ap, subst, ◌∙◌, arith, length-append, vec_capacity}, lemmas.List.{map-append, take_all}, lemmas.Option.slice_get_within}
use Rattle.event_log.proofs.Lists.{some_at}
use Rattle.guarded_cell.specs.Kinds.{IsPassOf}
use Rattle.records.specs.Settings.{ObjectSettings}
use Rattle.records.proofs.SoundRanges.{all_at as all_by_place}
use Rattle.word_rule.specs.{Cell.{cell_of, opening_pass}, Passes.view_of_pass}
use Rattle.word_rule.proofs.Openings.{take_more}
use Rattle.cpu_worker.specs.Opening.{IsRow, cell_for}
use Rattle.cpu_worker.proofs.Rows.{row_next}
use Rattle.cpu_worker.proofs.run_preparation.open_cells.Goals as goal

pub deal-requires-clause-room : goal.deal-requires-clause-room
deal-requires-clause-room c =
    let i = c.loop-object.invariant in
    all_by_place (λ r. length r.items < vec_capacity r) c.loop-object.rows.items (λ k row e.
    let r = i.rows k row e in
    let wide = r.0.passes.count in
    let room = r.1 in
    let cells = i.cells in
    let more = c.loop-object-test.true in
    let all = ap length i.objects in
    omega (arith, wide, room, cells, more, all))

pub loop-object-preserved : goal.loop-object-preserved
loop-object-preserved c =
    let i = c.loop-object.invariant in
    let p = c.push_reserved.ensures in
    let o = c.object-item.result in
    let n : ℕ = c.args.settings.now.cpus in
    let items = c.objects-object-items.result.now in
    let before = map (cell_for n) (take c.loop-object.object-index items) in
    let all : map (cell_for n) (take (c.loop-object.object-index + 1) items) ≡ before ++ cell_for n o ∷ [] =
    ap (map (cell_for n)) (take_more items c.loop-object.object-index o c.loop-object-test.true c.object-item.is) ∙ map-append (cell_for n) (take c.loop-object.object-index items) (o ∷ []) in
    record {
      objects = i.objects;
      count = c.deal.ensures.count ∙ i.count;
      cells = ap length p.items ∙ (length-append c.loop-object.cells.items (c.in-Ok.cell ∷ []) ∙ ap (λ m. m + 1) i.cells);
      room = let r = i.room in let s = p.capacity in omega (arith, r, s);
      rows = λ k new e.
          let lt = slice_get_within c.deal.new.rows.items k new e in
          let olds : length c.loop-object.rows.items ≡ length c.deal.new.rows.items = sym c.loop-object.rows.ok.0 ∙ (sym c.deal.ensures.count ∙ c.deal.new.rows.ok.0) in
          let given : length c.in-Ok.passes.items ≡ length c.loop-object.rows.items = sym c.in-Ok.passes.ok.0 ∙ (c.in-Ok.ensures.count ∙ (c.cpus-in-loop-object.ensures.cpus ∙ (sym i.count ∙ c.loop-object.rows.ok.0))) in
          let old = some_at c.loop-object.rows.items k (omega (arith, lt, olds)) in
          let pass = some_at c.in-Ok.passes.items k (omega (arith, lt, olds, given)) in
          let d = c.deal.ensures.dealt k old.0 new pass.0 old.1 e pass.1 in
          let r = i.rows k old.0 old.1 in
          let reported = c.in-Ok.ensures.passes k pass.0 pass.1 in
          let view : view_of_pass pass.0 ≡ opening_pass (cell_for n o) k = reported.1 ∙ (λ j. opening_pass (cell_of (c.lock.ensures j) 0 (c.cpus-in-loop-object.ensures.cpus j) (c.in_ok-logged.ensures.opened j)) k) in
          let room = r.1 in let same = d.1 in (
            row_next IsPassOf view_of_pass before c.loop-object.cells.items k old.0.items (cell_for n o) c.in-Ok.cell pass.0 r.0 reported.0 view
                (map (cell_for n) (take (c.loop-object.object-index + 1) items)) c.push_reserved.new.self.items new.items all p.items d.0,
            omega (arith, room, same),
          );
    }

pub returns-clause-rows : goal.returns-clause-rows
returns-clause-rows c k row e =
    let i = c.loop-object.invariant in
    let items = c.objects-object-items.result.now in
    let n : ℕ = c.args.settings.now.cpus in
    let end = c.loop-object-test.false in
    let all : take c.loop-object.object-index items ≡ c.args.settings.now.objects = take_all c.loop-object.object-index items (omega (arith, end)) ∙ i.objects in
    subst (λ (l : List ObjectSettings). IsRow IsPassOf view_of_pass (map (cell_for n) l) c.loop-object.cells.items k row.items) all (i.rows k row e).0
