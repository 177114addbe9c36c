use Rattle.std.proofs.{Common.{◌≡◌, refl, ◌∙◌, ap, map, Some, arith, length}, lemmas.List.map-set, lemmas.Option.{slice_get-map, slice_get_read}}
use Rattle.std.specs.{Prelude.{slice_get, slice_set}, Option.option_map}
use Rattle.scripts.proofs.script.lines.add.Goals as goal

pub returns-clause-ok : goal.returns-clause-ok
returns-clause-ok c =
    let list = c.index_mut-list.result.now in
    let value = c.index_mut-list.ensures.value in
    let at : slice_get c.args.lists.now.items c.args.cpu ≡ Some list = slice_get_read c.args.lists.now.items (length c.args.lists.now.items) c.args.cpu list refl c.requires value in
    record {
      script = list.items;
      is = slice_get-map (λ l. l.items) c.args.lists.now.items c.args.cpu ∙ ap (option_map (λ l. l.items)) at;
      room = omega (arith, c.len.ensures, c.if-len-ge-MOST_ENTRIES.false, list.ok.0);
      added = map-set (λ l. l.items) c.args.lists.now.items c.args.cpu c.push.new.self ∙ ap (slice_set (map (λ l. l.items) c.args.lists.now.items) c.args.cpu) c.in_ok-push.ensures.items;
    }
