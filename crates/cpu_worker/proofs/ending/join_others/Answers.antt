use Rattle.std.proofs.{Common.{◌≡◌, ◌∷◌, [], ◌++◌, length, map, sym, ap, subst, ◌∙◌, append_assoc, length-append}, lemmas.List.{append-nil, nil_from_length, length-map, map-append}}
use Rattle.std.specs.{List.AllByRecursion, Vec.Iter.into_iter_items}
use Rattle.event_log.proofs.Each.{all_map, all_push}
use Rattle.guarded_cell.specs.Runs.{EachJoins}
use Rattle.guarded_cell.proofs.Joins.{each_self, each_then}
use Rattle.word_rule.proofs.SoundRuns.{room_left}
use Rattle.cpu_worker.proofs.ending.join_others.Goals as goal

pub loop-row-init : goal.loop-row-init
loop-row-init g c =
    let gives : into_iter_items c.into_iter-row-iterator.result ≡ c.args.others.items = c.into_iter-row-iterator.ensures.into_iter_gives.0 in
    record {
      split = gives;
      left = rw gives c.requires.others;
      merged = c.requires.first;
      first = each_self g.C.LockCell.pass_view c.args.first.items;
      rows = tt;
      transcripts = sym (append-nil c.args.transcripts.items);
      room = rw gives c.requires.room;
    }

pub join_rows-merged-requires : goal.join_rows-merged-requires
join_rows-merged-requires g c =
    let i = c.loop-row.invariant in
    let item : _ × _ = (c.in-Some.row, c.in-Some.transcript) in
    let next : into_iter_items c.loop-row.row-iterator ≡ item ∷ into_iter_items c.next.new.self = c.in-Some.ensures.steps.0 in
    let left = rw next at i.left in
    record { merged = i.merged; row = left.0 }

pub loop-row-preserved : goal.loop-row-preserved
loop-row-preserved g c =
    let i = c.loop-row.invariant in
    let view = g.C.LockCell.pass_view in
    let item : _ × _ = (c.in-Some.row, c.in-Some.transcript) in
    let next : into_iter_items c.loop-row.row-iterator ≡ item ∷ into_iter_items c.next.new.self = c.in-Some.ensures.steps.0 in
    let left = rw next at i.left in
    let j = c.join_rows-merged in
    let p = c.push_reserved.ensures in
    let mid = map view c.loop-row.merged.items in
    let after = map view j.result.items in
    let wide : length mid ≡ length after = length-map c.loop-row.merged.items view ∙ (i.merged.count ∙ (sym j.ensures.merged.count ∙ sym (length-map j.result.items view))) in
    let entries : c.from_vec.result ≡ c.in-Some.transcript.items = c.from_vec.ensures in
    let behind = map (λ r. r.1.items) c.loop-row.yielded in
    record {
      split = append_assoc c.loop-row.yielded (item ∷ []) (into_iter_items c.next.new.self) ∙ (rw next at i.split);
      left = left.1;
      merged = j.ensures.merged;
      first = each_then (map view c.args.first.items) mid after wide i.first j.ensures.first;
      rows = all_push (λ r. EachJoins (map view r.0.items) after) c.loop-row.yielded item (all_map (λ r h. each_then (map view r.0.items) mid after wide h j.ensures.first) c.loop-row.yielded i.rows) j.ensures.second;
      transcripts = p.items ∙ (ap (λ l. l ++ c.from_vec.result ∷ []) i.transcripts ∙ (append_assoc c.args.transcripts.items behind (c.from_vec.result ∷ [])
          ∙ ap (λ l. c.args.transcripts.items ++ l) (ap (λ z. behind ++ z ∷ []) entries ∙ sym (map-append (λ r. r.1.items) c.loop-row.yielded (item ∷ [])))));
      room = room_left (length c.loop-row.transcripts.items) (length (into_iter_items c.next.new.self)) _ _ _ (ap length p.items ∙ length-append c.loop-row.transcripts.items (c.from_vec.result ∷ [])) p.capacity (rw next at i.room);
    }

pub returns-clause-others : goal.returns-clause-others
returns-clause-others g c =
    let i = c.loop-row.invariant in
    let none : into_iter_items c.loop-row.row-iterator ≡ [] = nil_from_length _ (sym c.loop-row.row-iterator.rest.ok.0 ∙ c.in-None.ensures.steps.0) in
    let all : c.loop-row.yielded ≡ c.args.others.items = sym (append-nil c.loop-row.yielded) ∙ (rw none at i.split) in
    subst (λ l. AllByRecursion (λ r. EachJoins (map g.C.LockCell.pass_view r.0.items) (map g.C.LockCell.pass_view c.loop-row.merged.items)) l) all i.rows

pub returns-clause-transcripts : goal.returns-clause-transcripts
returns-clause-transcripts g c =
    let i = c.loop-row.invariant in
    let none : into_iter_items c.loop-row.row-iterator ≡ [] = nil_from_length _ (sym c.loop-row.row-iterator.rest.ok.0 ∙ c.in-None.ensures.steps.0) in
    let all : c.loop-row.yielded ≡ c.args.others.items = sym (append-nil c.loop-row.yielded) ∙ (rw none at i.split) in
    i.transcripts ∙ ap (λ l. c.args.transcripts.items ++ map (λ r. r.1.items) l) all
