use Rattle.std.proofs.Common.{◌≡◌, [], ◌∷◌, ◌++◌, map, sym, ap, subst, ◌∙◌}
use Rattle.std.specs.List.{AllByRecursion}
use Rattle.event_log.proofs.Joined.{front_and_rest}
use Rattle.guarded_cell.specs.Runs.{EachJoins}
use Rattle.cpu_worker.proofs.ending.join_passes.Given as given
use Rattle.cpu_worker.proofs.ending.join_passes.Goals as goal

-- what the first CPU left, and what the others did
split : (g : given.Over) (c : goal.After-join_others g) → c.args.finished.items ≡ c.remove-first.result ∷ c.remove-first.new.self.items
split g c = let r = c.remove-first in front_and_rest c.args.finished.items r.result c.requires.some r.ensures.value ∙ ap (λ l. r.result ∷ l) (sym r.ensures.items)

pub returns-clause-each : goal.returns-clause-each
returns-clause-each g c =
    let j = c.join_others in
    subst (λ l. AllByRecursion (λ f. EachJoins (map g.C.LockCell.pass_view f.0.items) (map g.C.LockCell.pass_view j.result.0.items)) l) (sym (split g c)) (j.ensures.first, j.ensures.others)

pub returns-clause-transcripts : goal.returns-clause-transcripts
returns-clause-transcripts g c =
    let front = c.push_reserved.ensures.items ∙ (λ i. c.requires.room.0 i ++ c.from_vec.ensures i ∷ []) in
    c.join_others.ensures.transcripts ∙ (ap (λ l. l ++ map (λ f. f.1.items) c.remove-first.new.self.items) front ∙ ap (map (λ f. f.1.items)) (sym (split g c)))
