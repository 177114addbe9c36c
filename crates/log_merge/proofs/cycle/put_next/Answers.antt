use Rattle.std.proofs.{Common.{◌≡◌, ◌+◌, ◌++◌, ◌∷◌, [], map, take, get_or, slice_index, sym, ap, ◌∙◌, append_assoc}, lemmas.List.{take_all, take_more, map-append}}
use Rattle.log_merge.specs.FoundCycles.{next_place}
use Rattle.log_merge.proofs.Placing.{all_at}
use Rattle.log_merge.proofs.cycle.put_next.Goals as goal

pub bounds-at-cpu : goal.bounds-at-cpu
bounds-at-cpu c = all_at c.args.at.now c.args.cpus.now c.loop-cpu.cpu-index c.requires c.loop-cpu-test.true

pub loop-cpu-preserved : goal.loop-cpu-preserved
loop-cpu-preserved c =
    let f = next_place (slice_index c.args.at.now) in
    let old = c.args.places.now.items in
    let cpus = c.args.cpus.now in
    let i = c.loop-cpu.cpu-index in
    let cpu = get_or cpus i 0 in
    let items : c.push.new.self.items ≡ c.loop-cpu.places.items ++ f cpu ∷ [] = c.in_ok-push.ensures.items in
    let more : map f (take (i + 1) cpus) ≡ map f (take i cpus) ++ f cpu ∷ [] = ap (map f) (take_more cpus i 0 c.loop-cpu-test.true) ∙ map-append f (take i cpus) (cpu ∷ []) in
    items ∙ (ap (λ l. l ++ f cpu ∷ []) c.loop-cpu.invariant ∙ (append_assoc old (map f (take i cpus)) (f cpu ∷ []) ∙ ap (λ l. old ++ l) (sym more)))

pub returns : goal.returns
returns c = c.loop-cpu.invariant ∙ ap (λ l. c.args.places.now.items ++ map (next_place (slice_index c.args.at.now)) l) (take_all c.loop-cpu.cpu-index c.args.cpus.now c.loop-cpu-test.false)
