use Rattle.std.proofs.{Common.{◌≡◌, ℕ, ◌+◌, ◌-◌, ◌<◌, length, get_or, ap, ◌∙◌, subst, arith, slice_get, Some}, Math.ListN.set}
use Rattle.std.specs.List.{SwappedAt}
use Rattle.sound_run.proofs.Slices.{read_get, get_set_same, one_of, map_get}
use Rattle.guarded_cell.specs.Runs.{Joins}
use Rattle.cpu_worker.proofs.Places.{put_back}
use Rattle.guarded_cell.proofs.{SoundRuns.{joins_first, joins_second}, Joins.set_joins}
use Rattle.cpu_worker.proofs.ending.join_at.Given as given
use Rattle.cpu_worker.proofs.ending.join_at.Goals as goal

placed : (g : given.Over) (c : goal.After-swap g) → c.swap.new.self.items ≡ set c.args.merged.now.items c.args.x c.join-joined.result
placed g c =
    let p = c.swap_remove-first in
    let x : ℕ = c.args.x in
    let xs = c.args.merged.now.items in
    let wide : c.args.merged.now.len ≡ length xs = let o = c.args.merged.now.ok.0 in omega (arith, o) in
    let below : x < length c.args.cells.now = c.requires.there in
    let within : x < length xs = let n = c.requires.merged.count in omega (arith, n, below) in
    let shorter : length p.new.self.items + 1 ≡ length xs = let l = p.ensures.len in let n = p.new.self.ok.0 in omega (arith, l, wide, n) in
    let same : length c.swap.new.self.items ≡ length c.push_reserved.new.self.items = let l = c.swap.ensures.len in let o = c.swap.new.self.ok.0 in let n = c.push_reserved.new.self.ok.0 in omega (arith, l, o, n) in
    let last : c.len-last.result ≡ length p.new.self.items = let l = c.len-last.ensures in let n = p.new.self.ok.0 in omega (arith, l, n) in
    put_back xs p.new.self.items c.push_reserved.new.self.items c.swap.new.self.items x c.join-joined.result within shorter
    ((λ d h. p.ensures.by_index.0 d (omega (arith, h, wide)) ∙ ap (λ n. get_or xs (n - 1) d) wide), (λ k d ne h. p.ensures.by_index.1 k d ne (omega (arith, h, wide))))
    c.push_reserved.ensures.items same (subst (λ n. SwappedAt c.push_reserved.new.self.items c.swap.new.self.items x n) last c.swap.ensures.by_index)

was : (g : given.Over) (c : goal.After-swap g) → slice_get c.args.merged.now.items c.args.x ≡ Some c.swap_remove-first.result
was g c =
    let below : c.args.x < length c.args.cells.now = c.requires.there in
    let within : c.args.x < length c.args.merged.now.items = let n = c.requires.merged.count in omega (arith, n, below) in
    read_get c.args.merged.now.items c.args.x c.swap_remove-first.result within c.swap_remove-first.ensures.value

pub returns-clause-first : goal.returns-clause-first
returns-clause-first g c =
    let view = g.C.LockCell.pass_view in
    let j = c.join-joined in
    set_joins view c.args.merged.now.items c.swap.new.self.items c.args.x c.swap_remove-first.result j.result (placed g c) (was g c)
    (joins_first (view c.swap_remove-first.result) (view c.args.pass) (view j.result) j.ensures.first_cell j.ensures.owned j.ensures.first_grows)

pub returns-clause-second : goal.returns-clause-second
returns-clause-second g c b e =
    let view = g.C.LockCell.pass_view in
    let j = c.join-joined in
    let now = map_get view c.swap.new.self.items c.args.x j.result (ap (λ l. slice_get l c.args.x) (placed g c) ∙ get_set_same c.args.merged.now.items c.args.x j.result c.swap_remove-first.result (was g c)) in
    subst (λ z. Joins (view c.args.pass) z) (one_of (view j.result) b _ now e)
    (joins_second (view c.swap_remove-first.result) (view c.args.pass) (view j.result) j.ensures.second_cell j.ensures.owned j.ensures.second_grows)
