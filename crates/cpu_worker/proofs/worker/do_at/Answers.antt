use Rattle.std.proofs.{Common.{◌≡◌, ℕ, ◌+◌, ◌-◌, ◌<◌, length, get_or, ap, ◌∙◌, subst, arith, lit<}, Math.ListN.set}
use Rattle.std.specs.List.{SwappedAt}
use Rattle.event_log.specs.Entries.{asked_of}
use Rattle.sound_run.proofs.Slices.{read_get}
use Rattle.kernel_object.specs.contracts.object.KernelObjectSeqObject.TheImpl.{ghosts as kernel}
use Rattle.cpu_worker.proofs.Places.{put_back}
use Rattle.guarded_cell.proofs.Workers.{kept_places, did_at}
use Rattle.cpu_worker.proofs.worker.do_at.Given as given
use Rattle.cpu_worker.proofs.worker.do_at.Goals as goal

pub do_entry-pass-requires : goal.do_entry-pass-requires
do_entry-pass-requires g c =
    let a = c.requires.passes in
    let t = c.requires.able in
    let p = c.swap_remove-pass in
    let below : c.args.entry.now.object < length c.args.cells.now = t.on_cell in
    let within : c.args.entry.now.object < length c.args.passes.now.items = let e = a.count in omega (arith, e, below) in
    let fits = a.each c.args.entry.now.object c.index-cells-x.result p.result (read_get c.args.cells.now c.args.entry.now.object c.index-cells-x.result below c.index-cells-x.is) (read_get c.args.passes.now.items c.args.entry.now.object p.result within p.ensures.value) in
    (lit< tt, (fits, (t.some, t.few)))

-- the pass is another at its place, and nothing else is
placed : (g : given.Over) (c : goal.After-swap g) → c.swap.new.self.items ≡ set c.args.passes.now.items c.args.entry.now.object c.do_entry-pass.result
placed g c =
    let a = c.requires.passes in
    let p = c.swap_remove-pass in
    let x : ℕ = c.args.entry.now.object in
    let xs = c.args.passes.now.items in
    let wide : c.args.passes.now.len ≡ length xs = let o = c.args.passes.now.ok.0 in omega (arith, o) in
    let below : x < length c.args.cells.now = c.requires.able.on_cell in
    let within : x < length xs = let n = a.count in omega (arith, n, below) in
    let shorter : length p.new.self.items + 1 ≡ length xs = let l = p.ensures.len in let n = p.new.self.ok.0 in omega (arith, l, wide, n) in
    let same : length c.swap.new.self.items ≡ length c.push_reserved.new.self.items = let l = c.swap.ensures.len in let o = c.swap.new.self.ok.0 in let n = c.push_reserved.new.self.ok.0 in omega (arith, l, o, n) in
    let last : c.len-last.result ≡ length p.new.self.items = let l = c.len-last.ensures in let n = p.new.self.ok.0 in omega (arith, l, n) in
    put_back xs p.new.self.items c.push_reserved.new.self.items c.swap.new.self.items x c.do_entry-pass.result within shorter
    ((λ d h. p.ensures.by_index.0 d (omega (arith, h, wide)) ∙ ap (λ n. get_or xs (n - 1) d) wide), (λ k d ne h. p.ensures.by_index.1 k d ne (omega (arith, h, wide))))
    c.push_reserved.ensures.items same (subst (λ n. SwappedAt c.push_reserved.new.self.items c.swap.new.self.items x n) last c.swap.ensures.by_index)

pub returns-clause-passes : goal.returns-clause-passes
returns-clause-passes g c =
    let a = c.requires.passes in
    let p = c.swap_remove-pass in
    let e = c.do_entry-pass in
    let x : ℕ = c.args.entry.now.object in
    let below : x < length c.args.cells.now = c.requires.able.on_cell in
    let within : x < length c.args.passes.now.items = let n = a.count in omega (arith, n, below) in
    kept_places g.C.LockCell.is_pass_of c.args.cells.now c.args.passes.now.items c.swap.new.self.items x c.index-cells-x.result p.result e.result a (placed g c)
    (read_get c.args.cells.now x c.index-cells-x.result below c.index-cells-x.is) (read_get c.args.passes.now.items x p.result within p.ensures.value) e.ensures.pass

pub returns-clause-did : goal.returns-clause-did
returns-clause-did g c =
    let p = c.swap_remove-pass in
    let e = c.do_entry-pass in
    let x : ℕ = c.args.entry.now.object in
    let below : x < length c.args.cells.now = c.requires.able.on_cell in
    let within : x < length c.args.passes.now.items = let n = c.requires.passes.count in omega (arith, n, below) in
    did_at kernel g.C.LockCell.pass_view c.args.passes.now.items c.swap.new.self.items p.result e.result (asked_of c.args.entry.now) e.new.entry (placed g c) (read_get c.args.passes.now.items x p.result within p.ensures.value) e.ensures.asked e.ensures.looks e.ensures.caller e.ensures.did
