use Rattle.std.proofs.{Common.{◌≡◌, [], ◌∷◌, ◌++◌, map, ap, sym, ◌∙◌, arith}, lemmas.List.map-append, lemmas.List.FromFn.map-range_with_len_more}
use Rattle.scripts.specs.ScriptText.{script_of, dealt}
use Rattle.scripts.proofs.script.lines.empty_lists.Goals as goal

pub loop-init : goal.loop-init
loop-init c = ap (map (λ l. l.items)) c.new-lists.ensures.items

pub loop-preserved : goal.loop-preserved
loop-preserved c =
    ap (map (λ l. l.items)) c.in-Ok.ensures.items
    ∙ (map-append (λ l. l.items) c.loop.lists.items (c.new.result ∷ [])
    ∙ (ap (λ ls. ls ++ c.new.result.items ∷ []) c.loop.invariant
    ∙ (ap (λ l. dealt c.loop.counter [] ++ l ∷ []) c.new.ensures.items
    ∙ sym (map-range_with_len_more (λ cpu. script_of cpu []) 0 c.loop.counter c.loop.counter (omega arith)))))

pub returns-clause-lists : goal.returns-clause-lists
returns-clause-lists c =
    let last : c.loop.counter ≡ c.args.cpus = omega (arith, c.loop-test.false, c.loop.auto.counter-end) in
    c.loop.invariant ∙ ap (λ n. dealt n []) last
