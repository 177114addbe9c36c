use Rattle.std.proofs.Common.{◌≡◌, ◌++◌, ◌∷◌, [], ap, ◌∙◌}
use Rattle.std.specs.Option.{option_to_list}
use Rattle.word_rule.specs.{Passes.view_of_pass, Cell.OwnsAll}
use Rattle.guarded_cell.specs.Unused.{IsUnused}
use Rattle.guarded_cell.proofs.JoinedPasses.{front_each, last_each, owns_each, left_unused}
use Rattle.guarded_cell.proofs.unused_cell.end_unused.Goals as goal

pub join_unused-whole-requires-clause-first : goal.join_unused-whole-requires-clause-first
join_unused-whole-requires-clause-first g c =
    let rest = c.pop.new.self.items in let last = c.unwrap-last.result in
    let split : c.args.passes.items ≡ rest ++ last ∷ [] = c.pop.ensures.items ∙ ap (λ o. rest ++ option_to_list o) c.unwrap-last.ensures in
    last_each (IsUnused c.args.cell) c.args.passes.items rest last split c.requires.unused

pub join_unused-whole-requires-clause-others : goal.join_unused-whole-requires-clause-others
join_unused-whole-requires-clause-others g c =
    let rest = c.pop.new.self.items in let last = c.unwrap-last.result in
    let split : c.args.passes.items ≡ rest ++ last ∷ [] = c.pop.ensures.items ∙ ap (λ o. rest ++ option_to_list o) c.unwrap-last.ensures in
    front_each (IsUnused c.args.cell) c.args.passes.items rest last split c.requires.unused

pub close-requires-clause-pass : goal.close-requires-clause-pass
close-requires-clause-pass g c = c.join_unused-whole.ensures.unused.pass

pub close-requires-clause-whole : goal.close-requires-clause-whole
close-requires-clause-whole g c =
    let rest = c.pop.new.self.items in let last = c.unwrap-last.result in let whole = c.join_unused-whole.result in
    let split : c.args.passes.items ≡ rest ++ last ∷ [] = c.pop.ensures.items ∙ ap (λ o. rest ++ option_to_list o) c.unwrap-last.ensures in
    let w = c.join_unused-whole.ensures in
    owns_each c.args.cell c.args.passes.items rest last whole split w.unused.pass (c.requires.all ∙ c.args.passes.ok.0) c.requires.each w.first w.others

pub returns : goal.returns
returns g c =
    let rest = c.pop.new.self.items in let last = c.unwrap-last.result in let whole = c.join_unused-whole.result in
    let split : c.args.passes.items ≡ rest ++ last ∷ [] = c.pop.ensures.items ∙ ap (λ o. rest ++ option_to_list o) c.unwrap-last.ensures in
    let w = c.join_unused-whole.ensures in
    let all : OwnsAll (view_of_pass whole).caller = owns_each c.args.cell c.args.passes.items rest last whole split w.unused.pass (c.requires.all ∙ c.args.passes.ok.0) c.requires.each w.first w.others in
    c.close.ensures.log ∙ left_unused c.args.cell whole w.unused all
