use Rattle.std.proofs.Common.{refl, sym, ap, subst, ◌∙◌, arith}
use Rattle.std_alloc.specs.Arc.{arc_value}
use Rattle.word_rule.specs.Cell.{EachAt, stored}
use Rattle.guarded_cell.specs.Kinds.{kind_of}
use Rattle.guarded_cell.specs.{Kinds.fixed_of, Unused.IsUnused}
use Rattle.cell_callers.specs.OpenCells.{AreHome}
use Rattle.guarded_cell.proofs.JoinedPasses.{new_unused, new_each, new_left}
use Rattle.cell_callers.proofs.Homes.{new_home, new_numbers, none_back}
use Rattle.cell_callers.proofs.open_cell.OpenCell.open.Goals as goal

pub invariant_of-result : goal.invariant_of-result
invariant_of-result g c =
    let passes = c.in-Ok.passes in
    let home = new_home c.args.kind c.args.logged c.args.cpus c.in-Ok.cell passes.items c.in-Ok.ensures.passes in
    let ok = passes.ok.0 in let count = c.in-Ok.ensures.count in let some = c.requires.some in
    let numbers = new_numbers c.args.kind c.args.logged c.args.cpus c.in-Ok.cell passes.items c.in-Ok.ensures.passes (omega (arith, ok, count, some)) in
    let is = c.in-Ok-new.ensures.ok in
    record {
      of = subst (λ z. AreHome z passes.items) (sym is) home;
      returned = none_back (arc_value c.in-Ok-new.cell);
      some = ap (λ z. (fixed_of z).numbers) is ∙ numbers;
      any = c.requires.some;
    }

pub end_unused-requires-clause-all : goal.end_unused-requires-clause-all
end_unused-requires-clause-all g c =
    let passes = c.in-Ok.passes in
    let ok = passes.ok.0 in let count = c.in-Ok.ensures.count in let some = c.requires.some in
    let numbers = new_numbers c.args.kind c.args.logged c.args.cpus c.in-Ok.cell passes.items c.in-Ok.ensures.passes (omega (arith, ok, count, some)) in
    ap (λ z. (fixed_of z).numbers) c.in-Err-new.ensures.value_returned ∙ (numbers ∙ sym count)

pub end_unused-requires-clause-unused : goal.end_unused-requires-clause-unused
end_unused-requires-clause-unused g c =
    let passes = c.in-Ok.passes in
    let unused = new_unused c.args.kind c.args.logged c.args.cpus c.in-Ok.cell passes.items c.in-Ok.ensures.passes in
    subst (λ z. EachAt (λ _ p. IsUnused z p) passes.items) (sym c.in-Err-new.ensures.value_returned) unused

pub end_unused-requires-clause-each : goal.end_unused-requires-clause-each
end_unused-requires-clause-each g c = new_each c.args.kind c.args.logged c.args.cpus c.in-Ok.cell c.in-Ok.passes.items c.in-Ok.ensures.passes

pub returns-in-Err-new-clause-unchanged : goal.returns-in-Err-new-clause-unchanged
returns-in-Err-new-clause-unchanged g c =
    let passes = c.in-Ok.passes in
    let ok = passes.ok.0 in let count = c.in-Ok.ensures.count in let some = c.requires.some in
    let left = new_left c.args.kind c.args.logged c.args.cpus c.in-Ok.cell passes.items c.in-Ok.ensures.passes (omega (arith, ok, count, some)) c.state-state.ensures.kept in
    c.end_unused.ensures ∙ (ap (λ z. stored g.O.SeqObject (fixed_of z) (fixed_of z).opening) c.in-Err-new.ensures.value_returned ∙ left)

pub returns-in-Ok-new-clause-opened : goal.returns-in-Ok-new-clause-opened
returns-in-Ok-new-clause-opened g c =
    let is = c.in-Ok.ensures in
    record {
      kind = ap kind_of c.in-Ok-new.ensures.ok ∙ is.kind;
      count = is.count;
      cpus = refl;
      back = refl;
      home = refl;
      passes = λ k x there. (is.passes k x there).1;
      runs = is.runs;
    }
