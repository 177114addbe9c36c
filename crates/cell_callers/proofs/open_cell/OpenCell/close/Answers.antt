use Rattle.std.proofs.Common.{◌≡◌, sym, subst, arith, Some}
use Rattle.std_alloc.specs.Arc.{arc_value}
use Rattle.guarded_cell.specs.Kinds.{fixed_of}
use Rattle.cell_callers.specs.OpenCells.{AreHome, IsBack}
use Rattle.cell_callers.proofs.Homes.{one_back, owns_all}
use Rattle.cell_callers.proofs.open_cell.OpenCell.close.Goals as goal

pub close-requires-clause-whole : goal.close-requires-clause-whole
close-requires-clause-whole g c =
    let self = c.args.self in
    let first = self.returned.0 c.in-Some.pass c.in-Some.is in
    owns_all (arc_value self.cell) self.back c.in-Some.pass first
    (λ k below. let some = self.some in let all = c.if-self.false in omega (arith, below, some, all))

pub invariant_of-open-in-Err : goal.invariant_of-open-in-Err
invariant_of-open-in-Err g c =
    let self = c.args.self in
    let same = sym c.in-Err.ensures.err in
    record {
      of = subst (λ z. AreHome (arc_value z) self.passes.items) same self.of;
      returned = subst (λ z. IsBack (arc_value z) self.back (Some c.in-Some.pass)) same (one_back (arc_value self.cell) self.back c.in-Some.pass (self.returned.0 c.in-Some.pass c.in-Some.is));
      some = subst (λ z. (fixed_of (arc_value z)).numbers ≡ self.cpus) same self.some;
      any = self.any;
    }
