use Rattle.std.proofs.Common.{◌+◌, sym, subst}
use Rattle.std_alloc.specs.Arc.{arc_value}
use Rattle.guarded_cell.specs.Kinds.{IsPassOf}
use Rattle.cell_callers.specs.OpenCells.{OwnsFirst}
use Rattle.cell_callers.proofs.{Homes.{first_back, next_back, one_back}, open_cell.OpenCell.with_back.Goals.{in-None, in-Some}}
use Rattle.cell_callers.proofs.open_cell.OpenCell.with_back.Goals as goal

pub invariant_of-result : goal.invariant_of-result
invariant_of-result g c =
    let self = c.args.self in
    let cell = arc_value self.cell in
    let T = OwnsFirst cell (self.back + 1) in
    let owns : T c.match-home.home = elim c.match-home.branch [
      | in-None w ↦ subst T (sym w.home-is) (first_back cell self.back c.args.pass c.requires.pass (self.returned.1 w.in-None.is))
      | in-Some w ↦ subst T (sym w.home-is) (next_back cell self.back w.in-Some.first c.args.pass w.join-home.result (self.returned.0 w.in-Some.first w.in-Some.is) c.requires.pass (subst (λ z. IsPassOf z w.join-home.result) w.deref.ensures w.join-home.ensures.pass) w.join-home.ensures.owned)
    ] in
    record { of = self.of; returned = one_back cell (self.back + 1) c.match-home.home owns; some = self.some; any = self.any }
