use Rattle.std.proofs.Common.{refl, sym, subst}
use Rattle.std_alloc.specs.Arc.{arc_value}
use Rattle.guarded_cell.specs.Kinds.{IsPassOf}
use Rattle.cell_callers.specs.OpenCells.{AreHome}
use Rattle.cell_callers.proofs.{Homes.{front_home, last_home}, Idle.{idle_of, idle_one}}
use Rattle.cell_callers.proofs.open_cell.OpenCell.new_caller.Goals as goal

pub invariant_of-caller : goal.invariant_of-caller
invariant_of-caller g c =
    let cell = arc_value c.args.self.cell in
    let pass = c.in-Some.pass in
    let home = last_home cell c.pop-dealt.new.self.items pass (subst (AreHome cell) c.in-Some.ensures.items c.args.self.of) in
    let own = arc_value c.in-Ok.shared in
    record { there = refl; of = idle_of own pass (subst (λ z. IsPassOf z pass) (sym c.in-Ok.ensures) home.of); one = idle_one own pass home.one }

pub invariant_of-rest-2 : goal.invariant_of-rest-2
invariant_of-rest-2 g c =
    let self = c.args.self in
    record { of = front_home (arc_value self.cell) c.pop-dealt.new.self.items c.in-Some.pass (subst (AreHome (arc_value self.cell)) c.in-Some.ensures.items self.of); returned = self.returned; some = self.some; any = self.any }
