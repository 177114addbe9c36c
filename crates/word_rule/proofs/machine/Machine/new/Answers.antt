use Rattle.std.proofs.Common.{ℕ, ap, subst, length, List, Vec, arith}
use Rattle.std.specs.{List.AllByRecursion, declared.alloc.Global.Global}
use Rattle.word_rule.specs.{declared.machine.cell_spec.CellSpec.CellSpec, Machine.Shown.{FreshLocks, FreshDone}, Machine.SoundWorld.IsTodo}
use Rattle.word_rule.proofs.Openings.{opening_is, opening_shows, opening_roomy, opening_runs}
use Rattle.word_rule.proofs.machine.Machine.new.Goals as goal

pub returns-in-Err-clause-opening : goal.returns-in-Err-clause-opening
returns-in-Err-clause-opening g c = opening_is c.args.cells.items c.args.scripts.items (omega (arith, c.requires.cpus.1, c.args.scripts.ok.0)) c.requires.empty
    (subst (λ n. AllByRecursion (λ (s : Vec _ Global). AllByRecursion (λ t. IsTodo n t) s.items) c.args.scripts.items) c.args.cells.ok.0 c.requires.able)

pub returns-in-Ok-clause-opening : goal.returns-in-Ok-clause-opening
returns-in-Ok-clause-opening g c = opening_is c.args.cells.items c.args.scripts.items (omega (arith, c.requires.cpus.1, c.args.scripts.ok.0)) c.requires.empty
    (subst (λ n. AllByRecursion (λ (s : Vec _ Global). AllByRecursion (λ t. IsTodo n t) s.items) c.args.scripts.items) c.args.cells.ok.0 c.requires.able)

pub returns-in-Ok-clause-shows : goal.returns-in-Ok-clause-shows
returns-in-Ok-clause-shows g c =
    let e = c.in-Ok.ensures in
    opening_shows c.args.cells.items c.args.scripts.items g.O.SeqObject c.in-Ok.field-0.locks.items c.in-Ok.field-0.done.items
    (subst (λ (z : List (CellSpec _ _ _ _) × ℕ). FreshLocks g.O.SeqObject z.1 z.0 c.in-Ok.field-0.locks.items) (λ j. (c.as_slice.ensures.value j, length (c.as_slice-2.ensures.value j))) e.locks)
    (subst (λ l. FreshDone l c.in-Ok.field-0.done.items) c.as_slice-2.ensures.value e.done)

pub invariant_of-result : goal.invariant_of-result
invariant_of-result g c =
    let e = c.in-Ok.ensures in
    let locks = subst (λ (z : List (CellSpec _ _ _ _) × ℕ). FreshLocks g.O.SeqObject z.1 z.0 c.in-Ok.field-0.locks.items) (λ j. (c.as_slice.ensures.value j, length (c.as_slice-2.ensures.value j))) e.locks in
    let done = subst (λ l. FreshDone l c.in-Ok.field-0.done.items) c.as_slice-2.ensures.value e.done in
    let opening = opening_is c.args.cells.items c.args.scripts.items (omega (arith, c.requires.cpus.1, c.args.scripts.ok.0)) c.requires.empty
    (subst (λ n. AllByRecursion (λ (s : Vec _ Global). AllByRecursion (λ t. IsTodo n t) s.items) c.args.scripts.items) c.args.cells.ok.0 c.requires.able) in (
      opening_runs c.args.cells.items c.args.scripts.items g.O.SeqObject c.in-Ok.field-0.locks.items c.in-Ok.field-0.done.items locks done opening,
      opening_roomy c.args.cells.items c.args.scripts.items g.O.SeqObject c.in-Ok.field-0.locks.items c.in-Ok.field-0.done.items locks done _ _ (omega (arith, c.requires.cells.1, c.args.cells.ok.0)) (omega (arith, c.requires.cpus.1, c.args.scripts.ok.0))
          (omega (arith, ap length c.as_slice.ensures.value, e.logs.1)) (omega (arith, ap length c.as_slice-2.ensures.value, e.transcripts.1)),
      e.logs.0,
      e.transcripts.0,
      c.requires.stored,
    )
