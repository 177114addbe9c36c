use Rattle.std.proofs.Common.{◌≡◌, sym, subst, take, take_all, List, ◌++◌, ◌∷◌, []}
use Rattle.std.specs.List.{AllZip}
use Rattle.word_rule.specs.{declared.machine.cell_spec.CellSpec.CellSpec, declared.machine.lock_words.LockWords.LockWords, Machine.Shown.FreshLock}
use Rattle.word_rule.proofs.Openings.{zip_push, take_more}
use Rattle.word_rule.proofs.machine.room.make_locks.Goals as goal

pub loop-cell-preserved : goal.loop-cell-preserved
loop-cell-preserved g c =
    let pushed : c.push.new.self.items ≡ c.loop-cell.locks.items ++ c.in_ok-lock.lock ∷ [] = c.in_ok-push.ensures.items in
    let longer = take_more c.args.cells.now c.loop-cell.cell-index c.cell-item.result c.loop-cell-test.true c.cell-item.is in
    subst (λ (z : List (CellSpec _ _ _ _) × List LockWords). AllZip (FreshLock g.O.SeqObject c.args.cpus) z.0 z.1) (λ j. (sym longer j, sym pushed j))
    (zip_push (FreshLock g.O.SeqObject c.args.cpus) (take c.loop-cell.cell-index c.args.cells.now) c.loop-cell.locks.items c.cell-item.result c.in_ok-lock.lock c.loop-cell.invariant record { lock = c.in_ok-lock.ensures; kept = c.log.ensures.kept })

pub returns : goal.returns
returns g c = subst (λ l. AllZip (FreshLock g.O.SeqObject c.args.cpus) l c.loop-cell.locks.items) (take_all c.loop-cell.cell-index c.args.cells.now c.loop-cell-test.false) c.loop-cell.invariant
