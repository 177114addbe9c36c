use Rattle.std.proofs.Common.{◌≡◌, sym, subst, take, List, ◌++◌, ◌∷◌, [], Vec, arith}
use Rattle.std.specs.{List.AllZip, declared.alloc.Global.Global}
use Rattle.word_rule.specs.{declared.machine.progress.Progress.Progress, Machine.Shown.FreshCpu}
use Rattle.word_rule.proofs.Openings.{zip_push, take_more}
use Rattle.word_rule.proofs.machine.room.make_done.Goals as goal

pub loop-script-preserved : goal.loop-script-preserved
loop-script-preserved g c =
    let pushed : c.push.new.self.items ≡ c.loop-script.done.items ++ c.in_ok-progress.progress ∷ [] = c.in_ok-push.ensures.items in
    let longer = take_more c.args.scripts.now c.loop-script.script-index c.script-item.result c.loop-script-test.true c.script-item.is in
    let f = c.in_ok-progress.ensures in
    subst (λ (z : List (Vec _ Global) × List (Progress _ _ _ _)). AllZip FreshCpu z.0 z.1) (λ j. (sym longer j, sym pushed j))
    (zip_push FreshCpu (take c.loop-script.script-index c.args.scripts.now) c.loop-script.done.items c.script-item.result c.in_ok-progress.progress c.loop-script.invariant record { at = f.0; transcript = f.1; looks = f.2; room = omega (arith, f.3, c.script-item.result.ok.0) })
