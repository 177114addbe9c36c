use Rattle.std.proofs.{Common.{◌≡◌, ℕ, List, false, take, get_or, sym, subst}, lemmas.List.get_or_default}
use Rattle.event_log.specs.Distinct.{has}
use Rattle.event_log.proofs.Distinct.{has_push}
use Rattle.auditor.proofs.Splits.{take_one, take_all}
use Rattle.log_merge.proofs.walk.place_of.Goals as goal

pub loop-i-preserved : goal.loop-i-preserved
loop-i-preserved c =
    let y = get_or c.args.xs.now c.loop-i.i 0 in
    let step = take_one c.args.xs.now c.loop-i.i y c.loop-i-test.true (get_or_default c.args.xs.now c.loop-i.i 0 y c.loop-i-test.true) in
    subst (λ (l : List ℕ). has c.args.x l ≡ false) (sym step) (has_push c.args.x y (take c.loop-i.i c.args.xs.now) c.loop-i.invariant (λ q. c.if-y-x.false (sym q)))

pub returns : goal.returns
returns c = subst (λ (l : List ℕ). has c.args.x l ≡ false) (take_all c.args.xs.now c.loop-i.i c.loop-i-test.false) c.loop-i.invariant
