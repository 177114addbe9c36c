use Rattle.std.proofs.Common.{◌≡◌, ◌++◌, suc, ◌+◌, map, take, drop, ◌∙◌, ap, subst, arith, slice_index_or, slice_set}
use Rattle.custom_records.specs.Custom.{CustomStep}
use Rattle.judge.proofs.Fronts.{one_more}
use Rattle.judge.specs.OwnLines.{step_report}
use Rattle.judge.proofs.custom_report.put_steps.Goals as goal

pub loop-i-preserved : goal.loop-i-preserved
loop-i-preserved c =
    let steps = c.args.steps.now in let room = c.args.room.now in let i = c.loop-i.i in
    let other : CustomStep = c.index-steps-i.result in
    let next = one_more step_report steps room i other (omega (arith, c.loop-i-test.true)) c.requires in
    let now = ap (λ s. slice_set c.loop-i.room i s) (c.of.ensures ∙ ap step_report c.index-steps-i.is) ∙ ap (λ r. slice_set r i (step_report (slice_index_or steps i other))) c.loop-i.invariant.written in
    let plus : suc i ≡ i + 1 = omega arith in
    record { written = now ∙ subst (λ n. slice_set (map step_report (take i steps) ++ drop i room) i (step_report (slice_index_or steps i other)) ≡ map step_report (take n steps) ++ drop n room) plus next }
