use denote.{Exit.yes, Param.Send.{param_send, arg_send}}
use Rattle.std.proofs.Common.{rules, ◌≡◌, Some, slice_get, ap, ◌∙◌}
use Rattle.word_rule.specs.Passes.{view_of_pass}
use Rattle.word_rule.proofs.Owners.{own_both}
use Rattle.counter.proofs.Sends.{counter_pass_send}
use Rattle.counter.proofs.counted_by_two.Goals as goal

pub two_callers-counter-requires-send-C-Pass : goal.two_callers-counter-requires-send-C-Pass
two_callers-counter-requires-send-C-Pass g c κs within = param_send _ _ (arg_send _ yes _ (counter_pass_send _ _ _ _ _))

pub two_callers-counter-requires-clause-first : goal.two_callers-counter-requires-clause-first
two_callers-counter-requires-clause-first g c κs within =
    let zero : slice_get c.in-Ok-open.passes.items 0 ≡ Some c.unwrap-zero.result = search rules in
    (c.in-Ok-open.ensures.passes 0 c.unwrap-zero.result zero).0

pub two_callers-counter-requires-clause-second : goal.two_callers-counter-requires-clause-second
two_callers-counter-requires-clause-second g c κs within =
    let one : slice_get c.in-Ok-open.passes.items 1 ≡ Some c.unwrap-one.result = search rules in
    (c.in-Ok-open.ensures.passes 1 c.unwrap-one.result one).0

pub two_callers-counter-requires-clause-all : goal.two_callers-counter-requires-clause-all
two_callers-counter-requires-clause-all g c κs within =
    let zero : slice_get c.in-Ok-open.passes.items 0 ≡ Some c.unwrap-zero.result = search rules in
    let one : slice_get c.in-Ok-open.passes.items 1 ≡ Some c.unwrap-one.result = search rules in
    own_both c.in-Ok.counter (view_of_pass c.unwrap-zero.result) (view_of_pass c.unwrap-one.result)
    (c.in-Ok-open.ensures.passes 0 c.unwrap-zero.result zero).1 (c.in-Ok-open.ensures.passes 1 c.unwrap-one.result one).1

pub returns : goal.returns
returns g c =
    let zero : slice_get c.in-Ok-open.passes.items 0 ≡ Some c.unwrap-zero.result = search rules in
    ap (λ h. h.params) c.two_callers-counter.ensures.ended.replayed
    ∙ (ap (λ v. v.caller.cell.params) (c.in-Ok-open.ensures.passes 0 c.unwrap-zero.result zero).1
    ∙ ap (λ h. h.params) c.in-Ok.ensures.opened)
