use Rattle.std.proofs.{Common.{◌≡◌, ◌≤◌, ◌+◌, ◌∙◌, Ok, sym, ap, length, length-set, take, drop, arith}, lemmas.List.{drop_all, take_all, take_more_set}}
use Rattle.toml.specs.View.{view, items_view}
use Rattle.scripts.proofs.SettingsTables.{item_there, error_is, quotas_behind, quotas_more, quotas_none, quotas_end}
use Rattle.scripts.proofs.settings.kinds.pool.each_quota.Goals as goal

pub returns-in_err-quotas : goal.returns-in_err-quotas
returns-in_err-quotas c =
    let front = take c.loop-owner.owner c.loop-owner.quotas in
    let rest = items_view (drop (c.loop-owner.owner + 1) c.args.values.now) in
    let here = item_there c.args.values.now c.loop-owner.owner c.index-values-owner.result (omega arith) c.index-values-owner.is in
    let failed = quotas_none front (view c.index-values-owner.result) rest c.in_err-quotas.field-0.0 (sym c.quota.ensures ∙ c.in_err-quotas.was) in
    error_is c.from_residual.result c.in_err-quotas.field-0.0 c.from_residual.ensures.1 ∙ sym (c.loop-owner.invariant.reads ∙ (ap (quotas_behind front) here ∙ failed))

pub loop-owner-preserved : goal.loop-owner-preserved
loop-owner-preserved c =
    let front = take c.loop-owner.owner c.loop-owner.quotas in
    let rest = items_view (drop (c.loop-owner.owner + 1) c.args.values.now) in
    let here = item_there c.args.values.now c.loop-owner.owner c.index-values-owner.result (omega arith) c.index-values-owner.is in
    let longer = take_more_set c.loop-owner.quotas c.loop-owner.owner c.in_ok-quotas.field-0 (omega (arith, c.loop-owner.invariant.count)) in
    record {
      count = length-set c.loop-owner.quotas c.loop-owner.owner c.in_ok-quotas.field-0 ∙ c.loop-owner.invariant.count;
      reads = c.loop-owner.invariant.reads ∙ (ap (quotas_behind front) here
          ∙ quotas_more front _ (view c.index-values-owner.result) rest c.in_ok-quotas.field-0 longer (sym c.quota.ensures ∙ c.in_ok-quotas.was));
    }

pub returns : goal.returns
returns c =
    let front = take c.loop-owner.owner c.loop-owner.quotas in
    let last : length c.args.values.now ≤ c.loop-owner.owner = omega (arith, c.requires) in
    let all : front ≡ c.loop-owner.quotas = take_all c.loop-owner.owner c.loop-owner.quotas (omega (arith, c.loop-owner.invariant.count)) in
    sym (c.loop-owner.invariant.reads ∙ (ap (λ vs. quotas_behind front (items_view vs)) (drop_all c.loop-owner.owner c.args.values.now last) ∙ (quotas_end front ∙ ap Ok all)))
