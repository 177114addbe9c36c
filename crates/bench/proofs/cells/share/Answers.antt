use Rattle.std.proofs.Common.{◌≡◌, ◌∷◌, suc, refl, sym, subst}
use Rattle.std.specs.{Arc.arc_value, Vec.Iter.into_iter_items}
use Rattle.word_rule.specs.Cell.{EachAt}
use Rattle.bench.specs.Passes.{IsPassOf}
use Rattle.bench.proofs.cells.share.Goals as goal

pub loop-pass-init : goal.loop-pass-init
loop-pass-init c =
    let shared = subst (λ cell. EachAt (λ _ p. IsPassOf cell p) c.args.passes.items) (sym c.in_ok-shared.ensures.ok) c.requires in
    subst (λ passes. EachAt (λ _ p. IsPassOf (arc_value c.in_ok-shared.shared) p) passes) (sym c.into_iter-pass-iterator.ensures.into_iter_gives.0) shared

pub loop-pass-preserved : goal.loop-pass-preserved
loop-pass-preserved c =
    let next : into_iter_items c.loop-pass.pass-iterator ≡ c.in-Some.pass ∷ into_iter_items c.next.new.self = c.in-Some.ensures.steps.0 in
    λ k p is. (rw next at c.loop-pass.invariant) (suc k) p is

pub invariant_of-push : goal.invariant_of-push
invariant_of-push c =
    let next : into_iter_items c.loop-pass.pass-iterator ≡ c.in-Some.pass ∷ into_iter_items c.next.new.self = c.in-Some.ensures.steps.0 in
    let ours = (rw next at c.loop-pass.invariant) 0 c.in-Some.pass refl in
    record { ours = subst (λ cell. IsPassOf cell c.in-Some.pass) (sym c.in_ok-cell.ensures) ours }
