use Rattle.std.proofs.Common.{ℕ, List, length, ap, sym, subst, arith}
use Rattle.log_merge.specs.Flags.{HasFlag}
use Rattle.log_merge.proofs.Flagged.{set_has, set_others}
use Rattle.log_merge.proofs.number_flags.Flags.set.Goals as goal

pub returns-clause-set : goal.returns-clause-set
returns-clause-set c =
    let words = c.self.inside.words.items in
    let long = ap length c.self.view_is in
    set_has words c.args.number (omega (arith, long)) c.index_mut.result.now

pub returns-clause-others : goal.returns-clause-others
returns-clause-others c =
    let words = c.self.inside.words.items in
    let long = ap length c.self.view_is in
    λ other apart.
    let same = set_others words c.args.number (omega (arith, long)) c.index_mut.result.now c.index_mut.ensures.value other apart in (
      λ h. subst (λ (l : List ℕ). HasFlag l other) c.self.view_is (same.0 h),
      λ h. same.1 (subst (λ (l : List ℕ). HasFlag l other) (sym c.self.view_is) h),
    )
