use Rattle.std.proofs.Common.{ℕ, List, length, ap, sym, subst, arith}
use Rattle.log_merge.specs.Flags.{HasFlag}
use Rattle.log_merge.proofs.Flagged.{clear_has, clear_others}
use Rattle.log_merge.proofs.number_flags.Flags.clear.Goals as goal

pub returns-clause-cleared : goal.returns-clause-cleared
returns-clause-cleared c =
    let words = c.self.inside.words.items in
    let long = ap length c.self.view_is in
    clear_has words c.args.number (omega (arith, long)) c.index_mut.result.now

pub returns-clause-others : goal.returns-clause-others
returns-clause-others c =
    let words = c.self.inside.words.items in
    let long = ap length c.self.view_is in
    λ other apart.
    let same = clear_others words c.args.number (omega (arith, long)) c.index_mut.result.now c.index_mut.ensures.value other apart in (
      λ h. subst (λ (l : List ℕ). HasFlag l other) c.self.view_is (same.0 h),
      λ h. same.1 (subst (λ (l : List ℕ). HasFlag l other) (sym c.self.view_is) h),
    )
