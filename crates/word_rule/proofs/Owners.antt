-- Callers who own every number of a cell, alone or together.
use Rattle.std.proofs.Common.{◌≡◌, ℕ, zero, suc, ◌<◌, ◌||◌, refl, sym, ap, subst, ◌∙◌, arith}
use Rattle.event_log.specs.History.{History}
use Rattle.sound_run.specs.declared.lock_kind.LockKind.{LockKind}
use Rattle.word_rule.specs.Cell.{Cell, Caller, PassView, OwnsAll, OwnTogether, first_pass}

module _ {O P C R : Type 0} where
  -- two that stay who they are
  pub still_together : (a a' b b' : Caller O P C R) → a' ≡ a → b' ≡ b → OwnTogether a b → OwnTogether a' b'
  still_together a a' b b' e f all = subst (λ z. OwnTogether z b') (sym e) (subst (OwnTogether a) (sym f) all)

  -- two that become one
  pub together_joined : (a b j : Caller O P C R) → j.cell ≡ b.cell → ((k : ℕ) → j.owned k ≡ (a.owned k || b.owned k)) → OwnTogether a b → OwnsAll j
  together_joined a b j cell owned all = record { each = λ k below. owned k ∙ all k (subst (λ (z : Cell O P C R). k < z.numbers) cell below) }

module _ {O P C R : Type 0} {kind : LockKind} {ticket : ℕ} where
  -- the two passes of a cell of two CPUs, in either order
  pub own_both : (x : History O P C R) (p q : PassView O P C R) → p ≡ first_pass kind ticket x 2 0 → q ≡ first_pass kind ticket x 2 1 → OwnTogether p.caller q.caller
  own_both x p q first second = still_together (first_pass kind ticket x 2 0).caller p.caller (first_pass kind ticket x 2 1).caller q.caller (ap (λ z. z.caller) first) (ap (λ z. z.caller) second) each
    where
      each : OwnTogether (first_pass kind ticket x 2 0).caller (first_pass kind ticket x 2 1).caller
      each zero lt = refl
      each (suc zero) lt = refl
      each (suc (suc k)) lt = absurd (omega arith)
